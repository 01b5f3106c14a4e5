-- `router::by_mode` meets its contract.
use Rattle.router.specs.Modes.{in_plain}
use Rattle.router.proofs.by_mode.Goals as goal

pub returns-in-Plain : goal.returns-in-Plain
returns-in-Plain c = in_plain _ _ _ _ _ _ _ c.in-Plain.is c.tell.ensures
