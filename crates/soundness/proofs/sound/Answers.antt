-- `soundness::sound` meets its contract: the struct stands, and the layout that is read back is fresh or has bounds.
use Rattle.std.proofs.Common.{rules}
use Rattle.soundness.specs.Laws.Sound.{sound_said}
use Rattle.soundness.proofs.sound.Goals as goal

pub returns-then-unused : goal.returns-then-unused
returns-then-unused c = sound_said c.args.board (search rules)

pub returns-else-unused : goal.returns-else-unused
returns-else-unused c = sound_said c.args.board (search rules)

pub returns-else-stands : goal.returns-else-stands
returns-else-stands c = sound_said c.args.board (search rules)
