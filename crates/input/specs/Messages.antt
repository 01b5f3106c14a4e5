-- What a program says when it breaks off.
-- Assumes nothing.
use Rattle.std.specs.Prelude.{ℕ, List, codes}
use Rattle.input.specs.declared.Broken.{Broken}
use Rattle.input.specs.declared.Broken.TheVariants.{Unread, Unwritten}

abbrev pub message : Broken → List ℕ
message Unread = codes "standard input cannot be read"
message Unwritten = codes "standard output cannot be written"
