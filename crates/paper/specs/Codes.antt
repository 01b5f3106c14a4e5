-- The paper's number of each reason.
-- Assumes nothing.
use Rattle.std.specs.Prelude.{ℕ}
use Rattle.paper.specs.declared.Refusal.{Refusal}
use Rattle.paper.specs.declared.Refusal.TheVariants.{Malformed, NoBounds, OutOfRange, IdInUse, IdNotInUse, NoRectangle, OnKeepOut, OnWire, OffBoard, OneNode, PinInKeepOut, NoWire, TooManyRuns, TooManyBlocks, NothingKept, ShortSlice, IllFormed, PinNearWire, RunInKeepOut, CornerCount, BadRun, RunNearWire, OtherIndex}

abbrev pub code_of : Refusal → ℕ
code_of Malformed = 1
code_of NoBounds = 2
code_of OutOfRange = 3
code_of IdInUse = 4
code_of IdNotInUse = 5
code_of NoRectangle = 6
code_of OnKeepOut = 7
code_of OnWire = 8
code_of OffBoard = 9
code_of OneNode = 10
code_of PinInKeepOut = 11
code_of NoWire = 12
code_of TooManyRuns = 13
code_of TooManyBlocks = 14
code_of NothingKept = 15
code_of ShortSlice = 16
code_of IllFormed = 17
code_of PinNearWire = 18
code_of RunInKeepOut = 20
code_of CornerCount = 22
code_of BadRun = 23
code_of RunNearWire = 24
code_of OtherIndex = 25
