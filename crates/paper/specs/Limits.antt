-- Document 01, "Numbers": each limit stands here, and once.
-- Assumes nothing.
use Rattle.std.specs.Prelude.{ℕ}

abbrev pub most_side : ℕ
most_side = 30000

abbrev pub most_clearance : ℕ
most_clearance = 200

abbrev pub most_blocks : ℕ
most_blocks = 46

abbrev pub most_runs : ℕ
most_runs = 24

-- a wire has a corner more than runs
abbrev pub most_corners : ℕ
most_corners = 25

-- x and y of each corner
abbrev pub least_slice : ℕ
least_slice = 50

abbrev pub most_kept : ℕ
most_kept = 32
