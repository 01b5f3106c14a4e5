-- Theorems only: a search over the crossings of tracks answers for the whole grid. They are stated over any rule for open unit edges that obeys
-- two slab laws (Crossings, `Sliced`), with no bound on coordinates or on the number of blocks.
--
-- What a program has to show is in Route (for the paper's own rule), Search, Onward and Modes; what it gets is in Modes and, in ../proofs, in Route
-- and Written; the rest is the proof. Theorems that rest on what an edit of must-fail/ turns stand in ../proofs.

-- one axis, then both
pub mod Axes
pub mod Tracks
pub mod Beside
pub mod Crossings
pub mod Ways
-- a bound at the crossings is one on the whole grid
pub mod Turns
pub mod Cost
pub mod Cells
pub mod Spread
-- within a run a refused direction stays refused
pub mod Aside
pub mod Run
-- the trace over settled tables, where a turn costs τ
pub mod Tables
-- what a search leaves behind: the trace never sticks
pub mod Search
pub mod Onward
-- it is the answered wire in each mode; what its corners are
pub mod Modes
-- the paper's rule obeys the laws; all together
pub mod Rule
pub mod Route
