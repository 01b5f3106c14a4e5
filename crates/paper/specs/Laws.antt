-- What follows from the definitions: nothing here has to be believed. More of it, that rests on what an edit of must-fail/ turns, stands in ../proofs.

-- lists, items, unit steps
pub mod Lists
pub mod Among
pub mod Apart
pub mod Covering
pub mod Steps
-- one answer to everything
pub mod Checks
pub mod Least
pub mod Read
pub mod Back
pub mod One
-- an accepted record leaves a well-formed board
pub mod Traced
pub mod Opens
pub mod Joins
pub mod Cells
pub mod Seams
pub mod Next
pub mod Shape
pub mod Filled
pub mod Standing
-- seams by rectangles of two
pub mod Joining
pub mod Closing
-- demand 3
pub mod Story
-- demand 2: every wire that is told
pub mod Detour
pub mod Length
pub mod Told
-- tests that compute: Table P, and boards that are not well formed
pub mod Says
pub mod Tests
pub mod Decided
pub mod Certificate
pub mod Distances
pub mod Feeds
pub mod Smallest
pub mod Damaged
pub mod Blamed
-- wires drawn by hand
pub mod Bent
pub mod Walked
pub mod Drawn
pub mod Named
-- fewer turns
pub mod Modes
