-- What follows from the definitions: nothing here has to be believed.

-- what the proofs of this crate lean on
pub mod Words
pub mod Pieces
pub mod Placed
-- what a line shows with each code
pub mod Shown
-- the pieces give one text
pub mod One
-- numbers and lines of the example
pub mod Worked
