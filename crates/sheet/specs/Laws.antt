-- What follows from the definitions: nothing here has to be believed.

-- what the proofs of this crate lean on
pub mod Lines
pub mod Pieces
-- the lent numbers do not matter, and which records show what
pub mod Lent
pub mod Shown
-- a file has one sheet, and the steps print it
pub mod One
pub mod Printing
-- lines that document 01 prints
pub mod Worked
