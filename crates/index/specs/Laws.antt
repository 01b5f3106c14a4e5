-- What follows from the definitions: nothing here has to be believed.

-- counts of bits and of words
pub mod Words
pub mod Counts
-- arrays by their places, and the lines of the sheet
pub mod Arrays
pub mod Lined
-- an index has one sheet
pub mod One
