-- What follows from the definitions: nothing here has to be believed.

-- marks as bits
pub mod Marking
-- from a mark to a whole edge
pub mod Opened
-- a layout has one index, and one sheet
pub mod One
