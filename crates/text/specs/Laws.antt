-- What follows from the definitions: nothing here has to be believed.

-- a number and a text have one spelling
pub mod Decimal
pub mod Spelling
-- texts put one after another
pub mod Written
