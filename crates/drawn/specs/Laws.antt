-- What follows from the definitions: nothing here has to be believed.

-- the corners that the numbers are, and the length of their runs
pub mod Numbers
pub mod Long
-- what is said of them
pub mod Excess
pub mod Judging
