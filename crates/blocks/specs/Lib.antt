-- What a reader must believe of the arrays and of the scan
pub mod Flat
-- how the arrays are filled
pub mod Growing
-- two items against each other
pub mod Meeting
-- and what follows
pub mod Laws
