-- What stands in unused places, and what of it is read
pub mod Shape
-- items that fit, one by one and together
pub mod Fitting
pub mod Joining
-- the latest change
pub mod Undoing
-- and what follows
pub mod Laws
