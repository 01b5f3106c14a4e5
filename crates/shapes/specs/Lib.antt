-- One wire's corners, and what is wrong with them
pub mod Corners
pub mod Faults
-- and what follows
pub mod Laws
