-- What the parts say
pub mod Placing
-- and what follows
pub mod Laws
