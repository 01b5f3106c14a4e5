-- What the parts say
pub mod Drawing
-- and what follows
pub mod Laws
