-- What the contracts say
pub mod Bits
pub mod Rows
-- and what follows
pub mod Laws
