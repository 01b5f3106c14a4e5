-- What the contracts say
pub mod Crowded
-- and what follows
pub mod Laws
