-- What the contracts say
pub mod Crowding
pub mod Filling
-- and what follows
pub mod Laws
