-- What the contracts say
pub mod Sheet
-- and what follows
pub mod Laws
