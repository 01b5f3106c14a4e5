-- What the contracts say
pub mod Text
-- and what follows
pub mod Laws
