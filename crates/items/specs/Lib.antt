-- What the contracts say
pub mod Items
-- and what follows
pub mod Laws
