-- What the contracts say
pub mod Filled
-- what the proofs share
pub mod Filling
