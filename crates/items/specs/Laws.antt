-- What follows from the definitions: nothing here has to be believed.

-- for callers: what it means that an id is found
pub mod Found
-- for the proofs of this crate: arrays shifted by a place, and the board that holds them
pub mod Arrays
pub mod Boards
pub mod Changes
pub mod Accepted
