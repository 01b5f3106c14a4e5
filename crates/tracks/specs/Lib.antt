-- What a reader must believe
pub mod Tracks
-- What a user of the tracks may cite
pub mod Laws
-- What the functions on the way promise
pub mod Parts
-- and what their proofs rest on
pub mod Places
pub mod Added
pub mod Gathered
pub mod Put
