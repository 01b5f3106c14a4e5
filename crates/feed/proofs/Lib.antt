-- What several proofs share
pub mod Arms
pub mod ByKind
-- and what one cites
pub mod Used
pub mod BetweenPins
pub mod Taking
