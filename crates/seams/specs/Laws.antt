-- the rectangle of two
pub mod Rectangle
-- a loop over items; one item; a node
pub mod Crossing
pub mod Rounding
-- what is held is what the things are
pub mod Closing
pub mod Sunk
pub mod Seamed
