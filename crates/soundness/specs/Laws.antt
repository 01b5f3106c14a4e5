-- What follows from the definitions: nothing here has to be believed.

-- the struct, place by place
pub mod Places
pub mod Whole
pub mod Fits
pub mod Stands
-- items together
pub mod Joined
pub mod Front
-- changes
pub mod Latest
pub mod Undone
-- the whole board
pub mod Sound
-- wires along seams
pub mod Seams
