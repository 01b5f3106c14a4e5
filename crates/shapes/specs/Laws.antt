-- What follows from the definitions: nothing here has to be believed.

-- an item's corners and runs, place by place
pub mod Corners
-- their shape
pub mod Bad
pub mod Fits
