-- What follows from the definitions: nothing here has to be believed.

-- which record was read; the replies, kind by kind; keep-outs, wires and the slice
pub mod Kinds
pub mod Replying
pub mod Stopping
pub mod Wiring
pub mod Slices
pub mod Telling
-- the demands are met
pub mod Met
