-- What a reader must believe, in the order of document 01
pub mod Limits
pub mod Grid
pub mod Wire
pub mod Layout
pub mod Padding
pub mod Reading
pub mod Answer
pub mod Codes
pub mod History
pub mod TableP
pub mod Copper
-- document 02, in the order of its requests
pub mod Drawn
-- and what follows from it
pub mod Laws
