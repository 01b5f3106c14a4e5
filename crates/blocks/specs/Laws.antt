-- What follows from the definitions: nothing here has to be believed.

-- for callers: what the arrays hold, and what a scan's answer says of a board's items
pub mod Held
pub mod Found
-- for the proofs of this crate: lists, the scan's steps, and how the arrays are filled
pub mod Lists
pub mod Scanned
pub mod Grown
pub mod Added
pub mod Board
-- two items against each other
pub mod Meeting
