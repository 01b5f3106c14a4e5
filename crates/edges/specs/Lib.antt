pub mod Ranges
pub mod Marks
pub mod Maps
pub mod Laws
pub mod Shut
pub mod One
