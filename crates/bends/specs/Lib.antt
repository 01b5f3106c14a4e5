pub mod Table
pub mod Going
pub mod Writing
pub mod Counting
pub mod Visiting
pub mod One
