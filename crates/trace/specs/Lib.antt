pub mod Trail
pub mod Leading
pub mod Over
pub mod Hops
pub mod Next
pub mod Tracing
pub mod One
