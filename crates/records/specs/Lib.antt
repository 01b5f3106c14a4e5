pub mod Row
pub mod Laws
