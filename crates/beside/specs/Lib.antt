pub mod Beside
pub mod Laws
