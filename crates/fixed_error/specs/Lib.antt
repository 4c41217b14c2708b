pub mod ErrorSize
pub mod Greatest
pub mod Short
pub mod Errors
pub mod Cut
pub mod Laws
pub mod Inner
