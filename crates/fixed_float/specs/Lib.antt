pub mod Floats
pub mod Nearest
pub mod Short
pub mod Kept
pub mod Laws
pub mod Inner
