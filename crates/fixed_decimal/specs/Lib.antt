pub mod Decimals
pub mod Texts
pub mod Laws
pub mod Inner
