pub mod Shortest
pub mod Texts
pub mod Places
pub mod Bases
pub mod Styled
pub mod Laws
pub mod Inner
