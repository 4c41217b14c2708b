pub mod Words
pub mod Run
pub mod Told
pub mod Laws
pub mod Inner
pub mod Lemmas
