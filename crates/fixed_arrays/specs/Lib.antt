pub mod Names
pub mod Slots
pub mod Table
pub mod Answer
pub mod Literals
pub mod Inner
pub mod Laws
pub mod Lemmas
