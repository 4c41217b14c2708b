pub mod Holding
pub mod Least
pub mod Program
pub mod Laws
pub mod Inner
pub mod Lemmas
