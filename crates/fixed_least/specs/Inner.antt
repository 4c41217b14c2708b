-- Contracts of private functions.
pub mod Exact
pub mod Valued
pub mod Slots
