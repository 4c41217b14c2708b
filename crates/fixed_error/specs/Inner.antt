-- Contracts of private functions. No public contract cites them.
pub mod Sums
pub mod Cut
pub mod Gap
pub mod Greatest
pub mod Rest
pub mod Words
