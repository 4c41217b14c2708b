-- Contracts of private functions.
pub mod Made
pub mod Progress
pub mod Steps
pub mod Tracked
