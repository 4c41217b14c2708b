-- Definitions for contracts of private functions. No public contract cites them.
pub mod Spaces
pub mod FormatKeys
pub mod NameParts
pub mod Places
