pub mod Laws
pub mod Rejects
pub mod Shown
