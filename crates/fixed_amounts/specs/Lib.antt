pub mod Explained
pub mod Names
pub mod Reading
pub mod Reply
pub mod Facts
pub mod Laws
pub mod Lemmas
