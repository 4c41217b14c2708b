pub mod Names
pub mod Fields
pub mod Answer
pub mod Laws
