pub mod ToolNames
pub mod Names
pub mod Shapes
pub mod Laws
pub mod Inner
