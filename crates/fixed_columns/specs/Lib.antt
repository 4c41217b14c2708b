pub mod Cells
pub mod Rows
pub mod ColumnText
pub mod Answer
pub mod Program
pub mod Laws
pub mod Lemmas
