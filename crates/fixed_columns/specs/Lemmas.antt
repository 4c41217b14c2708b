-- Proofs that traits need; no contract cites them.
pub mod OrderLemmas
pub mod RowLemmas
pub mod SortedLemmas
pub mod ColumnsLemmas
pub mod ProgramLemmas
