-- Proofs that traits need; no contract cites them.
pub mod NameLemmas
pub mod ConstantsLemmas
pub mod ProgramLemmas
pub mod FormLemmas
