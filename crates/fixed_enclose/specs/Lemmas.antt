-- Proofs that traits need; no contract cites them.
pub mod EnclosureLemmas
pub mod FaultLemmas
pub mod AnswerLemmas
pub mod ProgramLemmas
