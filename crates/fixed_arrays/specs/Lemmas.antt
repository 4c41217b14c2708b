-- Proofs that a trait needs; no contract cites them.
pub mod AnswerLemmas
pub mod LiteralLemmas
pub mod ReadingLemmas
