-- Proofs that traits need; no contract cites them.
pub mod HoldingLemmas
pub mod LeastLemmas
pub mod ProgramLemmas
