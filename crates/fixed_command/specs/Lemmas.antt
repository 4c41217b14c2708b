-- Lemmas for the laws of a rule; no contract cites them.
pub mod BlockLemmas
pub mod ErrorLemmas
pub mod FieldLemmas
pub mod LaidLineLemmas
pub mod LayoutLemmas
pub mod LeastLemmas
pub mod MovedLemmas
pub mod ProductLemmas
pub mod ReplyLemmas
pub mod RenamedLemmas
