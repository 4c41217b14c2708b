-- Lemmas for the laws of rules.
pub mod ReplyLemmas
