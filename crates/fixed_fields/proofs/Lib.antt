-- The lemmas of this crate; other crates cite `Public`.
pub mod AnswerLemmas
pub mod FieldLemmas
pub mod NameLemmas
pub mod Public
