-- The lemmas of this crate; other crates cite `Public`.
mod ReadingLemmas
pub mod FactLemmas
pub mod NameLemmas
pub mod Public
