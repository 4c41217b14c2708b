-- For the proofs of dependent crates:
pub mod Public
-- Private to this crate:
mod LawLemmas
mod OrderLemmas
mod UnitsLemmas
mod WholeLemmas
mod ReadingLemmas
mod TextLemmas
