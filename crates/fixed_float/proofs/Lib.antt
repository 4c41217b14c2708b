-- For the proofs of dependent crates:
pub mod Public
-- Private to this crate:
mod BiasLemmas
mod FieldLemmas
mod IncrementLemmas
mod KeptLemmas
mod LawLemmas
mod NearestLemmas
mod ReadingLemmas
mod ShortLemmas
mod SignLemmas
mod UniqueLemmas
