-- For the proofs of dependent crates:
pub mod Public
-- Private to this crate:
mod DigitLemmas
mod PartLemmas
mod DecimalLemmas
mod NumberLemmas
mod LostLemmas
mod WholeLemmas
mod ReadLemmas
mod MultipleLemmas
mod ShortNumeralLemmas
mod ShareLemmas
