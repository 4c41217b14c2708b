-- For the proofs of dependent crates:
pub mod Integers
pub mod Public
-- Private to this crate:
mod DownLemmas
mod ImageLemmas
mod NearestLemmas
mod RoundedLemmas
mod LawLemmas
mod MaskLemmas
mod NumberLemmas
mod OrderLemmas
mod LostLemmas
