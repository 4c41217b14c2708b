-- For the proofs of dependent crates:
pub mod Public
-- Private to this crate:
mod LineCountLemmas
mod LineRunLemmas
mod LineStatusLemmas
mod LinesRunLemmas
mod MachineLemmas
mod PartLemmas
mod PieceLemmas
mod PutLemmas
mod RefusedLemmas
mod RunLawLemmas
mod RunLemmas
