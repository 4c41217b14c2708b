-- For the proofs of dependent crates:
pub mod Public
-- Private to this crate:
mod AnsweredLemmas
mod AskedLemmas
mod ChunkLemmas
mod CompleteLemmas
mod FirstLineLemmas
mod LineLawLemmas
mod LineLemmas
mod PrefixLemmas
mod RefusalLemmas
mod RunLawLemmas
mod TakenLemmas
