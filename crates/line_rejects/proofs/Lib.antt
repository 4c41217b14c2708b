-- For the proofs of dependent crates:
pub mod PutLemmas
-- Private to this crate:
mod ExistLemmas
mod ShownLemmas
