-- For the proofs of dependent crates:
pub mod Public
-- Private to this crate:
mod ToolNameLemmas
