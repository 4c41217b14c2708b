-- For the proofs of dependent crates:
pub mod Public
-- Private to this crate:
mod NumberLemmas
mod LaneLemmas
mod MaskLemmas
mod PlainLemmas
mod CommandLemmas
mod SelfLemmas
mod SelfLawLemmas
mod SelfExampleLemmas
mod ExampleLemmas
mod ReachLemmas
mod TableLemmas
mod KeyLemmas
mod NameLemmas
mod FormatNameLemmas
mod NamedLemmas
mod EndingLemmas
