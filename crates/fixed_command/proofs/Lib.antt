-- For the proofs of dependent crates:
pub mod Public
-- Private to this crate:
mod AskingLemmas
mod BlockLemmas
mod ErrorLineLemmas
mod ExplainFieldLemmas
mod ExplainLawLemmas
mod FieldLemmas
mod LineBlockLemmas
mod OutcomeLemmas
mod OutcomeNumbers
mod OverflowLemmas
mod RefusedLemmas
mod RejectLemmas
mod RunLawLemmas
mod ShownNameLemmas
mod NameLawLemmas
mod WordLemmas
mod RenamedLemmas
