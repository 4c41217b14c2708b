-- Proofs that the integer types satisfy the laws of `Inner`. No contract cites them.
pub mod InnerLaws
