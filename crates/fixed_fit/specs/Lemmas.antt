-- Lemmas that impls cite.
pub mod MadeLaws
