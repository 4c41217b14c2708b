-- Lemmas that implementations cite.
pub mod RunLaws
