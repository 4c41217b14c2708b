-- Lemmas that implementations cite.
pub mod LineLaws
