-- Lemmas of this crate.
mod EndLemmas
mod LineLemmas
mod ProgramLemmas
mod SelfLemmas
mod StableLemmas
mod TextLemmas
mod WholeLemmas
