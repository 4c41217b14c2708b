-- Lemmas of this crate.
mod KnownLemmas
mod ReadingLemmas
mod CanonicalLemmas
mod ListLemmas
mod LiteralLemmas
mod EntryLemmas
mod OwnAnswerLemmas
mod FormLemmas
mod NamedLawLemmas
mod ProgramLemmas
mod PlainLemmas
