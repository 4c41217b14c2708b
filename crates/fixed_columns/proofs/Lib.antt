-- Lemmas of this crate.
mod NumeralLemmas
mod ColumnLemmas
mod SpaceLemmas
mod ReadingLemmas
mod CommandLemmas
mod CompareLemmas
mod OrderLawLemmas
mod BackLemmas
