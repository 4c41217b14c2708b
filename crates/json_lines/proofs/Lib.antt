-- Private to this crate:
mod AnswerLemmas
mod FitLemmas
mod PathLemmas
mod PieceLemmas
mod PlaceLemmas
mod RunLemmas
