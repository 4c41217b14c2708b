-- Lemmas that an implementation of a trait needs. Nobody has to believe them: each is proved.
pub mod SplitLemmas
pub mod LineWordLemmas
pub mod LanguageLemmas
pub mod FormatLemmas
pub mod WordLemmas
pub mod ReachedLemmas
pub mod FaultLemmas
pub mod AnswerLemmas
