mod DialLemmas
mod MeterLemmas
mod MoneyLemmas
mod SavedLemmas
mod TapLemmas
