-- Private to this crate:
mod WordLemmas
