mod SumLemmas
mod GapLemmas
mod GreatestLemmas
mod BoundLemmas
mod RestLemmas
mod NearLemmas
mod FewLemmas
mod ShortLemmas
mod CutLemmas
mod ErrorsLemmas
mod UniqueLemmas
mod WordLemmas
mod HalfLemmas
mod GrowthLemmas
pub mod Public
