-- For the proofs of dependent crates:
pub mod Public
-- Private to this crate:
mod ShortestLemmas
mod PaddedLemmas
mod PassLemmas
mod ComputedLemmas
mod DigitLemmas
mod BaseLemmas
mod AsciiLemmas
mod SixteenLemmas
mod LaneLemmas
mod IntegerLemmas
mod TextLemmas
mod PrintingLemmas
mod NearLemmas
mod ReducedLemmas
mod RestLemmas
mod BlockLemmas
mod ScaleLemmas
mod PlacesLemmas
mod ExactLemmas
mod PaddingLemmas
mod StyledLemmas
mod LeadingLemmas
mod FigureLemmas
mod PutLemmas
