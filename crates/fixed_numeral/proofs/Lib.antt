-- For the proofs of dependent crates:
pub mod Public
-- Private to this crate:
mod NumeralLemmas
mod SpelledLemmas
mod ByteLemmas
mod DigitLemmas
mod ViewLemmas
mod NumberLemmas
mod PlaceLemmas
mod MagnitudeLemmas
mod ScanLemmas
mod ValueLemmas
mod LiteralLemmas
mod LiteralScanLemmas
mod ShortLiteralLemmas
mod LawLemmas
mod StripLemmas
mod LaneLemmas
mod PartNumberLemmas
mod SegmentLemmas
mod DecimalLemmas
mod MarkLemmas
mod ExponentLemmas
mod MessageLemmas
mod LeadingLemmas
mod CopyLemmas
