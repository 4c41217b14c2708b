-- Lemmas that impls cite.
pub mod AmountLaws
pub mod BitsLaws
pub mod FloatLaws
pub mod LaidOutLaws
pub mod RecodedLaws
pub mod PackLaws
pub mod PackedLaws
pub mod RepackLaws
pub mod UnpackLaws
