-- The view that contracts have of a word that is not whole.
use Rattle.std.specs.Prelude.{ℕ, List}

-- its bytes, and the number of bytes of a whole word
pub record PartView : Type 0 where
  pub bytes : List ℕ
  pub size : ℕ

abbrev pub part_of : List ℕ → ℕ → PartView
part_of bytes size = record { bytes = bytes; size = size }
