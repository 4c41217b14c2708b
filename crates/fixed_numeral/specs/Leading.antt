-- The numeral at the beginning of a text.
use Rattle.std.specs.Prelude.{◌≡◌, ℕ, ◌≤◌, List, length, take}
use Rattle.fixed_numeral.specs.declared.radix.Radix.{Radix}
use Rattle.fixed_numeral.specs.Numeral.{IsNumeral}

-- the first n bytes are the longest prefix of bs that is a numeral
pub record IsLeadingNumeral (r : Radix) (bs : List ℕ) (n : ℕ) : Type 0 where
  pub within : n ≤ length bs
  pub numeral : IsNumeral r (take n bs)
  pub longest : (m : ℕ) → m ≤ length bs → IsNumeral r (take m bs) → m ≤ n

-- no prefix of bs is a numeral
abbrev pub HasNoLeading : Radix → List ℕ → Type 0
HasNoLeading r bs = (m : ℕ) → m ≤ length bs → IsNumeral r (take m bs) → ⊥

-- at most one length is that of a leading numeral, and none if no prefix is a numeral
abbrev pub LeadingIsTheOne : Type 0
LeadingIsTheOne = (r : Radix) (bs : List ℕ) (m : ℕ) → IsLeadingNumeral r bs m
    → ((n : ℕ) → IsLeadingNumeral r bs n → m ≡ n) × (HasNoLeading r bs → ⊥)
