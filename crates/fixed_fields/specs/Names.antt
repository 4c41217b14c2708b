-- The word for the bits of a field.
use Rattle.std.specs.Prelude.{ℕ, ◌+◌, ◌-◌, pos, List, ◌∷◌, ◌++◌}
use Rattle.std.specs.Fmt.{signed_decimal}

-- the word for the field of `width` bits from bit `low` on: its highest bit, a colon, and its lowest
abbrev pub field_text : ℕ → ℕ → List ℕ
field_text width low = signed_decimal (pos (low + width - 1)) ++ (58 ∷ signed_decimal (pos low))
