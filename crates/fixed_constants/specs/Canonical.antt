-- The canonical text of constants.
use Rattle.std.specs.Prelude.{ℕ, List, [], ◌∷◌, ◌++◌, ℤ, pos, false, unsigned_abs}
use Rattle.std.specs.Fmt.{sign_text}
use Rattle.std.specs.Int.{is_negative}
use Rattle.fixed_respell.specs.LineWords.{space}
use Rattle.fixed_respell.specs.Words.{format_text}
use Rattle.fixed_write.specs.Places.{exact_text}
use Rattle.fixed_constants.specs.Constants.{ConstantParts, equals_sign}

-- "0x"
abbrev pub hex_prefix : List ℕ
hex_prefix = 48 ∷ 120 ∷ []

-- c / 2^g in hexadecimal, exactly and with the fewest places, with the prefix after the sign
unfoldable pub literal_text : ℤ → ℕ → List ℕ
literal_text c g = sign_text (is_negative c) ++ (hex_prefix ++ exact_text 16 false (pos (unsigned_abs c)) g)

-- the line of a constant, without a newline
abbrev pub entry_line : ConstantParts → List ℕ
entry_line c = c.name
    ++ space ∷ (equals_sign ++ space ∷ (literal_text c.bits c.format.frac ++ space ∷ format_text c.format))

abbrev pub entry_text : ConstantParts → List ℕ
entry_text c = entry_line c ++ 10 ∷ []

-- the lines of all constants in order, each with a newline
abbrev pub canonical_text : List ConstantParts → List ℕ
canonical_text [] = []
canonical_text (c ∷ constants) = entry_text c ++ canonical_text constants
