-- Texts and objects of JSON.
use Rattle.std.specs.Prelude.{◌≡◌, ℕ, ◌==◌, ◌&&◌, ◌||◌, nat_le, nat_lt, if◌then◌else◌, List, [], ◌∷◌, ◌++◌, flat_map}
use Rattle.std.specs.Prelude.{false, take, codes}
use Rattle.std.specs.Int.Digits.{AllBelowBase}
use Rattle.fixed_write.specs.Texts.{last_digits}

-- a byte in a text: a backslash comes before a quote and a backslash, and a byte that is not printable ASCII is the
-- character of its number, with four hexadecimal digits
abbrev pub json_byte : ℕ → List ℕ
json_byte b = if (b == 34) || (b == 92) then 92 ∷ b ∷ [] else
    (if nat_le 32 b && nat_lt b 127 then b ∷ [] else codes "\\u00" ++ last_digits 16 false 2 b)

-- bytes as a text of JSON
unfoldable pub json_text : List ℕ → List ℕ
json_text bytes = 34 ∷ (flat_map json_byte bytes ++ 34 ∷ [])

-- an object: the first 768 of the bytes given, and more members
unfoldable pub object_text : List ℕ → List ℕ → List ℕ
object_text bytes members = codes "{\"given\":" ++ (json_text (take 768 bytes) ++ (members ++ codes "}"))

-- different bytes have different texts
abbrev pub JsonTextIsOneToOne : Type 0
JsonTextIsOneToOne = (a b : List ℕ) → AllBelowBase 256 a → AllBelowBase 256 b → json_text a ≡ json_text b → a ≡ b
