-- The shape of a format's name in another tool, which tells an operand from a file.
use Rattle.std.specs.Prelude.{◌==◌, ◌&&◌, ◌||◌, ℕ, Bool, false, List, [], ◌∷◌, codes, drop}
use Rattle.std.specs.Char.{is_ascii_digit}
use Rattle.std.specs.List.{ends_with, list_all, starts_with}

-- whether the word begins with one text and ends with another
abbrev pub is_between : List ℕ → List ℕ → List ℕ → Bool
is_between head tail word = starts_with (λ a b. a == b) word head && ends_with (λ a b. a == b) word tail

-- whether a byte may follow the first digit of sfix16_En15
abbrev pub is_part : ℕ → Bool
is_part byte = ((is_ascii_digit byte || byte == 95) || byte == 69) || byte == 110

abbrev pub is_width_first : List ℕ → Bool
is_width_first [] = false
is_width_first (first ∷ rest) = is_ascii_digit first && list_all is_part rest

abbrev pub is_like_simulink : List ℕ → Bool
is_like_simulink word = (starts_with (λ a b. a == b) word (codes "sfix")
    || starts_with (λ a b. a == b) word (codes "ufix")) && is_width_first (drop 4 word)

-- whether the word has the shape of a name, whatever its numbers
abbrev pub is_like_tool_name : List ℕ → Bool
is_like_tool_name word = (((((is_between (codes "ap_fixed<") (codes ">") word
    || is_between (codes "ap_ufixed<") (codes ">") word) || is_between (codes "sfixed(") (codes ")") word)
    || is_between (codes "ufixed(") (codes ")") word) || is_between (codes "fi(") (codes ")") word)
    || is_between (codes "numerictype(") (codes ")") word) || is_like_simulink word
