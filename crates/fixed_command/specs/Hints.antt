-- The likely cause of an invalid byte, and the option of the command that reads such a text.
use Rattle.std.specs.Prelude.{◌==◌, ◌&&◌, ◌||◌, ◌-◌, ℕ, List, [], Bool, true, false, not, codes, drop, get_or}
use Rattle.std.specs.Prelude.{if◌then◌else◌, length, nat_lt, take}
use Rattle.std.specs.List.{list_all}
use Rattle.fixed_numeral.specs.Numeral.{base}
use Rattle.fixed_numeral.specs.declared.radix.Radix.{Radix}
use Rattle.fixed_command.specs.Fields.{after_sign, digits_of, has_part, is_digit}
use Rattle.fixed_command.specs.declared.hint.Offers.{Offers}
use Rattle.fixed_command.specs.declared.spelling.Spelling.{Spelling}
use Rattle.fixed_command.specs.declared.spelling.Spelling.TheVariants.{Numeral, Word}

-- the bytes are digits, of radix 16 or of radix 10, and not empty
abbrev pub is_whole : Bool → List ℕ → Bool
is_whole hex bytes = nat_lt 0 (length bytes) && (digits_of hex bytes == length bytes)

-- the bytes begin with a digit
abbrev pub begins_with_digit : Bool → List ℕ → Bool
begins_with_digit hex bytes = nat_lt 0 (digits_of hex bytes)

-- ---- what the invalid byte of a text is, by the bytes before and after it
-- a comma between digits, and no other comma or point
abbrev pub is_decimal_comma : Bool → List ℕ → ℕ → List ℕ → Bool
is_decimal_comma hex before byte after = ((byte == 44) && is_whole hex (after_sign before))
    && (begins_with_digit hex after && not (has_part (codes ",.") after))

-- a blank or a tab at an end of the text
abbrev pub is_blank : ℕ → Bool
is_blank byte = (byte == 32) || (byte == 9)

abbrev pub is_outer_blank : List ℕ → ℕ → List ℕ → Bool
is_outer_blank before byte after = is_blank byte && ((length before == 0) || list_all is_blank after)

-- the letter of the prefix `0x`
abbrev pub is_zero : List ℕ → Bool
is_zero bytes = (length bytes == 1) && (get_or bytes 0 0 == 48)

abbrev pub is_hex_prefix : List ℕ → ℕ → List ℕ → Bool
is_hex_prefix before byte after = ((byte == 120) || (byte == 88))
    && (is_zero (after_sign before) && begins_with_digit true after)

-- a letter of a hexadecimal whole number, in radix 10
abbrev pub is_hex_letter : Radix → List ℕ → ℕ → Bool
is_hex_letter radix bytes byte = ((base radix == 10) && not (is_digit false byte)) && is_whole true (after_sign bytes)

-- ---- the hint
abbrev pub is_numeral : Spelling → Bool
is_numeral Numeral = true
is_numeral Word = false

-- of a text with its invalid byte between these bytes; empty if no cause is likely
abbrev pub hint_between : Offers → Spelling → Radix → List ℕ → List ℕ → ℕ → List ℕ → List ℕ
hint_between has spelling radix bytes before byte after =
    if is_numeral spelling && is_decimal_comma (base radix == 16) before byte after
    then (if has.decimal then codes " (decimal comma? --decimal ,)" else codes " (decimal comma?)")
    else (if is_outer_blank before byte after
    then (if has.trim then codes " (blanks? --trim)" else codes " (blanks?)")
    else (if is_hex_prefix before byte after
    then (if has.radix then codes " (hexadecimal? --radix 16 without 0x)" else codes " (hexadecimal?)")
    else (if is_hex_letter radix bytes byte
    then (if has.radix then codes " (hexadecimal? --radix 16)" else codes " (hexadecimal?)") else [])))

-- of a text whose byte at a place, from 1, is invalid
abbrev pub hint_of : Offers → Spelling → Radix → List ℕ → ℕ → List ℕ
hint_of has spelling radix bytes place = hint_between has spelling radix bytes (take (place - 1) bytes)
    (get_or bytes (place - 1) 0) (drop place bytes)
