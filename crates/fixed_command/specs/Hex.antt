-- The bits of a number in hexadecimal.
use Rattle.std.specs.Prelude.{ℕ, suc, ◌+◌, ◌-◌, ◌/◌, ◌^◌, ℤ, pos, negsuc, List, ◌++◌, false, codes}
use Rattle.fixed_write.specs.Texts.{last_digits}

-- the bits as an unsigned number of this width: two's complement
abbrev pub word_of : ℕ → ℤ → ℕ
word_of width (pos n) = n
word_of width (negsuc n) = 2 ^ width - suc n

-- one digit for every four bits of the width, the last one for the lowest four
abbrev pub hex_digits : ℕ → ℤ → List ℕ
hex_digits width bits = last_digits 16 false ((width + 3) / 4) (word_of width bits)

-- the same after `0x`
abbrev pub hex_text : ℕ → ℤ → List ℕ
hex_text width bits = codes "0x" ++ hex_digits width bits
