-- The text of a number of a decimal format.
use Rattle.std.specs.Prelude.{ℕ, List, ℤ, unsigned_abs}
use Rattle.std.specs.Int.{is_negative}
use Rattle.fixed_write.specs.Texts.{decimal_text}

-- b / 10^n with exactly n places: a minus if it is negative, the whole part, and a point and n digits unless n is 0
abbrev pub decimal_format_text : ℤ → ℕ → List ℕ
decimal_format_text b n = decimal_text (is_negative b) (unsigned_abs b) n
