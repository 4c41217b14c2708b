-- Digits and texts are ASCII.
use Rattle.std.proofs.Common.{ℕ, zero, suc, ◌/◌, ◌%◌, ◌^◌, ◌<◌, ◌≤◌, ◌==◌, Bool, true, false, List, [], ◌∷◌, map, ℤ, arith, mod-lt}
use Rattle.std.specs.Prelude.{if◌then◌else◌}
use Rattle.std.specs.Str.{IsAscii}
use Rattle.std.specs.Fmt.{digit_glyph, sign_text}
use Rattle.std.specs.Int.{is_negative}
use Rattle.std.specs.Int.Digits.{digits_of, AllBelowBase}
use Rattle.std.proofs.lemmas.Int.Digits.{all_below_base_digits_of}
use Rattle.std.proofs.lemmas.Str.{IsAscii-append}
use Rattle.std.proofs.lemmas.Str.Ascii.{IsAscii-nil}
use Rattle.fixed_write.specs.Texts.{whole_digits, last_digits, fraction_part, point_text, decimal_text, point, zero_digit, shortest_text}
use Rattle.fixed_write.proofs.DigitLemmas.{last_digits_none, last_digits_suc, fraction_none, fraction_suc}

pub cons_ascii : (d : ℕ) (ds : List ℕ) → d < 128 → IsAscii ds → IsAscii (d ∷ ds)
cons_ascii d ds l h zero = l
cons_ascii d ds l h (suc i) = h i

pub one_ascii : (d : ℕ) → d < 128 → IsAscii (d ∷ [])
one_ascii d l = cons_ascii d [] l IsAscii-nil

glyph_ascii : (u : Bool) (d : ℕ) → d < 16 → digit_glyph u d < 128
glyph_ascii true d l = grind arith
glyph_ascii false d l = grind arith

glyphs_ascii : (b : ℕ) (u : Bool) (ds : List ℕ) → b ≤ 16 → AllBelowBase b ds → IsAscii (map (digit_glyph u) ds)
glyphs_ascii b u [] small h = IsAscii-nil
glyphs_ascii b u (d ∷ ds) small h = cons_ascii (digit_glyph u d) (map (digit_glyph u) ds) (glyph_ascii u d (omega (arith, h.0))) (glyphs_ascii b u ds small h.1)

pub whole_digits_ascii : (b : ℕ) (u : Bool) (n : ℕ) → 2 ≤ b → b ≤ 16 → IsAscii (whole_digits b u n)
unfolding whole_digits
whole_digits_ascii b u n two small = by_zero (n == 0)
  where
    by_zero : (z : Bool) → IsAscii (if z then zero_digit ∷ [] else map (digit_glyph u) (digits_of b n))
    by_zero true = one_ascii zero_digit (omega arith)
    by_zero false = glyphs_ascii b u (digits_of b n) small (all_below_base_digits_of b n two)

pub last_digits_ascii : (b : ℕ) (u : Bool) (k n : ℕ) → 2 ≤ b → b ≤ 16 → IsAscii (last_digits b u k n)
last_digits_ascii b u zero n two small = rw last_digits_none IsAscii-nil
last_digits_ascii b u (suc k) n two small =
    rw last_digits_suc (IsAscii-append (last_digits b u k (n / b)) (digit_glyph u (n % b) ∷ []) (last_digits_ascii b u k (n / b) two small) (one_ascii (digit_glyph u (n % b)) (glyph_ascii u (n % b) (below b n two small))))
  where
    below : (b n : ℕ) → 2 ≤ b → b ≤ 16 → n % b < 16
    below b n two small = let l : n % b < b = mod-lt n (omega arith) in omega arith

pub fraction_ascii : (b : ℕ) (u : Bool) (k n : ℕ) → 2 ≤ b → b ≤ 16 → IsAscii (fraction_part b u k n)
fraction_ascii b u zero n two small = rw fraction_none IsAscii-nil
fraction_ascii b u (suc k) n two small = rw fraction_suc (cons_ascii point (last_digits b u (suc k) n) (omega arith) (last_digits_ascii b u (suc k) n two small))

pub point_text_ascii : (b : ℕ) (u : Bool) (k n : ℕ) → 2 ≤ b → b ≤ 16 → IsAscii (point_text b u k n)
unfolding point_text
point_text_ascii b u k n two small = IsAscii-append (whole_digits b u (n / b ^ k)) (fraction_part b u k n) (whole_digits_ascii b u (n / b ^ k) two small) (fraction_ascii b u k n two small)

pub sign_ascii : (negative : Bool) → IsAscii (sign_text negative)
sign_ascii true = one_ascii 45 (omega arith)
sign_ascii false = IsAscii-nil

pub decimal_text_ascii : (negative : Bool) (n k : ℕ) → IsAscii (decimal_text negative n k)
unfolding decimal_text
decimal_text_ascii negative n k = IsAscii-append (sign_text negative) (point_text 10 false k n) (sign_ascii negative) (point_text_ascii 10 false k n (omega arith) (omega arith))

pub shortest_text_ascii : (c : ℤ) (g : ℕ) → IsAscii (shortest_text c g)
unfolding shortest_text
shortest_text_ascii c g = decimal_text_ascii (is_negative c) _ _
