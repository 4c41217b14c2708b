-- Digits of a rest, one by one.
use Rattle.std.proofs.Common.{◌≡◌, ℕ, suc, ◌+◌, ◌*◌, ◌/◌, ◌%◌, ◌^◌, ◌<◌, Bool, List, [], ◌∷◌, ◌++◌, length, sym, ap, ◌∙◌, arith, pow-suc, append-nil, append_assoc, length-append}
use Rattle.std.proofs.Math.Nat.{pow-zero}
use Rattle.std.specs.Fmt.{digit_glyph}
use Rattle.fixed_write.specs.Texts.{last_digits}
use Rattle.fixed_write.proofs.DigitLemmas.{last_digits_none, last_digits_length, last_digits_push}
use Rattle.fixed_write.proofs.NearLemmas.{digits_step, left_step, digit_below}

-- k digits of a rest follow the text, and `left` is the rest after them
pub record Digits (b : ℕ) (u : Bool) (rest k : ℕ) (before after : List ℕ) (left : ℕ) : Type 0 where
  pub text : after ≡ before ++ last_digits b u k (rest * b ^ k / 2 ^ 64)
  pub left_is : left ≡ rest * b ^ k % 2 ^ 64

pub digits_none : (b : ℕ) (u : Bool) (rest : ℕ) (before : List ℕ) → rest < 2 ^ 64 → Digits b u rest 0 before before rest
digits_none b u rest before small = record {
  text = rw (last_digits_none b u (rest * b ^ 0 / 2 ^ 64)) (sym (append-nil before));
  left_is = rw pow-zero (omega arith);
}

power_more : (x b k : ℕ) → x * b ^ suc k ≡ x * b ^ k * b
power_more x b k = rw pow-suc (omega arith)

pub digits_more : (b : ℕ) (u : Bool) (rest k : ℕ) (before text after : List ℕ) (left digit next : ℕ) → 0 < b → Digits b u rest k before text left → digit ≡ left * b / 2 ^ 64 → next ≡ left * b % 2 ^ 64 → after ≡ text ++ digit_glyph u digit ∷ [] → Digits b u rest (suc k) before after next
digits_more b u rest k before text after left digit next p h d n a =
    let is : digit ≡ rest * b ^ k % 2 ^ 64 * b / 2 ^ 64 = rw h.left_is at d in
    let below : digit < b = rw is (digit_below (rest * b ^ k) b p) in
    let all : rest * b ^ suc k / 2 ^ 64 ≡ rest * b ^ k / 2 ^ 64 * b + digit = rw (power_more rest b k, is) (digits_step (rest * b ^ k) b) in
    record {
      text = a ∙ rw (h.text, all, last_digits_push b u k (rest * b ^ k / 2 ^ 64) digit below) (append_assoc before _ _);
      left_is = rw (power_more rest b k) (n ∙ rw h.left_is (sym (left_step (rest * b ^ k) b)));
    }

pub digits_length : (b : ℕ) (u : Bool) (rest k : ℕ) (before text : List ℕ) (left : ℕ) → Digits b u rest k before text left → length text ≡ length before + k
digits_length b u rest k before text left h =
    ap length h.text ∙ (length-append before _ ∙ ap (λ x. length before + x) (last_digits_length b u k _))

-- a digit of a rest is below the base
pub rest_digit : (b : ℕ) (u : Bool) (rest k : ℕ) (before text : List ℕ) (left digit : ℕ) → 0 < b → Digits b u rest k before text left → digit ≡ left * b / 2 ^ 64 → digit < b
rest_digit b u rest k before text left digit p h d =
    let is : digit ≡ rest * b ^ k % 2 ^ 64 * b / 2 ^ 64 = rw h.left_is at d in
    rw is (digit_below (rest * b ^ k) b p)
