-- The places of a value: in one block, in digits and a block, or exactly.
use Rattle.std.proofs.Common.{false, ◌≡◌, ℕ, zero, suc, ◌+◌, ◌-◌, ◌*◌, ◌/◌, ◌%◌, ◌^◌, ◌<◌, ◌≤◌, ◌⊎◌, Bool, List, [], ◌∷◌, ◌++◌, length, inl, inr, ⊎_elim, refl, sym, ap, ◌∙◌, arith, pow-suc, append-nil, append_assoc, mul_assoc, mul-le-mul_right, sub-one}
use Rattle.std.proofs.Math.Nat.{pow-zero, pow-le-pow_left, pow-le-pow_right, one-le-pow}
use Rattle.std.proofs.lemmas.Nat.{pow-add, mul-pow, div_below}
use Rattle.std.proofs.lemmas.Bool.{cases_lt}
use Rattle.std.specs.Fmt.{digit_glyph}
use Rattle.fixed_bits.specs.Nearest.{IsEven}
use Rattle.fixed_bits.specs.Rounded.{IsRounded}
use Rattle.fixed_bits.specs.declared.mode.ReadMode.{ReadMode}
use Rattle.fixed_bits.proofs.Public.{rounded_close}
use Rattle.fixed_write.specs.Texts.{point, whole_digits, last_digits, fraction_part, point_text}
use Rattle.fixed_write.specs.Inner.Digits.{AppendsRounded, AppendsExact, IsBlock}
use Rattle.fixed_write.proofs.DigitLemmas.{parts_are, whole_digits_short, last_digits_joined, fraction_none, fraction_some, fraction_same}
use Rattle.fixed_write.proofs.NearLemmas.{even_product, rounded_after}
use Rattle.fixed_write.proofs.RestLemmas.{Digits, digits_length, digits_none, digits_more}

-- ---- room and powers
pub word_length : (b : ℕ) (u : Bool) (n : ℕ) → 2 ≤ b → n < 2 ^ 64 → length (whole_digits b u n) ≤ 64
word_length b u n two l =
    let more : 2 ^ 64 ≤ b ^ 64 = pow-le-pow_left two 64 in
    whole_digits_short b u 64 n two (omega arith) (omega arith)

pub even_power : (b k : ℕ) → IsEven b → (b ^ k ≡ 1) ⊎ IsEven (b ^ k)
even_power b zero e = inl (pow-zero b)
even_power b (suc k) e = inr (rw pow-suc (let h : (b ^ k * b + 0) % 2 ≡ 0 % 2 = even_product (b ^ k) b 0 e in omega (arith, h)))

pub even_power_some : (b k : ℕ) → 0 < k → IsEven b → IsEven (b ^ k)
even_power_some b zero p e = absurd (omega arith)
even_power_some b (suc k) p e = rw pow-suc (let h : (b ^ k * b + 0) % 2 ≡ 0 % 2 = even_product (b ^ k) b 0 e in omega (arith, h))

pub fits_block : (b block k : ℕ) → IsBlock b block → k ≤ block → b ^ k < 2 ^ 64
fits_block b block k h l =
    let some : 0 < b = omega (arith, h.low) in
    let less : b ^ k ≤ b ^ block = pow-le-pow_right some l in
    omega (arith, h.fits)

-- ---- the text of a number in two parts
pub point_text_parts : (b : ℕ) (u : Bool) (k w d : ℕ) → 0 < b → d < b ^ k → point_text b u k (w * b ^ k + d) ≡ whole_digits b u w ++ fraction_part b u k d
unfolding point_text
point_text_parts b u k w d p l =
    let parts = parts_are (w * b ^ k + d) (b ^ k) w d l refl in
    rw (parts.0, fraction_same b u k w d p) refl

-- ---- one block
pub block_places : (mode : ReadMode) (b : ℕ) (u : Bool) (c k w d s : ℕ) (before text after : List ℕ) → 0 < b → s ≡ b ^ k → d < s → IsRounded mode false (c * s) (2 ^ 64) (w * s + d) → text ≡ before ++ whole_digits b u w → after ≡ text ++ fraction_part b u k d → AppendsRounded mode b u c 64 k before after
block_places mode b u c k w d s before text after p e l h t a = record {
  number = w * b ^ k + d;
  rounded = rw e at h;
  text_is =
      let l' : d < b ^ k = rw e at l in
      a ∙ rw (t, point_text_parts b u k w d p l') (append_assoc before (whole_digits b u w) (fraction_part b u k d));
}

pub block_places_none : (mode : ReadMode) (b : ℕ) (u : Bool) (c k w d s : ℕ) (before text : List ℕ) → 0 < b → s ≡ b ^ k → d < s → IsRounded mode false (c * s) (2 ^ 64) (w * s + d) → text ≡ before ++ whole_digits b u w → k ≤ 0 → AppendsRounded mode b u c 64 k before text
block_places_none mode b u c k w d s before text p e l h t z =
    let none : k ≡ 0 = omega arith in
    block_places mode b u c k w d s before text text p e l h t (rw (none, fraction_none b u d) (sym (append-nil text)))

pub block_places_some : (mode : ReadMode) (b : ℕ) (u : Bool) (c k w d s : ℕ) (before text dot after : List ℕ) → 0 < b → s ≡ b ^ k → d < s → IsRounded mode false (c * s) (2 ^ 64) (w * s + d) → text ≡ before ++ whole_digits b u w → 0 < k → dot ≡ text ++ point ∷ [] → after ≡ dot ++ last_digits b u k d → AppendsRounded mode b u c 64 k before after
block_places_some mode b u c k w d s before text dot after p e l h t some f a =
    block_places mode b u c k w d s before text after p e l h t (a ∙ rw (f, fraction_some b u k d some) (append_assoc text (point ∷ []) (last_digits b u k d)))

-- ---- digits and a block
-- a rest in whole steps is at least one step below 2^64
multiple_left : (x step rest n : ℕ) → 2 ^ 64 ≡ rest * step → n ≡ x * step % 2 ^ 64 → n + step ≤ 2 ^ 64
multiple_left x step rest n e is =
    let some : 0 < step = ⊎_elim (λ a. a) (λ (a : step ≤ 0). let none : step ≡ 0 = omega arith in let e' : 2 ^ 64 ≡ rest * 0 = rw none at e in absurd (omega arith)) (cases_lt 0 step) in
    let q : ℕ = x * step / 2 ^ 64 in
    let parts : x * step ≡ x * step / 2 ^ 64 * 2 ^ 64 + n = omega (arith, is) in
    let steps : x * step / 2 ^ 64 * 2 ^ 64 ≡ x * step / 2 ^ 64 * rest * step = ap (λ y. x * step / 2 ^ 64 * y) e ∙ sym (mul_assoc (x * step / 2 ^ 64) rest step) in
    let small : n < 2 ^ 64 = omega (arith, is) in
    less_step x (x * step / 2 ^ 64 * rest) rest step n some (parts ∙ ap (λ y. y + n) steps) e small
  where
    sub_steps : (x m step n : ℕ) → x * step ≡ m * step + n → n ≡ (x - m) * step
    sub_steps x m step n e = ⊎_elim
        (λ (a : x < m). let far : (x + 1) * step ≤ m * step = mul-le-mul_right step (omega arith) in let gone : x - m ≡ 0 = omega arith in rw gone (omega arith))
        (λ (a : m ≤ x). let whole : x ≡ m + (x - m) = omega arith in let product : x * step ≡ (m + (x - m)) * step = ap (λ y. y * step) whole in omega arith)
        (cases_lt x m)

    less_step : (x m rest step n : ℕ) → 0 < step → x * step ≡ m * step + n → 2 ^ 64 ≡ rest * step → n < 2 ^ 64 → n + step ≤ 2 ^ 64
    less_step x m rest step n p e f small =
        let k : n ≡ (x - m) * step = sub_steps x m step n e in
        let less : (x - m) < rest = ⊎_elim (λ a. a) (λ (a : rest ≤ x - m). let far : rest * step ≤ (x - m) * step = mul-le-mul_right step a in absurd (omega arith)) (cases_lt (x - m) rest) in
        let more : (x - m + 1) * step ≤ rest * step = mul-le-mul_right step (omega arith) in
        omega arith

no_whole : (mode : ReadMode) (s step left f : ℕ) → 2 ^ 64 ≤ step * s → left + step ≤ 2 ^ 64 → IsRounded mode false (left * s) (2 ^ 64) f → f ≤ s → f < s
no_whole mode s step left f full room h l = ⊎_elim (λ a. a) (λ (a : s ≤ f).
    let same : f ≡ s = omega arith in
    let h' : IsRounded mode false (left * s) (2 ^ 64) s = rw same at h in
    let close = rounded_close mode false (left * s) (2 ^ 64) s (omega arith) h' in
    let far : (left + step) * s ≤ 2 ^ 64 * s = mul-le-mul_right s room in
    absurd (omega (arith, close.0, far, full))) (cases_lt f s)

split_power : (a b others step : ℕ) → 0 < a → b ≡ others * step → b ^ a ≡ b ^ (a - 1) * others * step
split_power zero b others step p e = absurd (omega arith)
split_power (suc a) b others step p e = rw (pow-suc, sub-one) (ap (λ y. b ^ a * y) e ∙ sym (mul_assoc (b ^ a) others step))

from_none : (mode : ReadMode) (left s f : ℕ) → IsRounded mode false ((0 * 2 ^ 64 + left) * s) (2 ^ 64) (0 * s + f) → IsRounded mode false (left * s) (2 ^ 64) f
from_none mode left s f h =
    let a : 0 * 2 ^ 64 + left ≡ left = omega arith in
    let b : 0 * s + f ≡ f = omega arith in
    rw (a, b) at h

-- the last block never rounds up to a whole unit
pub block_below : (mode : ReadMode) (b block a r left f s : ℕ) → IsBlock b block → 0 < a → s ≡ b ^ block → left ≡ r * b ^ a % 2 ^ 64 → IsRounded mode false ((0 * 2 ^ 64 + left) * s) (2 ^ 64) (0 * s + f) → f ≤ s → f < b ^ block
block_below mode b block a r left f s block_is some e left_is h most =
    let steps : b ^ a ≡ b ^ (a - 1) * block_is.others * block_is.step = split_power a b block_is.others block_is.step some block_is.divides in
    let ends : left ≡ r * (b ^ (a - 1) * block_is.others) * block_is.step % 2 ^ 64 = left_is ∙ ap (λ y. y % 2 ^ 64) (rw steps (omega arith)) in
    let room : left + block_is.step ≤ 2 ^ 64 = multiple_left (r * (b ^ (a - 1) * block_is.others)) block_is.step block_is.rest left block_is.divides_unit ends in
    let full : 2 ^ 64 ≤ block_is.step * s = rw e (omega (arith, block_is.full)) in
    let less : f < s = no_whole mode s block_is.step left f full room (from_none mode left s f h) most in
    rw e at less

split_more : (w r b a block f : ℕ) → (w * 2 ^ 64 + r) * b ^ (a + block) ≡ ((w * b ^ a + r * b ^ a / 2 ^ 64) * 2 ^ 64 + r * b ^ a % 2 ^ 64) * b ^ block
split_more w r b a block f =
    let parts : r * b ^ a ≡ r * b ^ a / 2 ^ 64 * 2 ^ 64 + r * b ^ a % 2 ^ 64 = omega arith in
    let lead : (w * 2 ^ 64 + r) * b ^ a ≡ (w * b ^ a + r * b ^ a / 2 ^ 64) * 2 ^ 64 + r * b ^ a % 2 ^ 64 = omega (arith, parts) in
    rw pow-add (sym (mul_assoc (w * 2 ^ 64 + r) (b ^ a) (b ^ block)) ∙ ap (λ x. x * b ^ block) lead)

pub long_places : (mode : ReadMode) (b block : ℕ) (u : Bool) (w r a left f k s : ℕ) (before text dot digits after : List ℕ) → IsBlock b block → r < 2 ^ 64 → 0 < a → a + block ≡ k → s ≡ b ^ block → text ≡ before ++ whole_digits b u w → dot ≡ text ++ point ∷ [] → digits ≡ dot ++ last_digits b u a (r * b ^ a / 2 ^ 64) → left ≡ r * b ^ a % 2 ^ 64 → IsRounded mode false ((0 * 2 ^ 64 + left) * s) (2 ^ 64) (0 * s + f) → f ≤ s → after ≡ digits ++ last_digits b u block f → AppendsRounded mode b u (w * 2 ^ 64 + r) 64 k before after
long_places mode b block u w r a left f k s before text dot digits after block_is small some total e t d g left_is h most x =
    let less' : f < b ^ block = block_below mode b block a r left f s block_is some e left_is h most in
    let near : IsRounded mode false (left * s) (2 ^ 64) f = from_none mode left s f h in
    let two : 0 < b = omega (arith, block_is.low) in
    let even : IsEven s = rw e (even_power_some b block block_is.some block_is.even) in
    let later : IsRounded mode false (((w * b ^ a + r * b ^ a / 2 ^ 64) * 2 ^ 64 + left) * s) (2 ^ 64) ((w * b ^ a + r * b ^ a / 2 ^ 64) * s + f) = rounded_after mode (w * b ^ a + r * b ^ a / 2 ^ 64) left s (2 ^ 64) f (omega arith) even near in
    let all : (w * 2 ^ 64 + r) * b ^ (a + block) ≡ ((w * b ^ a + r * b ^ a / 2 ^ 64) * 2 ^ 64 + left) * s = rw (e, left_is) (split_more w r b a block f) in
    let lead : r * b ^ a / 2 ^ 64 < b ^ a = div_below (r * b ^ a) (2 ^ 64) (b ^ a) (omega arith) (times_less r (b ^ a) (pow_pos' b a two) small) in
    rw (← total) (record {
      number = w * b ^ (a + block) + (r * b ^ a / 2 ^ 64 * b ^ block + f);
      rounded = rw (all, number_is w b a block (r * b ^ a / 2 ^ 64) f, ← e) later;
      text_is = x ∙ rw (g, d, t, point_text_parts b u (a + block) w (r * b ^ a / 2 ^ 64 * b ^ block + f) two (joined_less (b ^ a) (b ^ block) (r * b ^ a / 2 ^ 64) f (b ^ (a + block)) (pow-add b a block) lead less'), fraction_some b u (a + block) (r * b ^ a / 2 ^ 64 * b ^ block + f) (omega arith), last_digits_joined b u a block (r * b ^ a / 2 ^ 64) f two less') (regroup before (whole_digits b u w) (last_digits b u a (r * b ^ a / 2 ^ 64)) (last_digits b u block f));
    })
  where
    times_less : (r s : ℕ) → 0 < s → r < 2 ^ 64 → r * s < s * 2 ^ 64
    times_less r s p l = let far : (r + 1) * s ≤ 2 ^ 64 * s = mul-le-mul_right s (omega arith) in omega arith

    pow_pos' : (b a : ℕ) → 0 < b → 0 < b ^ a
    pow_pos' b a p = omega (arith, one-le-pow a b p)

    joined_less : (x y d f all : ℕ) → all ≡ x * y → d < x → f < y → d * y + f < all
    joined_less x y d f all e l m = let far : (d + 1) * y ≤ x * y = mul-le-mul_right y (omega arith) in omega arith

    product : (w x y d f : ℕ) → w * (x * y) + (d * y + f) ≡ (w * x + d) * y + f
    product w x y d f = omega arith

    number_is : (w b a block d f : ℕ) → w * b ^ (a + block) + (d * b ^ block + f) ≡ (w * b ^ a + d) * b ^ block + f
    number_is w b a block d f = rw pow-add (product w (b ^ a) (b ^ block) d f)

    regroup : (a b c d : List ℕ) → (((a ++ b) ++ point ∷ []) ++ c) ++ d ≡ a ++ (b ++ point ∷ (c ++ d))
    regroup a b c d = simp append_assoc

-- ---- exact digits
pub record Exactly (b : ℕ) (u : Bool) (rest : ℕ) (before text : List ℕ) (left : ℕ) : Type 0 where
  pub count : ℕ
  pub digits : Digits b u rest count before text left
  pub some : (j : ℕ) → j < count → 0 < rest * b ^ j % 2 ^ 64

pub exactly_none : (b : ℕ) (u : Bool) (rest : ℕ) (before : List ℕ) → rest < 2 ^ 64 → Exactly b u rest before before rest
exactly_none b u rest before small = record {
  count = 0;
  digits = digits_none b u rest before small;
  some = λ j l. absurd (omega arith);
}

pub exactly_more : (b : ℕ) (u : Bool) (rest : ℕ) (before text after : List ℕ) (left digit next : ℕ) → 0 < b → Exactly b u rest before text left → (left ≡ 0 → ⊥) → digit ≡ left * b / 2 ^ 64 → next ≡ left * b % 2 ^ 64 → after ≡ text ++ digit_glyph u digit ∷ [] → Exactly b u rest before after next
exactly_more b u rest before text after left digit next p h some d n a = record {
  count = suc h.count;
  digits = digits_more b u rest h.count before text after left digit next p h.digits d n a;
  some = λ j l. ⊎_elim (λ less. h.some j less) (λ same.
      let is : j ≡ h.count = omega arith in
      rw is (pos_of (rest * b ^ h.count % 2 ^ 64) left h.digits.left_is some)) (cases_lt j h.count);
}
  where
    pos_of : (n left : ℕ) → left ≡ n → (left ≡ 0 → ⊥) → 0 < n
    pos_of zero left e some = absurd (some e)
    pos_of (suc n) left e some = omega arith

-- after 64 digits of an even base nothing is left
pub exactly_few : (b : ℕ) (u : Bool) (rest : ℕ) (before text : List ℕ) (left : ℕ) → IsEven b → Exactly b u rest before text left → (left ≡ 0 → ⊥) → length text < length before + 64
exactly_few b u rest before text left even h some = ⊎_elim
    (λ l. omega (arith, digits_length b u rest h.count before text left h.digits))
    (λ l. absurd (some (h.digits.left_is ∙ nothing rest b h.count even l)))
    (cases_lt h.count 64)
  where
    regroup : (r x y : ℕ) → r * (x * 2 ^ 64 * y) ≡ r * (x * y) * 2 ^ 64
    regroup r x y = omega arith

    nothing : (rest b k : ℕ) → IsEven b → 64 ≤ k → rest * b ^ k % 2 ^ 64 ≡ 0
    nothing rest b k even l =
        let half : b ≡ 2 * (b / 2) = omega arith in
        let twice : b ^ k ≡ 2 ^ k * (b / 2) ^ k = ap (λ y. y ^ k) half ∙ mul-pow 2 (b / 2) k in
        let more : 2 ^ k ≡ 2 ^ (k - 64) * 2 ^ 64 = ap (λ y. 2 ^ y) (let e : k ≡ (k - 64) + 64 = omega arith in e) ∙ pow-add 2 (k - 64) 64 in
        let all : rest * b ^ k ≡ rest * (2 ^ (k - 64) * 2 ^ 64 * (b / 2) ^ k) = ap (λ y. rest * y) (twice ∙ ap (λ y. y * (b / 2) ^ k) more) in
        let whole : rest * b ^ k ≡ rest * (2 ^ (k - 64) * (b / 2) ^ k) * 2 ^ 64 = all ∙ regroup rest (2 ^ (k - 64)) ((b / 2) ^ k) in
        omega (arith, whole)

pub exactly_smaller : (before text after : ℕ) → after ≡ text + 1 → text < before + 64 → before + 64 - after < before + 64 - text
exactly_smaller before text after e l = omega arith

pub exactly_ends : (b : ℕ) (u : Bool) (w rest : ℕ) (before text dot after : List ℕ) (left : ℕ) → 0 < b → text ≡ before ++ whole_digits b u w → dot ≡ text ++ point ∷ [] → Exactly b u rest dot after left → left ≡ 0 → 0 < rest → rest < 2 ^ 64 → AppendsExact b u (w * 2 ^ 64 + rest) 64 before after
exactly_ends b u w rest before text dot after left p t d h none some small =
    let k : 0 < h.count = some_count h.count (rest * b ^ h.count % 2 ^ 64) rest b left refl h.digits.left_is none some small in
    let below : rest * b ^ h.count / 2 ^ 64 < b ^ h.count = div_below (rest * b ^ h.count) (2 ^ 64) (b ^ h.count) (omega arith) (times_less rest (b ^ h.count) (omega (arith, one-le-pow h.count b p)) small) in
    record {
      number = w * b ^ h.count + rest * b ^ h.count / 2 ^ 64;
      places = h.count;
      exact = record {
        same = same_of w rest (b ^ h.count) (sym h.digits.left_is ∙ none);
        least = λ m j e. ⊎_elim (λ l. absurd (omega (arith, h.some j l, left_of w rest (b ^ j) m e))) (λ l. l) (cases_lt j h.count);
      };
      text_is = h.digits.text ∙ rw (d, t, point_text_parts b u h.count w (rest * b ^ h.count / 2 ^ 64) p below, fraction_some b u h.count (rest * b ^ h.count / 2 ^ 64) k) (regroup before (whole_digits b u w) (last_digits b u h.count (rest * b ^ h.count / 2 ^ 64)));
    }
  where
    some_count : (k n rest b left : ℕ) → n ≡ rest * b ^ k % 2 ^ 64 → left ≡ n → left ≡ 0 → 0 < rest → rest < 2 ^ 64 → 0 < k
    some_count zero n rest b left e f none some small =
        let e' : n ≡ rest * 1 % 2 ^ 64 = rw pow-zero at e in
        absurd (omega arith)
    some_count (suc k) n rest b left e f none some small = omega arith

    times_less : (r s : ℕ) → 0 < s → r < 2 ^ 64 → r * s < s * 2 ^ 64
    times_less r s p l = let far : (r + 1) * s ≤ 2 ^ 64 * s = mul-le-mul_right s (omega arith) in omega arith

    same_of : (w r s : ℕ) → r * s % 2 ^ 64 ≡ 0 → (w * 2 ^ 64 + r) * s ≡ (w * s + r * s / 2 ^ 64) * 2 ^ 64
    same_of w r s e = omega arith

    left_of : (w r s m : ℕ) → (w * 2 ^ 64 + r) * s ≡ m * 2 ^ 64 → r * s % 2 ^ 64 ≡ 0
    left_of w r s m e = omega arith

    regroup : (a b c : List ℕ) → ((a ++ b) ++ point ∷ []) ++ c ≡ a ++ (b ++ point ∷ c)
    regroup a b c = simp append_assoc

pub exactly_whole : (b : ℕ) (u : Bool) (w rest : ℕ) (before text : List ℕ) → 0 < b → text ≡ before ++ whole_digits b u w → rest ≡ 0 → AppendsExact b u (w * 2 ^ 64 + rest) 64 before text
exactly_whole b u w rest before text p t none = record {
  number = w * b ^ 0 + 0;
  places = 0;
  exact = record {
    same = rw (pow-zero, none) (omega arith);
    least = λ m j e. omega arith;
  };
  text_is = t ∙ ap (λ (x : List ℕ). before ++ x) (sym (point_text_parts b u 0 w 0 p (rw pow-zero (omega arith)) ∙ (ap (λ (x : List ℕ). whole_digits b u w ++ x) (fraction_none b u 0) ∙ append-nil (whole_digits b u w))));
}
