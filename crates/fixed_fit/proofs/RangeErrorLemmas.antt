-- The error of a range is 1 / 2^(f + 1).
use Rattle.std.proofs.Common.{◌≡◌, ℕ, suc, ◌+◌, ◌-◌, ◌*◌, ◌^◌, ◌<◌, ◌≤◌, true, false, List, refl, sym, ap, ◌∙◌, subst, arith, inl, inr, pow_pos, ℤ, pos, negsuc, ◌-ℤ◌, ◌*ℤ◌}
use Rattle.std.proofs.Math.Nat.{pow-le-pow_right}
use Rattle.std.proofs.lemmas.Int.{ints}
use Rattle.std.proofs.lemmas.Nat.{mul-pow, pow-add}
use Rattle.fixed_bits.specs.declared.mode.ReadMode.TheVariants.{NearestEven}
use Rattle.fixed_numeral.proofs.Public.{parts_unique}
use Rattle.fixed_numeral.specs.Numeral.{Parts}
use Rattle.fixed_numeral.specs.Value.{Fraction}
use Rattle.fixed_numeral.specs.declared.radix.Radix.TheVariants.{Bin}
use Rattle.fixed_read.proofs.Public.{read_unique}
use Rattle.fixed_read.specs.Reading.{IsReadNumber}
use Rattle.fixed_show.specs.ErrorText.{IsBrief, IsExactDecimal, error_den, error_num}
use Rattle.fixed_show.specs.ShortError.{IsErrorText}
use Rattle.fixed_show.specs.declared.form.Form.TheVariants.{Members}
use Rattle.fixed_show.specs.declared.measure.Measure.TheVariants.{Value}
use Rattle.fixed_write.specs.Texts.{decimal_text}
use Rattle.fixed_fit.specs.ErrorWord.{half_ulp, without_minus}
use Rattle.fixed_fit.specs.Laws.{RangeErrorIsHalfAnUlp}
use Rattle.fixed_fit.proofs.HalfLemmas.{half, has_parts, parts, read_zero}

-- ---- half an ulp is brief
tens : (n k : ℕ) → k ≤ n → 10 ^ n ≡ (5 ^ k * 10 ^ (n - k)) * 2 ^ k
tens n k few =
    let split : k + (n - k) ≡ n = omega (arith, few) in
    let two : 10 ^ k ≡ 2 ^ k * 5 ^ k = mul-pow 2 5 k in
    let sum : 10 ^ (k + (n - k)) ≡ 10 ^ k * 10 ^ (n - k) = pow-add 10 k (n - k) in
    ap (λ (j : ℕ). 10 ^ j) (sym split) ∙ (sum ∙ (ap (λ (x : ℕ). x * 10 ^ (n - k)) two ∙ regroup (2 ^ k) (5 ^ k) (10 ^ (n - k))))
  where
    regroup : (a b c : ℕ) → (a * b) * c ≡ (b * c) * a
    regroup a b c = omega arith

pow_less : (n m : ℕ) → n < m → 10 ^ n < 10 ^ m
pow_less n m less =
    let up : 10 ^ suc n ≤ 10 ^ m = pow-le-pow_right (omega arith) less in
    let from : 0 ≤ n = omega arith in
    let some : 10 ^ 0 ≤ 10 ^ n = pow-le-pow_right (omega arith) from in
    let next : 10 ^ suc n ≡ 10 ^ n * 10 = omega arith in
    omega (arith, up, some, next)

brief_number : (n m k : ℕ) → k ≤ n → n < m → (number : ℕ) × (1 * 10 ^ n ≡ number * (1 * 2 ^ k)) × (number < 10 ^ m)
brief_number n m k few less = (5 ^ k * 10 ^ (n - k), same (10 ^ n) (5 ^ k * 10 ^ (n - k)) (2 ^ k) (tens n k few), small (10 ^ n) (5 ^ k * 10 ^ (n - k)) (2 ^ k) (10 ^ m) (tens n k few) (pow_pos k) (pow_less n m less))
  where
    same : (a x b : ℕ) → a ≡ x * b → 1 * a ≡ x * (1 * b)
    same a x b e = omega (arith, e)

    small : (a x b c : ℕ) → a ≡ x * b → 0 < b → a < c → x < c
    small a x b c e some less = let more : x * 1 ≤ x * b = grow x b some in omega (arith, e, more, less)
      where
        grow : (x b : ℕ) → 0 < b → x * 1 ≤ x * b
        grow x b some = grind arith

half_brief : (k : ℕ) → suc k ≤ 1100 → IsBrief 1 (1 * 2 ^ suc k)
half_brief k few = let x = brief_number 1100 1200 (suc k) few (omega arith) in record { number = x.0; same = x.1; small = x.2 }

-- ---- the error of half an ulp, which is read as zero
error_is : (d t : ℕ) → (pos 0 *ℤ pos d) -ℤ pos (1 * suc t) ≡ negsuc t
error_is d t = omega (arith, ints)

cancel : (a u v : ℕ) → 0 < a → a * u ≡ a * v → u ≡ v
cancel a u v some e = grind arith

without : (n p : ℕ) → without_minus (decimal_text true n p) ≡ decimal_text false n p
unfolding decimal_text
without n p = refl

exact_half : (t k : ℕ) (signed text : List ℕ) → suc t ≡ 2 ^ k → IsExactDecimal (negsuc t) (2 ^ k * (1 * 2 ^ suc k)) signed → text ≡ without_minus signed → IsExactDecimal (pos 1) (2 ^ (k + 1)) text
exact_half t k signed text is x text_is =
    let next : 2 ^ suc k ≡ 2 ^ k * 2 = omega arith in
    let one : 2 ^ (k + 1) ≡ 2 ^ k * 2 = pow-add 2 k 1 in
    record {
      number = x.number;
      places = x.places;
      same = same (2 ^ k) (10 ^ x.places) x.number (pow_pos k) (ap (λ (a : ℕ). a * 10 ^ x.places) (sym is) ∙ (x.same ∙ ap (λ (b : ℕ). x.number * (2 ^ k * (1 * b))) next)) ∙ ap (λ (b : ℕ). x.number * b) (sym one);
      least = λ m j e.
          let from : 1 * 10 ^ j ≡ m * 2 ^ (k + 1) = e in
          x.least m j (ap (λ (a : ℕ). a * 10 ^ j) is ∙ (back (2 ^ k) (10 ^ j) m (from ∙ ap (λ (b : ℕ). m * b) one) ∙ ap (λ (b : ℕ). m * (2 ^ k * (1 * b))) (sym next)));
      text_is = text_is ∙ (ap without_minus x.text_is ∙ without x.number x.places);
    }
  where
    same : (a u n : ℕ) → 0 < a → a * u ≡ n * (a * (1 * (a * 2))) → 1 * u ≡ n * (a * 2)
    same a u n some e = cancel a (1 * u) (n * (a * 2)) some (omega (arith, e))

    back : (a u m : ℕ) → 1 * u ≡ m * (a * 2) → a * u ≡ m * (a * (1 * (a * 2)))
    back a u m e = let f : a * (1 * u) ≡ a * (m * (a * 2)) = ap (λ (x : ℕ). a * x) e in omega (arith, f)

before_power : (k : ℕ) → (t : ℕ) × (suc t ≡ 2 ^ k)
before_power k = (2 ^ k - 1, let some : 0 < 2 ^ k = pow_pos k in omega (arith, some))

full_half : (k : ℕ) (signed text : List ℕ) → IsExactDecimal (error_num Bin (parts k) k (pos 0)) (error_den Bin (parts k) k) signed → text ≡ without_minus signed → IsExactDecimal (pos 1) (2 ^ (k + 1)) text
full_half k signed text x text_is =
    let E : Fraction → Type 0 = λ m. IsExactDecimal ((pos 0 *ℤ pos m.den) -ℤ pos (m.num * 2 ^ k)) (2 ^ k * m.den) signed in
    let here : IsExactDecimal ((pos 0 *ℤ pos (1 * 2 ^ suc k)) -ℤ pos (1 * 2 ^ k)) (2 ^ k * (1 * 2 ^ suc k)) signed = subst E (half k) x in
    let b = before_power k in
    let F : ℕ → Type 0 = λ a. IsExactDecimal ((pos 0 *ℤ pos (1 * 2 ^ suc k)) -ℤ pos (1 * a)) (2 ^ k * (1 * 2 ^ suc k)) signed in
    let there : IsExactDecimal ((pos 0 *ℤ pos (1 * 2 ^ suc k)) -ℤ pos (1 * suc b.0)) (2 ^ k * (1 * 2 ^ suc k)) signed = subst F (sym b.1) here in
    exact_half b.0 k signed text b.1 (subst (λ (z : ℤ). IsExactDecimal z (2 ^ k * (1 * 2 ^ suc k)) signed) (error_is (1 * 2 ^ suc k) b.0) there) text_is

by_text : (k : ℕ) (signed text : List ℕ) → suc k ≤ 1100 → IsErrorText Members Value Bin (parts k) k (pos 0) signed → text ≡ without_minus signed → IsExactDecimal (pos 1) (2 ^ (k + 1)) text
by_text k signed text few (inl full) is = full_half k signed text full.1 is
by_text k signed text few (inr long) is = absurd (long.0 (subst (λ (m : Fraction). IsBrief m.num m.den) (sym (half k)) (half_brief k few)))

pub range_error_is_half_an_ulp : RangeErrorIsHalfAnUlp
range_error_is_half_an_ulp r f lines text few h =
    let shown = h.shown in
    let read = shown.read in
    let k : ℕ = f.frac in
    let same : read.parts ≡ parts k = parts_unique Bin (half_ulp k) read.parts (parts k) read.numeral.beginning (has_parts k).beginning in
    let zero_is : read.number ≡ pos 0 = read_unique NearestEven Bin (parts k) k read.number (pos 0) (subst (λ (q : Parts). IsReadNumber NearestEven Bin q k read.number) same read.read) (read_zero k) in
    let bits : shown.bits ≡ pos 0 = read.image.same ∙ zero_is in
    let one : IsErrorText Members Value Bin (parts k) k shown.bits h.signed = subst (λ (q : Parts). IsErrorText Members Value Bin q k shown.bits h.signed) same shown.is_error in
    let two : IsErrorText Members Value Bin (parts k) k (pos 0) h.signed = subst (λ (v : ℤ). IsErrorText Members Value Bin (parts k) k v h.signed) bits one in
    by_text k h.signed text (omega (arith, few)) two h.text_is
