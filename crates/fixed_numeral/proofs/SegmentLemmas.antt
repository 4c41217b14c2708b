-- Stretches of a text, and the numbers that their digits spell.
use Rattle.std.proofs.Common.{◌≡◌, ℕ, zero, suc, ◌+◌, ◌-◌, ◌*◌, ◌^◌, ◌<◌, ◌≤◌, Bool, true, false, List, [], ◌∷◌, ◌++◌, length, take, drop, get_or, Option, Some, None, IfSome, option_to_list, ℤ, pos, neg_ℤ, cond, of_z, to_z, w32, refl, sym, ap, ◌∙◌, arith, append_assoc, append-nil, subst, length-append, length-take, length-drop, take-append-drop, mul-le-mul_left, mul-le-mul_right}
use Rattle.std.proofs.lemmas.List.{drop_more, drop-drop, drop-take, length_push, drop_all, take-take}
use Rattle.std.proofs.lemmas.Bool.{eqb-true}
use Rattle.std.specs.Prelude.{eqb}
use mir.Val.{bool_byte}
use Rattle.std.proofs.lemmas.Int.{to_z-of_z}
use Rattle.std.proofs.lemmas.Nat.{pow-add}
use Rattle.std.proofs.Math.Nat.{pow-zero, pow-suc, pow-le-pow_right}
use Rattle.std.proofs.lemmas.Int.Digits.{digits_value_push, digits_push, digits_value-lt}
use Rattle.std.specs.Char.{digit_value}
use Rattle.std.specs.Int.Digits.{AllBelowBase}
use Rattle.std.specs.Simd.Lanes.{number_l}
use Rattle.fixed_numeral.proofs.LaneLemmas.{eight_long, eight_below, small_base}
use Rattle.std.specs.Str.Parse.{AllDigits, digits_value}
use Rattle.fixed_numeral.specs.Inner.Segments.{IsSignAt, IsDigitRun, IsMantissaAt, IsExponentAt, IsShortAt}
use Rattle.fixed_numeral.specs.declared.radix.Radix.{Radix}
use Rattle.fixed_numeral.specs.Numeral.{Parts, Exponent, HasNumeral, base, is_separator, is_two_separator, fraction_text, exponent_text, fractional_digits}
use Rattle.fixed_numeral.specs.PartNumbers.{exponent_value, IsShortNumeral, HasFewDigits}
use Rattle.fixed_numeral.specs.Inner.Scan.{max_magnitude}
use Rattle.fixed_numeral.proofs.NumeralLemmas.{parts, exponent, parts_unique}
use Rattle.fixed_numeral.proofs.PartNumberLemmas.{short_by, signed_fits, value_append}
use Rattle.fixed_numeral.proofs.ScanLemmas.{digits_append}

-- ---- runs of digits
pub run_none : (b : ℕ) (bs : List ℕ) (from : ℕ) → from ≤ length bs → IsDigitRun b bs from from 0
run_none b bs from l = record { digits = []; text = refl; count = omega arith; within = l; are_digits = tt; spelled = refl }

pub run_joined : (b : ℕ) (bs : List ℕ) (from mid to n m : ℕ) → IsDigitRun b bs from mid n → IsDigitRun b bs mid to m → IsDigitRun b bs from to (n * b ^ (to - mid) + m)
run_joined b bs from mid to n m p q = record {
  digits = p.digits ++ q.digits;
  text = p.text ∙ ap (λ ys. p.digits ++ ys) q.text ∙ sym (append_assoc p.digits q.digits (drop to bs));
  count = omega (arith, length-append p.digits q.digits, p.count, q.count);
  within = q.within;
  are_digits = digits_append b p.digits q.digits p.are_digits q.are_digits;
  spelled = let count : to - mid ≡ length q.digits = omega (arith, q.count) in rw (count, p.spelled, q.spelled) (sym (value_append b p.digits q.digits));
}

pub run_more : (b : ℕ) (bs : List ℕ) (from at n d : ℕ) → IsDigitRun b bs from at n → at < length bs → digit_value (get_or bs at 0) ≡ d → d < b → IsDigitRun b bs from (at + 1) (n * b + d)
run_more b bs from at n d h l e below = record {
  digits = h.digits ++ get_or bs at 0 ∷ [];
  text = h.text ∙ ap (λ ys. h.digits ++ ys) (drop_more bs at 0 l) ∙ sym (append_assoc h.digits (get_or bs at 0 ∷ []) (drop (at + 1) bs));
  count = omega (arith, length_push h.digits (get_or bs at 0), h.count);
  within = omega arith;
  are_digits = digits_push b h.digits (get_or bs at 0) h.are_digits (omega arith);
  spelled = sym (digits_value_push b h.digits (get_or bs at 0) ∙ omega (arith, e, ap (λ x. x * b) h.spelled));
}

pub run_below : (b : ℕ) (bs : List ℕ) (from to n : ℕ) → IsDigitRun b bs from to n → n < b ^ (to - from)
run_below b bs from to n h = let count : to - from ≡ length h.digits = omega (arith, h.count) in rw (count, h.spelled) (digits_value-lt b h.digits h.are_digits)

pub run_room : (bs : List ℕ) (from at n d : ℕ) → IsDigitRun 10 bs from at n → at < 16 → d < 10 → (n * 10 < 2 ^ 64) × (n * 10 + d < 2 ^ 64)
run_room bs from at n d h few below =
    let room : at - from ≤ 15 = omega arith in
    let most : 10 ^ (at - from) ≤ 10 ^ 15 = pow-le-pow_right (omega arith) room in
    (omega (arith, run_below 10 bs from at n h, most), omega (arith, run_below 10 bs from at n h, most))

-- ---- signs
pub minus_stands : (bs : List ℕ) (from : ℕ) → from < length bs → get_or bs from 0 ≡ 45 → IsSignAt bs from (from + 1) true
minus_stands bs from l e = record { sign = Some 45; text = drop_more bs from 0 l ∙ rw e refl; within = omega arith; is_sign = refl; is_negative = refl }

pub plus_stands : (bs : List ℕ) (from : ℕ) → from < length bs → get_or bs from 0 ≡ 43 → IsSignAt bs from (from + 1) false
plus_stands bs from l e = record { sign = Some 43; text = drop_more bs from 0 l ∙ rw e refl; within = omega arith; is_sign = refl; is_negative = refl }

none_stands : (bs : List ℕ) (from : ℕ) → from < length bs → IsSignAt bs from from false
none_stands bs from l = record { sign = None; text = refl; within = omega arith; is_sign = tt; is_negative = refl }

pub sign_by_sums : (bs : List ℕ) (from m p : ℕ) → from < length bs → m ≡ bool_byte (eqb (get_or bs from 0) 45) → p ≡ bool_byte (eqb (get_or bs from 0) 43) → IsSignAt bs from (from + m + p) (eqb (get_or bs from 0) 45)
sign_by_sums bs from m p l em ep = by_cases (eqb (get_or bs from 0) 45) (eqb (get_or bs from 0) 43) refl refl em ep
  where
    by_cases : (c d : Bool) → eqb (get_or bs from 0) 45 ≡ c → eqb (get_or bs from 0) 43 ≡ d → m ≡ bool_byte c → p ≡ bool_byte d → IsSignAt bs from (from + m + p) c
    by_cases true true ec ed qm qp = absurd (omega (arith, eqb-true (get_or bs from 0) 45 ec, eqb-true (get_or bs from 0) 43 ed))
    by_cases true false ec ed qm qp = let to : from + 1 ≡ from + m + p = omega (arith, qm, qp) in subst (λ i. IsSignAt bs from i true) to (minus_stands bs from l (eqb-true (get_or bs from 0) 45 ec))
    by_cases false true ec ed qm qp = let to : from + 1 ≡ from + m + p = omega (arith, qm, qp) in subst (λ i. IsSignAt bs from i false) to (plus_stands bs from l (eqb-true (get_or bs from 0) 43 ed))
    by_cases false false ec ed qm qp = let to : from ≡ from + m + p = omega (arith, qm, qp) in subst (λ i. IsSignAt bs from i false) to (none_stands bs from l)

-- ---- mantissas
at_end : (bs : List ℕ) (n : ℕ) → n ≡ length bs → drop n bs ≡ []
at_end bs n e = drop_all n bs (omega arith)

pub mantissa_parted : (b : ℕ) (bs : List ℕ) (from point to whole fraction places : ℕ) → IsDigitRun b bs from point whole → point < length bs → get_or bs point 0 ≡ 46 → IsDigitRun b bs (point + 1) to fraction → places + (point + 1) ≡ to → from + 1 < to → IsMantissaAt b bs from to whole fraction places
mantissa_parted b bs from point to whole fraction places h l dot k p some = record {
  whole = h.digits;
  fraction = Some k.digits;
  text = h.text ∙ ap (λ ys. h.digits ++ ys) (drop_more bs point 0 l ∙ rw dot (ap (λ ys. 46 ∷ ys) k.text));
  within = k.within;
  whole_digits = h.are_digits;
  fraction_digits = k.are_digits;
  whole_spelled = h.spelled;
  fraction_spelled = k.spelled;
  places_are = omega (arith, k.count, p);
  some = omega (arith, length-append h.digits k.digits, h.count, k.count, some, p);
}

-- ---- exponents
-- at the end of a text the exponent is 0
pub exponent_ended : (r : Radix) (bs : List ℕ) (from : ℕ) (x : ℤ) (two : Bool) → from ≡ length bs → IsExponentAt r bs from x two → x ≡ pos 0
exponent_ended r bs from x two end h = by_cases h.exponent h.is_number (sym h.text ∙ at_end bs from end)
  where
    by_cases : (e : Option Exponent) → x ≡ exponent_value e → exponent_text e ≡ [] → x ≡ pos 0
    by_cases None q t = q
    by_cases (Some e) q t = absurd (omega (arith, ap length t))

pub exponent_stands : (r : Radix) (bs : List ℕ) (from after first to number : ℕ) (minus : Bool) → from < length bs → is_separator r (get_or bs from 0) ≡ true → after ≡ from + 1 → IsSignAt bs after first minus → IsDigitRun 10 bs first to number → to ≡ length bs → first < to → number ≤ max_magnitude minus → IsExponentAt r bs from (cond minus (neg_ℤ (pos number)) (pos number)) (is_two_separator r (get_or bs from 0))
exponent_stands r bs from after first to number minus l k a s d e some most = record {
  exponent = Some (exponent (get_or bs from 0) s.sign d.digits);
  text = drop_more bs from 0 l ∙ ap (λ ys. get_or bs from 0 ∷ ys) (rw (← a) (s.text ∙ ap (λ ys. option_to_list s.sign ++ ys) (d.text ∙ rw (at_end bs to e) (append-nil d.digits))));
  is_exponent = record { separator = k; sign = s.is_sign; digits = d.are_digits; in_range = rw (← s.is_negative, ← d.spelled) (signed_fits minus number most) };
  some = omega (arith, d.count, some);
  is_number = rw (s.is_negative, d.spelled) refl;
  is_by_two = refl;
}

-- ---- sign, mantissa and exponent together
pub short_at : (r : Radix) (bs : List ℕ) (first mid whole fraction places : ℕ) (negative two : Bool) (x : ℤ) → IsSignAt bs 0 first negative → IsMantissaAt (base r) bs first mid whole fraction places → IsExponentAt r bs mid x two → whole < base r ^ 16 → places ≤ 27 → IsShortAt r bs negative whole fraction places x two
short_at r bs first mid whole fraction places negative two x s m e fits few = record {
  parts = parts s.sign m.whole m.fraction e.exponent;
  numeral = record {
    beginning = record {
      parts = record { sign = s.is_sign; whole = m.whole_digits; fraction = m.fraction_digits; exponent = e.is_exponent };
      text = s.text ∙ ap (λ ys. option_to_list s.sign ++ ys) (m.text ∙ ap (λ ys. m.whole ++ (fraction_text m.fraction ++ ys)) e.text);
    };
    mantissa = m.some;
    exponent = e.some;
  };
  numbers = short_by r (parts s.sign m.whole m.fraction e.exponent) negative whole fraction places x two s.is_negative m.whole_spelled m.fraction_spelled m.places_are e.is_number e.is_by_two;
  below = mantissa_below (base r) bs first mid whole fraction places m;
  whole_fits = fits;
  few = few;
}
  where
    below_by : (b : ℕ) (f : Option (List ℕ)) → IfSome f (AllDigits b) → digits_value b (fractional_digits f) < b ^ length (fractional_digits f)
    below_by b None h = rw (pow-zero b) (omega arith)
    below_by b (Some ds) h = digits_value-lt b ds h

    mantissa_below : (b : ℕ) (bs : List ℕ) (from to whole fraction places : ℕ) → IsMantissaAt b bs from to whole fraction places → fraction < b ^ places
    mantissa_below b bs from to whole fraction places h = rw (h.fraction_spelled, h.places_are) (below_by b h.fraction h.fraction_digits)

pub short_parts : (r : Radix) (bs : List ℕ) (negative : Bool) (whole fraction places : ℕ) (x : ℤ) (two : Bool) (p : Parts) → IsShortAt r bs negative whole fraction places x two → HasNumeral r bs p → IsShortNumeral r p negative whole fraction places x two
short_parts r bs negative whole fraction places x two p h n =
    rw (parts_unique r bs p h.parts n.beginning h.numeral.beginning) h.numbers

pub if_some : {T : Type 0} (P Q : T → Type 0) (o : Option T) → ((x : T) → P x → Q x) → IfSome o P → IfSome o Q
if_some P Q None f h = h
if_some P Q (Some x) f h = f x h

-- ---- few digits
pub few_digits : (b : ℕ) (bs : List ℕ) (from to whole fraction places : ℕ) → 2 ≤ b → b ≤ 16 → from ≤ length bs → IsMantissaAt b bs from to whole fraction places → to ≤ from + 16 → HasFewDigits b whole fraction places × (whole < b ^ 16)
few_digits b bs from to whole fraction places least most place h late = by_cases h.fraction h.fraction_digits h.fraction_spelled h.places_are h.text
  where
    spelled_fits : (n m : ℕ) → n + m ≤ 16 → whole < b ^ n → fraction < b ^ m → (whole * b ^ m + fraction < b ^ 16) × (whole < b ^ 16)
    spelled_fits n m few w f =
        let product : (whole + 1) * b ^ m ≤ b ^ n * b ^ m = mul-le-mul_right (b ^ m) (omega arith) in
        let all : b ^ (n + m) ≤ b ^ 16 = pow-le-pow_right (omega arith) few in
        let alone : b ^ n ≤ b ^ 16 = pow-le-pow_right (omega arith) (omega arith) in
        (omega (arith, product, pow-add b n m, all), omega arith)

    whole_below : whole < b ^ length h.whole
    whole_below = rw (h.whole_spelled) (digits_value-lt b h.whole h.whole_digits)

    by_cases : (f : Option (List ℕ)) → IfSome f (AllDigits b) → fraction ≡ digits_value b (fractional_digits f) → places ≡ length (fractional_digits f) → drop from bs ≡ h.whole ++ (fraction_text f ++ drop to bs) → HasFewDigits b whole fraction places × (whole < b ^ 16)
    by_cases None d s p t =
        let count : length bs - from ≡ length h.whole + (length bs - to) = sym (length-drop from bs) ∙ ap length t ∙ length-append h.whole (drop to bs) ∙ ap (λ i. length h.whole + i) (length-drop to bs) in
        let under : fraction < b ^ 0 = rw (s, pow-zero b) (omega arith) in
        let fits = spelled_fits (length h.whole) 0 (omega (arith, count, h.within, late)) whole_below under in
        (record { few = omega (arith, p); fits = rw p fits.0 }, fits.1)
    by_cases (Some ds) d s p t =
        let count : length bs - from ≡ length h.whole + (1 + (length ds + (length bs - to))) = omega (arith, ap length t, length-drop from bs, length-append h.whole (46 ∷ (ds ++ drop to bs)), length-append ds (drop to bs), length-drop to bs) in
        let under : fraction < b ^ length ds = rw s (digits_value-lt b ds d) in
        let fits = spelled_fits (length h.whole) (length ds) (omega (arith, count, h.within, late, place)) whole_below under in
        (record { few = omega (arith, p, count, h.within, late, place); fits = rw p fits.0 }, fits.1)

-- ---- restated for the goals
pub exponent_at : (r : Radix) (bs : List ℕ) (from first to number : ℕ) (minus : Bool) (x : ℤ) (two : Bool) → from < length bs → is_separator r (get_or bs from 0) ≡ true → IsSignAt bs (from + 1) first minus → IsDigitRun 10 bs first to number → to ≡ length bs → (to ≡ first → ⊥) → number ≤ max_magnitude minus → x ≡ cond minus (neg_ℤ (pos number)) (pos number) → two ≡ is_two_separator r (get_or bs from 0) → IsExponentAt r bs from (to_z w32 (of_z w32 x)) two
exponent_at r bs from first to number minus x two l k s d e ne most ex et =
    let h = exponent_stands r bs from (from + 1) first to number minus l k refl s d e (omega (arith, d.count, ne)) most in
    let same : to_z w32 (of_z w32 x) ≡ x = to_z-of_z w32 x (rw ex (signed_fits minus number most)) in
    rw (same, ex, et) h

-- ---- digits that were read eight at once, as a word
pub run_in : (b : ℕ) (bs : List ℕ) (from k to n : ℕ) → from + k ≡ to → to ≤ length bs → AllDigits b (take k (drop from bs)) → n ≡ digits_value b (take k (drop from bs)) → IsDigitRun b bs from to n
run_in b bs from k to n e l h v =
    let count : length (take k (drop from bs)) ≡ k = length-take k (drop from bs) ∙ omega (arith, length-drop from bs) in
    record {
      digits = take k (drop from bs);
      text = sym (take-append-drop k (drop from bs)) ∙ ap (λ ys. take k (drop from bs) ++ ys) (drop-drop k from bs ∙ ap (λ i. drop i bs) e);
      count = omega (arith, count);
      within = l;
      are_digits = h;
      spelled = v;
    }

abbrev IsFirst : ℕ → ℕ → ℕ → Type 0
IsFirst word count n = (xs : List ℕ) → length xs ≡ 8 → AllBelowBase 256 xs → word ≡ number_l 256 xs → AllDigits 10 (take count xs) × (n ≡ digits_value 10 (take count xs))

abbrev IsLast : ℕ → ℕ → ℕ → Type 0
IsLast word count n = (xs : List ℕ) → length xs ≡ 8 → AllBelowBase 256 xs → word ≡ number_l 256 xs → AllDigits 10 (drop (8 - count) xs) × (n ≡ digits_value 10 (drop (8 - count) xs))

pub run_of_first : (bs : List ℕ) (from count to n word : ℕ) → from + 8 ≤ length bs → ((k : ℕ) → get_or bs k 0 < 256) → count ≤ 8 → from + count ≡ to → word ≡ number_l 256 (take 8 (drop from bs)) → IsFirst word count n → IsDigitRun 10 bs from to n
run_of_first bs from count to n word l t few e w h =
    let found = h (take 8 (drop from bs)) (eight_long bs from l) (eight_below bs from l t) w in
    let same : take count (take 8 (drop from bs)) ≡ take count (drop from bs) = take-take count 8 (drop from bs) few in
    run_in 10 bs from count to n e (omega arith) (rw same at found.0) (rw same at found.1)

pub run_of_last : (bs : List ℕ) (from count to n word : ℕ) → 8 ≤ to → to ≤ length bs → ((k : ℕ) → get_or bs k 0 < 256) → count ≤ 8 → from + count ≡ to → word ≡ number_l 256 (take 8 (drop (to - 8) bs)) → IsLast word count n → IsDigitRun 10 bs from to n
run_of_last bs from count to n word l within t few e w h =
    let found = h (take 8 (drop (to - 8) bs)) (eight_long bs (to - 8) (omega arith)) (eight_below bs (to - 8) (omega arith) t) w in
    let there : (to - 8) + (8 - count) ≡ from = omega arith in
    let left : 8 ≡ (8 - count) + count = omega arith in
    let rest : drop (8 - count) (take 8 (drop (to - 8) bs)) ≡ take count (drop from bs) = ap (λ i. drop (8 - count) (take i (drop (to - 8) bs))) left ∙ drop-take (8 - count) count (drop (to - 8) bs) ∙ ap (take count) (drop-drop (8 - count) (to - 8) bs ∙ ap (λ i. drop i bs) there) in
    run_in 10 bs from count to n e within (rw rest at found.0) (rw rest at found.1)

-- the last bytes of a word are bytes of the text
last_of_word : (bs : List ℕ) (from count to : ℕ) → 8 ≤ to → count ≤ 8 → from + count ≡ to → drop (8 - count) (take 8 (drop (to - 8) bs)) ≡ take count (drop from bs)
last_of_word bs from count to l few e =
    let there : (to - 8) + (8 - count) ≡ from = omega arith in
    let left : 8 ≡ (8 - count) + count = omega arith in
    ap (λ i. drop (8 - count) (take i (drop (to - 8) bs))) left ∙ drop-take (8 - count) count (drop (to - 8) bs) ∙ ap (take count) (drop-drop (8 - count) (to - 8) bs ∙ ap (λ i. drop i bs) there)

abbrev IsNumberOf : ℕ → ℕ → ℕ → ℕ → Type 0
IsNumberOf b word count n = (xs : List ℕ) → length xs ≡ 8 → AllBelowBase 256 xs → word ≡ number_l 256 xs → AllDigits b (drop (8 - count) xs) → n ≡ digits_value b (drop (8 - count) xs)

pub run_at_end : (b : ℕ) (bs : List ℕ) (from count to n word : ℕ) → 8 ≤ to → to ≤ length bs → ((k : ℕ) → get_or bs k 0 < 256) → count ≤ 8 → from + count ≡ to → word ≡ number_l 256 (take 8 (drop (to - 8) bs)) → IsNumberOf b word count n → AllDigits b (take count (drop from bs)) → IsDigitRun b bs from to n
run_at_end b bs from count to n word l within t few e w h digits =
    let rest : drop (8 - count) (take 8 (drop (to - 8) bs)) ≡ take count (drop from bs) = last_of_word bs from count to l few e in
    run_in b bs from count to n e within digits ((h (take 8 (drop (to - 8) bs)) (eight_long bs (to - 8) (omega arith)) (eight_below bs (to - 8) (omega arith) t) w (subst (AllDigits b) (sym rest) digits)) ∙ ap (digits_value b) rest)

digits_cut : (b k j n : ℕ) (xs : List ℕ) → k + j ≡ n → AllDigits b (take n xs) → AllDigits b (take k xs) × AllDigits b (take j (drop k xs))
digits_cut b zero j n xs e h = let same : n ≡ j = omega arith in (tt, subst (λ i. AllDigits b (take i xs)) same h)
digits_cut b (suc k) j zero xs e h = absurd (omega arith)
digits_cut b (suc k) zero (suc n) [] e h = (tt, tt)
digits_cut b (suc k) (suc j) (suc n) [] e h = (tt, tt)
digits_cut b (suc k) j (suc n) (x ∷ xs) e h =
    let rest = digits_cut b k j n xs (omega arith) h.1 in
    ((h.0, rest.0), rest.1)

run_in_two : (b : ℕ) (bs : List ℕ) (from mid to n m : ℕ) → to ≡ mid + 8 → IsDigitRun b bs from mid n → IsDigitRun b bs mid to m → IsDigitRun b bs from to (n * (b * b * (b * b) * (b * b * (b * b))) + m)
run_in_two b bs from mid to n m e p q =
    let count : to - mid ≡ 8 = omega arith in
    let one : b ^ 1 ≡ b = pow-suc b 0 ∙ omega (arith, ap (λ i. i * b) (pow-zero b)) in
    let two : b ^ 2 ≡ b * b = pow-add b 1 1 ∙ rw one refl in
    let four : b ^ 4 ≡ b * b * (b * b) = pow-add b 2 2 ∙ rw two refl in
    let eight : b ^ (to - mid) ≡ b * b * (b * b) * (b * b * (b * b)) = ap (λ i. b ^ i) count ∙ pow-add b 4 4 ∙ rw four refl in
    subst (λ i. IsDigitRun b bs from to (n * i + m)) eight (run_joined b bs from mid to n m p q)

pub number_in_two : (b : ℕ) (bs : List ℕ) (from to n m w v : ℕ) → 16 ≤ to → to ≤ length bs → ((k : ℕ) → get_or bs k 0 < 256) → 8 < to - from → to ≤ from + 16 → w ≡ number_l 256 (take 8 (drop (to - 16) bs)) → v ≡ number_l 256 (take 8 (drop (to - 8) bs)) → IsNumberOf b w (to - from - 8) n → IsNumberOf b v 8 m → AllDigits b (take (to - from) (drop from bs)) → IsDigitRun b bs from to (n * (b * b * (b * b) * (b * b * (b * b))) + m)
number_in_two b bs from to n m w v l within t many few ew ev hn hm digits =
    let mid : ℕ = to - 8 in
    let cut = digits_cut b (to - from - 8) 8 (to - from) (drop from bs) (omega arith) digits in
    let there : drop (to - from - 8) (drop from bs) ≡ drop mid bs = drop-drop (to - from - 8) from bs ∙ ap (λ i. drop i bs) (let e : from + (to - from - 8) ≡ mid = omega arith in e) in
    let high = run_at_end b bs from (to - from - 8) mid n w (omega arith) (omega arith) t (omega arith) (omega arith) (ew ∙ ap (λ i. number_l 256 (take 8 (drop i bs))) (omega arith)) hn cut.0 in
    let low = run_at_end b bs mid 8 to m v (omega arith) within t (omega arith) (omega arith) ev hm (rw there at cut.1) in
    run_in_two b bs from mid to n m (omega arith) high low

pub two_fit : (b n m : ℕ) → b ≤ 16 → n < 2 ^ 32 → m < 2 ^ 32 → (n * (b * b * (b * b) * (b * b * (b * b))) < 2 ^ 64) × (n * (b * b * (b * b) * (b * b * (b * b))) + m < 2 ^ 64)
two_fit b n m s l k =
    let most : n * (b * b * (b * b) * (b * b * (b * b))) ≤ n * 2 ^ 32 = mul-le-mul_left n (small_base b s).eight in
    (omega arith, omega arith)

pub run_of_both : (bs : List ℕ) (from mid to n m : ℕ) → IsDigitRun 10 bs from mid n → IsDigitRun 10 bs mid to m → to - mid ≡ 8 → IsDigitRun 10 bs from to (n * 100000000 + m)
run_of_both bs from mid to n m p q e =
    subst (λ i. IsDigitRun 10 bs from to (n * i + m)) (ap (λ i. 10 ^ i) e) (run_joined 10 bs from mid to n m p q)

pub run_of_sixteen : (bs : List ℕ) (from mid to n m : ℕ) → IsDigitRun 10 bs from mid n → IsDigitRun 10 bs mid to m → to - mid ≡ 16 → IsDigitRun 10 bs from to (n * 10000000000000000 + m)
run_of_sixteen bs from mid to n m p q e =
    subst (λ i. IsDigitRun 10 bs from to (n * i + m)) (ap (λ i. 10 ^ i) e) (run_joined 10 bs from mid to n m p q)

pub high_fits : (bs : List ℕ) (from mid n m : ℕ) → IsDigitRun 10 bs from mid n → mid - from ≤ 8 → m < 10 ^ 8 → (n * 100000000 < 2 ^ 64) × (n * 100000000 + m < 2 ^ 64)
high_fits bs from mid n m h few l =
    let most : 10 ^ (mid - from) ≤ 10 ^ 8 = pow-le-pow_right (omega arith) few in
    (omega (arith, run_below 10 bs from mid n h, most), omega (arith, run_below 10 bs from mid n h, most))

pub low_below : (bs : List ℕ) (mid to m : ℕ) → IsDigitRun 10 bs mid to m → to - mid ≡ 8 → m < 10 ^ 8
low_below bs mid to m h e = rw e at (run_below 10 bs mid to m h)

pub sixteen_fits : (bs : List ℕ) (from to n : ℕ) → IsDigitRun 10 bs from to n → to ≤ 16 → n < 10 ^ 16
sixteen_fits bs from to n h few =
    let room : to - from ≤ 16 = omega arith in
    let most : 10 ^ (to - from) ≤ 10 ^ 16 = pow-le-pow_right (omega arith) room in
    omega (arith, run_below 10 bs from to n h, most)

-- ---- a text that ends another
pub sign_dropped : (bs : List ℕ) (from to : ℕ) (negative : Bool) → from ≤ to → IsSignAt bs from to negative → IsSignAt (drop from bs) 0 (to - from) negative
sign_dropped bs from to negative l h = record {
  sign = h.sign;
  text = h.text ∙ ap (λ ys. option_to_list h.sign ++ ys) (sym (drop-drop (to - from) from bs ∙ ap (λ i. drop i bs) (let e : from + (to - from) ≡ to = omega arith in e)));
  within = omega (arith, length-drop from bs, h.within);
  is_sign = h.is_sign;
  is_negative = h.is_negative;
}

-- ---- the order of indexes, from the parts between them
pub sign_place : (bs : List ℕ) (from to : ℕ) (negative : Bool) → from ≤ length bs → IsSignAt bs from to negative → from ≤ to
sign_place bs from to negative l h = omega (arith, ap length h.text, length-append (option_to_list h.sign) (drop to bs), length-drop from bs, length-drop to bs, h.within)

pub mantissa_place : (b : ℕ) (bs : List ℕ) (from to w f p : ℕ) → from ≤ length bs → IsMantissaAt b bs from to w f p → from ≤ to
mantissa_place b bs from to w f p l h = omega (arith, ap length h.text, length-append h.whole (fraction_text h.fraction ++ drop to bs), length-append (fraction_text h.fraction) (drop to bs), length-drop from bs, length-drop to bs, h.within)

dropped_twice : (bs : List ℕ) (k i : ℕ) → k ≤ i → drop (i - k) (drop k bs) ≡ drop i bs
dropped_twice bs k i m = drop-drop (i - k) k bs ∙ ap (λ j. drop j bs) (let e : k + (i - k) ≡ i = omega arith in e)

mantissa_dropped : (b : ℕ) (bs : List ℕ) (k from to w f p : ℕ) → k ≤ from → from ≤ length bs → IsMantissaAt b bs from to w f p → IsMantissaAt b (drop k bs) (from - k) (to - k) w f p
mantissa_dropped b bs k from to w f p l s h =
    let past : k ≤ to = omega (arith, mantissa_place b bs from to w f p s h) in
    record {
      whole = h.whole;
      fraction = h.fraction;
      text = dropped_twice bs k from l ∙ h.text ∙ ap (λ ys. h.whole ++ (fraction_text h.fraction ++ ys)) (sym (dropped_twice bs k to past));
      within = omega (arith, length-drop k bs, h.within);
      whole_digits = h.whole_digits;
      fraction_digits = h.fraction_digits;
      whole_spelled = h.whole_spelled;
      fraction_spelled = h.fraction_spelled;
      places_are = h.places_are;
      some = h.some;
    }

exponent_dropped : (r : Radix) (bs : List ℕ) (k from : ℕ) (x : ℤ) (two : Bool) → k ≤ from → IsExponentAt r bs from x two → IsExponentAt r (drop k bs) (from - k) x two
exponent_dropped r bs k from x two l h = record {
  exponent = h.exponent;
  text = dropped_twice bs k from l ∙ h.text;
  is_exponent = h.is_exponent;
  some = h.some;
  is_number = h.is_number;
  is_by_two = h.is_by_two;
}

-- ---- a numeral at the end of a text
pub ending_short : (r : Radix) (bs : List ℕ) (from first mid whole fraction places : ℕ) (negative two : Bool) (x : ℤ) → from ≤ length bs → IsSignAt bs from first negative → IsMantissaAt (base r) bs first mid whole fraction places → IsExponentAt r bs mid x two → whole < base r ^ 16 → places ≤ 27 → IsShortAt r (drop from bs) negative whole fraction places x two
ending_short r bs from first mid whole fraction places negative two x l s m e fits few =
    let one = sign_place bs from first negative l s in
    let past = mantissa_place (base r) bs first mid whole fraction places s.within m in
    short_at r (drop from bs) (first - from) (mid - from) whole fraction places negative two x (sign_dropped bs from first negative one s) (mantissa_dropped (base r) bs from first mid whole fraction places one s.within m) (exponent_dropped r bs from mid x two (omega arith) e) fits few

pub sign_short : (bs : List ℕ) (from to : ℕ) (negative : Bool) → from ≤ length bs → IsSignAt bs from to negative → to ≤ from + 1
sign_short bs from to negative l h = omega (arith, ap length h.text, length-append (option_to_list h.sign) (drop to bs), length-drop from bs, length-drop to bs, h.within, at_most h.sign)
  where
    at_most : (o : Option ℕ) → length (option_to_list o) ≤ 1
    at_most None = omega arith
    at_most (Some b) = omega arith
