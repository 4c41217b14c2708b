-- Zeros at an end of a slice, and the number of its digits.
use Rattle.std.proofs.Common.{◌≡◌, ℕ, ◌+◌, ◌-◌, ◌*◌, ◌%◌, ◌^◌, ◌<◌, ◌≤◌, true, false, nat_lt, List, [], ◌∷◌, ◌++◌, length, take, drop, get_or, refl, sym, ap, ◌∙◌, ⊎_elim, arith, append-nil, length-append, length-take, length-drop, take-append-drop, ltb-true, ltb-false, mul-le-mul_right, add-one}
use Rattle.std.proofs.lemmas.List.{drop_more, take_more, take_all, take_rest, drop_all, replicate_more, length-replicate}
use Rattle.std.proofs.lemmas.Bool.{cases_lt}
use Rattle.std.proofs.lemmas.Int.Digits.{number_after_append, number_after_lt}
use Rattle.std.proofs.Math.Nat.{pow-le-pow_right}
use Rattle.std.proofs.Math.Seq.{take-add}
use Rattle.std.specs.Int.Digits.{number_from_digits, number_from_digits_after, AllBelowBase}
use Rattle.std.specs.Char.{digit_value}
use Rattle.fixed_numeral.specs.Digits.{digits_in, zeros}
use Rattle.fixed_numeral.specs.Inner.MovedPoint.{IsWithoutLeading, IsWithoutTrailing}
use Rattle.fixed_numeral.proofs.ByteLemmas.{value_zero}
use Rattle.fixed_numeral.proofs.LaneLemmas.{after_eight}
use Rattle.fixed_numeral.proofs.DigitLemmas.{digits_in_none, digits_in_append, digit_before, other_before, cut, digits_le, count_same, all_counted}
use Rattle.fixed_numeral.proofs.PlaceLemmas.{no_leading, no_trailing, none_leading, none_trailing, below_parts}

zero_byte : (b : ℕ) (bs : List ℕ) → b ≡ 48 → digits_in (b ∷ bs) ≡ 0 ∷ digits_in bs
zero_byte b bs e = ap (λ x. digits_in (x ∷ bs)) e ∙ digit_before 48 0 bs refl (omega arith)

other_byte : (b : ℕ) (bs : List ℕ) → nat_lt (digit_value b) 16 ≡ false → digits_in (b ∷ bs) ≡ digits_in bs
other_byte b bs e = other_before b bs (ltb-false _ _ e)

digits_push : (bs : List ℕ) (i : ℕ) → i < length bs → digits_in (take (i + 1) bs) ≡ digits_in (take i bs) ++ digits_in (get_or bs i 0 ∷ [])
digits_push bs i l = ap digits_in (take_more bs i 0 l) ∙ digits_in_append (take i bs) (get_or bs i 0 ∷ [])

whole_split : (bs : List ℕ) (i : ℕ) → digits_in bs ≡ digits_in (take i bs) ++ digits_in (drop i bs)
whole_split bs i = ap digits_in (sym (take-append-drop i bs)) ∙ digits_in_append (take i bs) (drop i bs)

-- ---- at the front
-- the first i bytes have z digits, which are zeros
pub record IsLed (bs : List ℕ) (i z : ℕ) : Type 0 where
  pub digits : digits_in (take i bs) ≡ zeros z
  pub few : z ≤ i

pub led_none : (bs : List ℕ) → IsLed bs 0 0
led_none bs = record { digits = digits_in_none; few = omega arith }

pub led_zero : (bs : List ℕ) (i z : ℕ) → IsLed bs i z → i < length bs → get_or bs i 0 ≡ 48 → IsLed bs (i + 1) (z + 1)
led_zero bs i z h l e = record {
  digits = digits_push bs i l ∙ rw (h.digits, zero_byte (get_or bs i 0) [] e, digits_in_none) (replicate_more z 0);
  few = omega (arith, h.few);
}

pub led_other : (bs : List ℕ) (i z : ℕ) → IsLed bs i z → i < length bs → nat_lt (digit_value (get_or bs i 0)) 16 ≡ false → IsLed bs (i + 1) z
led_other bs i z h l e = record {
  digits = digits_push bs i l ∙ rw (h.digits, other_byte (get_or bs i 0) [] e, digits_in_none) (append-nil (zeros z));
  few = omega (arith, h.few);
}

-- `rest` are the digits from the first nonzero digit on
pub record IsStripped (ds rest : List ℕ) (z : ℕ) : Type 0 where
  pub leading : IsWithoutLeading ds rest
  pub count : z + length rest ≡ length ds

pub led_found : (bs ds : List ℕ) (i z : ℕ) → digits_in bs ≡ ds → IsLed bs i z → i < length bs → (get_or bs i 0 ≡ 48 → ⊥) → nat_lt (digit_value (get_or bs i 0)) 16 ≡ true → IsStripped ds (digits_in (take (length bs - i) (drop i bs))) z
led_found bs ds i z same h l ne d =
    let first : digits_in (drop i bs) ≡ digit_value (get_or bs i 0) ∷ digits_in (drop (i + 1) bs) = ap digits_in (drop_more bs i 0 l) ∙ digit_before (get_or bs i 0) (digit_value (get_or bs i 0)) (drop (i + 1) bs) refl (ltb-true _ _ d) in
    let split : ds ≡ zeros z ++ digits_in (drop i bs) = sym same ∙ whole_split bs i ∙ ap (λ xs. xs ++ digits_in (drop i bs)) h.digits in
    rw (ap digits_in (take_rest bs i)) (record {
      leading = record { count = z; split = split; none = no_leading _ _ _ first (λ e. ne (value_zero _ e)) };
      count = sym (ap length split ∙ length-append (zeros z) (digits_in (drop i bs)) ∙ ap (λ n. n + length (digits_in (drop i bs))) (length-replicate {A = ℕ} z 0));
    })

pub led_end : (bs ds rest : List ℕ) (i z : ℕ) → digits_in bs ≡ ds → IsLed bs i z → length bs ≤ i → rest ≡ [] → IsWithoutLeading ds rest
led_end bs ds rest i z same h l e = rw e (record {
  count = z;
  split = sym same ∙ ap digits_in (sym (take_all i bs l)) ∙ h.digits ∙ sym (append-nil (zeros z));
  none = none_leading [] refl;
})

-- ---- at the end
-- the bytes from end on have z digits, which are zeros
pub record IsTrailed (bs : List ℕ) (end z : ℕ) : Type 0 where
  pub digits : digits_in (drop end bs) ≡ zeros z
  pub within : end ≤ length bs
  pub few : z + end ≤ length bs

pub trailed_none : (bs : List ℕ) → IsTrailed bs (length bs) 0
trailed_none bs = record { digits = ap digits_in (drop_all (length bs) bs (omega arith)) ∙ digits_in_none; within = omega arith; few = omega arith }

back_one : (bs : List ℕ) (end : ℕ) → 0 < end → end ≤ length bs → drop (end - 1) bs ≡ get_or bs (end - 1) 0 ∷ drop end bs
back_one bs end p l =
    drop_more bs (end - 1) 0 (omega arith) ∙ ap (λ n. get_or bs (end - 1) 0 ∷ drop n bs) (omega arith)

pub trailed_zero : (bs : List ℕ) (end z : ℕ) → IsTrailed bs end z → 0 < end → get_or bs (end - 1) 0 ≡ 48 → IsTrailed bs (end - 1) (z + 1)
trailed_zero bs end z h p e =
    record {
      digits = ap digits_in (back_one bs end p h.within) ∙ zero_byte _ (drop end bs) e ∙ ap (λ xs. 0 ∷ xs) h.digits ∙ sym (rw add-one refl);
      within = omega (arith, h.within);
      few = omega (arith, h.few);
    }

pub trailed_other : (bs : List ℕ) (end z : ℕ) → IsTrailed bs end z → 0 < end → nat_lt (digit_value (get_or bs (end - 1) 0)) 16 ≡ false → IsTrailed bs (end - 1) z
trailed_other bs end z h p e = record {
  digits = ap digits_in (back_one bs end p h.within) ∙ other_byte _ (drop end bs) e ∙ h.digits;
  within = omega (arith, h.within);
  few = omega (arith, h.few);
}

pub record IsCut (ds rest : List ℕ) (z : ℕ) : Type 0 where
  pub trailing : IsWithoutTrailing ds rest
  pub count : z + length rest ≡ length ds

pub trailed_found : (bs ds : List ℕ) (end z : ℕ) → digits_in bs ≡ ds → IsTrailed bs end z → 0 < end → (get_or bs (end - 1) 0 ≡ 48 → ⊥) → nat_lt (digit_value (get_or bs (end - 1) 0)) 16 ≡ true → IsCut ds (digits_in (take end bs)) z
trailed_found bs ds end z same h p ne d =
    let e : end - 1 + 1 ≡ end = omega arith in
    let split : ds ≡ digits_in (take end bs) ++ zeros z = sym same ∙ whole_split bs end ∙ ap (λ xs. digits_in (take end bs) ++ xs) h.digits in
    record {
      trailing = record { count = z; split = split; none = no_trailing _ _ _ (ap (λ n. digits_in (take n bs)) (sym e) ∙ digits_push bs (end - 1) (omega (arith, h.within)) ∙ ap (λ xs. digits_in (take (end - 1) bs) ++ xs) (digit_before (get_or bs (end - 1) 0) (digit_value (get_or bs (end - 1) 0)) [] refl (ltb-true _ _ d) ∙ ap (λ xs. digit_value (get_or bs (end - 1) 0) ∷ xs) digits_in_none)) (λ e. ne (value_zero _ e)) };
      count = omega (arith, ap length split, length-append (digits_in (take end bs)) (zeros z), length-replicate {A = ℕ} z 0);
    }

pub trailed_end : (bs ds rest : List ℕ) (end z : ℕ) → digits_in bs ≡ ds → IsTrailed bs end z → end ≤ 0 → rest ≡ [] → IsWithoutTrailing ds rest
trailed_end bs ds rest end z same h l e =
    let nothing : end ≡ 0 = omega arith in
    rw e (record { count = z; split = sym same ∙ (rw nothing at h.digits); none = none_trailing [] refl })

-- ---- numbers
-- the digits among the first i bytes spell `number` after `start`
abbrev pub IsNumberOf : ℕ → ℕ → List ℕ → ℕ → ℕ → Type 0
IsNumberOf base start bs i number = number ≡ number_from_digits_after base start (digits_in (take i bs))

pub number_none : (base start : ℕ) (bs : List ℕ) → IsNumberOf base start bs 0 start
number_none base start bs = rw digits_in_none refl

pub number_step : (base start : ℕ) (bs : List ℕ) (i number d : ℕ) → IsNumberOf base start bs i number → i < length bs → d ≡ digit_value (get_or bs i 0) → d < 16 → IsNumberOf base start bs (i + 1) (number * base + d)
number_step base start bs i number d h l e s =
    let push : digits_in (take (i + 1) bs) ≡ digits_in (take i bs) ++ d ∷ [] = digits_push bs i l ∙ ap (λ xs. digits_in (take i bs) ++ xs) (digit_before (get_or bs i 0) d [] e s ∙ ap (λ xs. d ∷ xs) digits_in_none) in
    sym (ap (number_from_digits_after base start) push ∙ number_after_append base start (digits_in (take i bs)) (d ∷ []) ∙ rw h refl)

pub number_pass : (base start : ℕ) (bs : List ℕ) (i number : ℕ) → IsNumberOf base start bs i number → i < length bs → nat_lt (digit_value (get_or bs i 0)) 16 ≡ false → IsNumberOf base start bs (i + 1) number
number_pass base start bs i number h l e = h ∙ sym (ap (number_from_digits_after base start) (digits_push bs i l ∙ ap (λ xs. digits_in (take i bs) ++ xs) (other_byte (get_or bs i 0) [] e ∙ digits_in_none) ∙ append-nil (digits_in (take i bs))))

pub number_end : (base start : ℕ) (bs : List ℕ) (i number : ℕ) → IsNumberOf base start bs i number → length bs ≤ i → number ≡ number_from_digits_after base start (digits_in bs)
number_end base start bs i number h l = h ∙ ap (λ xs. number_from_digits_after base start (digits_in xs)) (take_all i bs l)

pub number_fits : (base start : ℕ) (bs : List ℕ) (i number : ℕ) → IsNumberOf base start bs i number → AllBelowBase base (digits_in bs) → 2 ≤ base → (start + 1) * base ^ length (digits_in bs) ≤ 2 ^ 64 → number < 2 ^ 64
number_fits base start bs i number h below two room =
    let prefix : AllBelowBase base (digits_in (take i bs)) = (below_parts base (digits_in (take i bs)) (digits_in (drop i bs)) (rw (whole_split bs i) at below)).0 in
    let small : number < (start + 1) * base ^ length (digits_in (take i bs)) = rw h (number_after_lt base start (digits_in (take i bs)) prefix) in
    let shorter : length (digits_in (take i bs)) ≤ length (digits_in bs) = omega (arith, ap length (whole_split bs i), length-append (digits_in (take i bs)) (digits_in (drop i bs))) in
    let powers : base ^ length (digits_in (take i bs)) ≤ base ^ length (digits_in bs) = pow-le-pow_right (omega arith) shorter in
    let product : base ^ length (digits_in (take i bs)) * (start + 1) ≤ base ^ length (digits_in bs) * (start + 1) = mul-le-mul_right (start + 1) powers in
    omega arith

-- a byte is a digit if the text has as many digits as bytes
pub plain_at : (bs : List ℕ) (i : ℕ) → length (digits_in bs) ≡ length bs → i < length bs → digit_value (get_or bs i 0) < 16
plain_at bs i plain l = ⊎_elim (λ s. s) (λ (big : 16 ≤ digit_value (get_or bs i 0)).
    let same : length (digits_in (take (i + 1) bs)) ≡ length (digits_in (take i bs)) = count_same bs i (length (digits_in (take i bs))) l refl big in
    absurd (omega (arith, ap length (whole_split bs (i + 1)), length-append (digits_in (take (i + 1) bs)) (digits_in (drop (i + 1) bs)), digits_le (take i bs), digits_le (drop (i + 1) bs), length-take i bs, length-drop (i + 1) bs))) (cases_lt (digit_value (get_or bs i 0)) 16)

pub digit_below : (base : ℕ) (bs : List ℕ) (i : ℕ) → AllBelowBase base (digits_in bs) → i < length bs → digit_value (get_or bs i 0) < 16 → digit_value (get_or bs i 0) < base
digit_below base bs i below l s =
    let here : digits_in bs ≡ digits_in (take i bs) ++ digit_value (get_or bs i 0) ∷ digits_in (drop (i + 1) bs) = cut bs i l ∙ ap (λ xs. digits_in (take i bs) ++ xs) (digit_before (get_or bs i 0) _ (drop (i + 1) bs) refl s) in
    (below_parts base (digits_in (take i bs)) (digit_value (get_or bs i 0) ∷ digits_in (drop (i + 1) bs)) (rw here at below)).1.0

-- the number with its next digit fits 64 bits
pub number_next_fits : (base start : ℕ) (bs : List ℕ) (i number d : ℕ) → IsNumberOf base start bs i number → i < length bs → d ≡ digit_value (get_or bs i 0) → d < 16 → AllBelowBase base (digits_in bs) → 2 ≤ base → (start + 1) * base ^ length (digits_in bs) ≤ 2 ^ 64 → number * base + d < 2 ^ 64
number_next_fits base start bs i number d h l e s below two room = number_fits base start bs (i + 1) (number * base + d) (number_step base start bs i number d h l e s) below two room

-- ---- eight digits at once
-- eight digits stand from index `at` on
pub record IsEightAt (base : ℕ) (bs : List ℕ) (at : ℕ) : Type 0 where
  pub count : length (digits_in (take 8 (drop at bs))) ≡ 8
  pub below : AllBelowBase base (digits_in (take 8 (drop at bs)))
  pub split : digits_in (take (at + 8) bs) ≡ digits_in (take at bs) ++ digits_in (take 8 (drop at bs))

pub eight_stand : (base : ℕ) (bs : List ℕ) (at : ℕ) → length (digits_in bs) ≡ length bs → AllBelowBase base (digits_in bs) → at + 8 ≤ length bs → IsEightAt base bs at
eight_stand base bs at plain below l =
    let split : digits_in (take (at + 8) bs) ≡ digits_in (take at bs) ++ digits_in (take 8 (drop at bs)) = ap digits_in (take-add at 8 bs) ∙ digits_in_append (take at bs) (take 8 (drop at bs)) in
    let prefix : AllBelowBase base (digits_in (take (at + 8) bs)) = (below_parts base (digits_in (take (at + 8) bs)) (digits_in (drop (at + 8) bs)) (rw (whole_split bs (at + 8)) at below)).0 in
    record {
      count = omega (arith, all_counted bs at plain (omega arith), all_counted bs (at + 8) plain l, ap length split, length-append (digits_in (take at bs)) (digits_in (take 8 (drop at bs))));
      below = (below_parts base (digits_in (take at bs)) (digits_in (take 8 (drop at bs))) (rw split at prefix)).1;
      split = split;
    }

pub spelled_eight : (base start : ℕ) (bs : List ℕ) (at number n : ℕ) → IsEightAt base bs at → IsNumberOf base start bs at number → n ≡ number_from_digits base (digits_in (take 8 (drop at bs))) → IsNumberOf base start bs (at + 8) (number * (base * base * (base * base) * (base * base * (base * base))) + n)
spelled_eight base start bs at number n t h e = sym (ap (number_from_digits_after base start) t.split ∙ number_after_append base start (digits_in (take at bs)) (digits_in (take 8 (drop at bs))) ∙ rw (e, h) (after_eight base _ (digits_in (take 8 (drop at bs))) t.count))

-- the digits before `at` spell `number`, and a multiple of eight bytes is left
pub record IsAligned (base : ℕ) (bs : List ℕ) (at number : ℕ) : Type 0 where
  pub within : at ≤ length bs
  pub left : (length bs - at) % 8 ≡ 0
  pub number_is : IsNumberOf base 0 bs at number

pub aligned_room : (base : ℕ) (bs : List ℕ) (at number : ℕ) → IsAligned base bs at number → at < length bs → at + 8 ≤ length bs
aligned_room base bs at number h l = omega (arith, h.left, h.within)

pub aligned_eight : (base : ℕ) (bs : List ℕ) (at number n : ℕ) → IsAligned base bs at number → at < length bs → IsEightAt base bs at → n ≡ number_from_digits base (digits_in (take 8 (drop at bs))) → IsAligned base bs (at + 8) (number * (base * base * (base * base) * (base * base * (base * base))) + n)
aligned_eight base bs at number n h l t e = record {
  within = aligned_room base bs at number h l;
  left = omega (arith, h.left, h.within);
  number_is = spelled_eight base 0 bs at number n t h.number_is e;
}

pub aligned_fits : (base : ℕ) (bs : List ℕ) (at number : ℕ) → IsAligned base bs at number → AllBelowBase base (digits_in bs) → 2 ≤ base → base ^ length (digits_in bs) ≤ 2 ^ 64 → number < 2 ^ 64
aligned_fits base bs at number h below two room = number_fits base 0 bs at number h.number_is below two (omega (arith, room))
