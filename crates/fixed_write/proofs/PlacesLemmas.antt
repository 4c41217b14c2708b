-- Rounded and exact texts: that they are the computed ones, how long they are, and that they are ASCII.
use Rattle.std.proofs.Common.{◌≡◌, ℕ, zero, suc, ◌+◌, ◌-◌, ◌*◌, ◌/◌, ◌%◌, ◌^◌, ◌<◌, ◌≤◌, ◌==◌, Bool, true, false, List, ◌++◌, length, ℤ, unsigned_abs, refl, sym, ap, ◌∙◌, ⊎_elim, arith, pow_pos, le_antisymm, length-append, append_assoc, div-add-mod', mod-lt, nat_lt, subst, pos, negsuc, mul-le-mul_right, mul-le-mul_left}
use Rattle.std.proofs.lemmas.Bool.{cases_Bool, cases_lt, eqb-true}
use Rattle.std.proofs.lemmas.Bool.Decides.{nat_tests}
use Rattle.std.proofs.lemmas.Nat.{mul-pow, div_below}
use Rattle.std.proofs.lemmas.Int.{ints}
use Rattle.std.proofs.Math.Nat.{eq_of_mul-eq-mul_right, one-le-pow, pow-le-pow_left}
use Rattle.std.specs.Str.{IsAscii}
use Rattle.std.proofs.lemmas.Str.{IsAscii-append}
use Rattle.std.specs.Fmt.{sign_text}
use Rattle.std.specs.Int.{is_negative}
use Rattle.fixed_bits.specs.Nearest.{IsEven}
use Rattle.fixed_bits.specs.Rounded.{IsNearestGreater, IsNearestLesser, IsNotAbove, IsNotBelow, IsRounded, magnitude_mode}
use Rattle.fixed_bits.specs.declared.mode.ReadMode.{ReadMode}
use Rattle.fixed_bits.specs.declared.mode.ReadMode.TheVariants.{AwayFromZero, Ceil, Floor, NearestAway, NearestDown, NearestEven, NearestUp, NearestZero, TowardsZero}
use Rattle.fixed_bits.proofs.Public.{magnitude_rounded, rounded_close, rounded_unique}
use Rattle.fixed_write.specs.Laws.{RoundedTextIsComputed, ExactTextIsComputed}
use Rattle.fixed_write.specs.Texts.{point_text, whole_digits, fraction_part}
use Rattle.fixed_write.proofs.DigitLemmas.{fraction_none, fraction_suc, last_digits_length, whole_digits_short}
use Rattle.fixed_write.specs.Places.{IsRoundedText, IsExactText, IsExact, nearest_greater, nearest_lesser, number_above, number_below, rounded_number, rounded_text, exact_text, exact_places, exact_places_from}
use Rattle.fixed_bits.specs.Ranges.{IsWide}
use Rattle.fixed_write.specs.Bases.{number_of, has_capitals}
use Rattle.fixed_write.specs.declared.in_place.Base.{Base}
use Rattle.fixed_write.specs.declared.in_place.Base.TheVariants.{Bin, Oct, Dec, LowerHex, UpperHex}
use Rattle.fixed_write.specs.Inner.Digits.{AppendsRounded, AppendsExact}
use Rattle.fixed_write.proofs.ScaleLemmas.{places_of, exact_places_of}
use Rattle.fixed_write.proofs.ComputedLemmas.{nearest_number_is}
use Rattle.fixed_write.proofs.AsciiLemmas.{sign_ascii, point_text_ascii}

-- ---- rounded texts
number_below_is : (num den : ℕ) → 0 < den → IsNotAbove num den (number_below num den)
unfolding number_below
number_below_is num den some =
    let split : num ≡ num / den * den + num % den = sym (div-add-mod' num den) in
    let low : num % den < den = mod-lt num some in
    record { at_most = omega arith; next = omega arith }

number_above_is : (num den : ℕ) → 0 < den → IsNotBelow num den (number_above num den)
unfolding number_above
number_above_is num den some =
    let split : num ≡ num / den * den + num % den = sym (div-add-mod' num den) in
    let low : num % den < den = mod-lt num some in
    ⊎_elim (λ t. rw t (let none = eqb-true (num % den) 0 t in record { at_least = omega arith; before = omega arith }))
    (λ f. rw f (let more : 0 < num % den = grind (arith, nat_tests) in record { at_least = omega arith; before = omega arith }))
    (cases_Bool (num % den == 0))

nearest_greater_is : (num den : ℕ) → 0 < den → IsNearestGreater num den (nearest_greater num den)
unfolding nearest_greater
nearest_greater_is num den some =
    let split : num ≡ num / den * den + num % den = sym (div-add-mod' num den) in
    let low : num % den < den = mod-lt num some in
    ⊎_elim (λ t. rw t (let less : 2 * (num % den) < den = grind (arith, nat_tests) in record { near = omega arith; tie = λ e. omega arith }))
    (λ f. rw f (let more : den ≤ 2 * (num % den) = grind (arith, nat_tests) in record { near = omega arith; tie = λ e. omega arith }))
    (cases_Bool (nat_lt (2 * (num % den)) den))

nearest_lesser_is : (num den : ℕ) → 0 < den → IsNearestLesser num den (nearest_lesser num den)
unfolding nearest_lesser
nearest_lesser_is num den some =
    let split : num ≡ num / den * den + num % den = sym (div-add-mod' num den) in
    let low : num % den < den = mod-lt num some in
    ⊎_elim (λ t. rw t (let more : den < 2 * (num % den) = grind (arith, nat_tests) in record { near = omega arith; tie = λ e. omega arith }))
    (λ f. rw f (let less : 2 * (num % den) ≤ den = grind (arith, nat_tests) in record { near = omega arith; tie = λ e. omega arith }))
    (cases_Bool (nat_lt den (2 * (num % den))))

pub rounded_number_is : (mode : ReadMode) (negative : Bool) (num den : ℕ) → 0 < den → IsRounded mode negative num den (rounded_number mode negative num den)
rounded_number_is NearestEven n num den some = nearest_number_is num den some
rounded_number_is NearestAway n num den some = nearest_greater_is num den some
rounded_number_is NearestZero n num den some = nearest_lesser_is num den some
rounded_number_is NearestUp false num den some = nearest_greater_is num den some
rounded_number_is NearestUp true num den some = nearest_lesser_is num den some
rounded_number_is NearestDown false num den some = nearest_lesser_is num den some
rounded_number_is NearestDown true num den some = nearest_greater_is num den some
rounded_number_is Floor false num den some = number_below_is num den some
rounded_number_is Floor true num den some = number_above_is num den some
rounded_number_is Ceil false num den some = number_above_is num den some
rounded_number_is Ceil true num den some = number_below_is num den some
rounded_number_is TowardsZero n num den some = number_below_is num den some
rounded_number_is AwayFromZero n num den some = number_above_is num den some

pub rounded_text_is : (mode : ReadMode) (base : ℕ) (upper : Bool) (k : ℕ) (c : ℤ) (g : ℕ) → IsRoundedText mode base upper k c g (rounded_text mode base upper k c g)
unfolding rounded_text
rounded_text_is mode base upper k c g = record {
  number = rounded_number mode (is_negative c) (unsigned_abs c * base ^ k) (2 ^ g);
  rounded = rounded_number_is mode (is_negative c) (unsigned_abs c * base ^ k) (2 ^ g) (pow_pos g);
  text_is = refl;
}

pub rounded_text_unique : (mode : ReadMode) (base : ℕ) (upper : Bool) (k : ℕ) (c : ℤ) (g : ℕ) (a b : List ℕ) → IsRoundedText mode base upper k c g a → IsRoundedText mode base upper k c g b → a ≡ b
rounded_text_unique mode base upper k c g a b h i =
    let same : h.number ≡ i.number = rounded_unique mode (is_negative c) (unsigned_abs c * base ^ k) (2 ^ g) h.number i.number (pow_pos g) h.rounded i.rounded in
    h.text_is ∙ (rw same refl ∙ sym i.text_is)

pub rounded_text_ascii : (mode : ReadMode) (base : ℕ) (upper : Bool) (k : ℕ) (c : ℤ) (g : ℕ) → 2 ≤ base → base ≤ 16 → IsAscii (rounded_text mode base upper k c g)
unfolding rounded_text
rounded_text_ascii mode base upper k c g two small = IsAscii-append (sign_text (is_negative c)) _ (sign_ascii (is_negative c)) (point_text_ascii base upper k _ two small)

-- ---- exact texts
exact_unique : (base c g k n j m : ℕ) → IsExact base c g k n → IsExact base c g j m → (k ≡ j) × (n ≡ m)
exact_unique base c g k n j m a b =
    let e : k ≡ j = le_antisymm (a.least m j b.same) (b.least n k a.same) in
    let b' : c * base ^ k ≡ m * 2 ^ g = rw e b.same in
    (e, eq_of_mul-eq-mul_right (2 ^ g) (pow_pos g) n m (sym a.same ∙ b'))

pub exact_text_unique : (base : ℕ) (upper : Bool) (c : ℤ) (g : ℕ) (a b : List ℕ) → IsExactText base upper c g a → IsExactText base upper c g b → a ≡ b
exact_text_unique base upper c g a b h i =
    let (k, n) = exact_unique base (unsigned_abs c) g h.places h.number i.places i.number h.exact i.exact in
    h.text_is ∙ (rw (k, n) refl ∙ sym i.text_is)

exact_here : (more k base c g : ℕ) → (c * base ^ k % 2 ^ g == 0) ≡ true → exact_places_from (suc more) k base c g ≡ k
unfolding exact_places_from
exact_here more k base c g e = rw e refl

exact_later : (more k base c g : ℕ) → (c * base ^ k % 2 ^ g == 0) ≡ false → exact_places_from (suc more) k base c g ≡ exact_places_from more (suc k) base c g
unfolding exact_places_from
exact_later more k base c g e = rw e refl

exact_none : (k base c g : ℕ) → exact_places_from zero k base c g ≡ k
unfolding exact_places_from
exact_none k base c g = refl

-- k places are exact, and fewer are not
record IsLeastExact (base c g k : ℕ) : Type 0 where
  exact : c * base ^ k % 2 ^ g ≡ 0
  none : (j : ℕ) → j < k → c * base ^ j % 2 ^ g ≡ 0 → ⊥

all_exact : (base c g : ℕ) → IsEven base → c * base ^ g % 2 ^ g ≡ 0
all_exact base c g even =
    let half : base ≡ 2 * (base / 2) = omega arith in
    let power : base ^ g ≡ 2 ^ g * (base / 2) ^ g = ap (λ x. x ^ g) half ∙ mul-pow 2 (base / 2) g in
    let whole : c * base ^ g ≡ c * (base / 2) ^ g * 2 ^ g = ap (λ x. c * x) power ∙ regroup c (2 ^ g) ((base / 2) ^ g) in
    rw whole (no_rest (c * (base / 2) ^ g) (2 ^ g) (pow_pos g))
  where
    regroup : (c x y : ℕ) → c * (x * y) ≡ c * y * x
    regroup c x y = omega arith

    no_rest : (q d : ℕ) → 0 < d → q * d % d ≡ 0
    no_rest q d p = grind arith

least_exact : (more k base c g : ℕ) → IsEven base → more + k ≡ g → ((j : ℕ) → j < k → c * base ^ j % 2 ^ g ≡ 0 → ⊥) → IsLeastExact base c g (exact_places_from more k base c g)
least_exact zero k base c g even e none =
    let same : k ≡ g = omega arith in
    rw (exact_none k base c g, same) (record { exact = all_exact base c g even; none = rw same at none })
least_exact (suc more) k base c g even e none = ⊎_elim
    (λ yes. rw (exact_here more k base c g yes) (record { exact = eqb-true (c * base ^ k % 2 ^ g) 0 yes; none = none }))
    (λ no'. rw (exact_later more k base c g no') (least_exact more (suc k) base c g even (omega arith) (λ j l z. ⊎_elim
    (λ a. none j a z)
    (λ a. (let same : j ≡ k = omega arith in not_zero (c * base ^ k % 2 ^ g) no' (rw same at z)))
    (cases_lt j k))))
    (cases_Bool (c * base ^ k % 2 ^ g == 0))
  where
    not_zero : (n : ℕ) → (n == 0) ≡ false → n ≡ 0 → ⊥
    not_zero n e z = grind (arith, nat_tests)

exact_is : (base c g k : ℕ) → IsLeastExact base c g k → IsExact base c g k (c * base ^ k / 2 ^ g)
exact_is base c g k h = record {
  same = by_rest (c * base ^ k) (2 ^ g) h.exact;
  least = λ m j e. ⊎_elim (λ l. absurd (h.none j l (rw e (no_rest m (2 ^ g) (pow_pos g))))) (λ l. l) (cases_lt j k);
}
  where
    by_rest : (n d : ℕ) → n % d ≡ 0 → n ≡ n / d * d
    by_rest n d e = omega (arith, div-add-mod' n d)

    no_rest : (q d : ℕ) → 0 < d → q * d % d ≡ 0
    no_rest q d p = grind arith

pub exact_text_is : (base : ℕ) (upper : Bool) (c : ℤ) (g : ℕ) → IsEven base → IsExactText base upper c g (exact_text base upper c g)
unfolding exact_text exact_places
exact_text_is base upper c g even = record {
  number = unsigned_abs c * base ^ exact_places_from g 0 base (unsigned_abs c) g / 2 ^ g;
  places = exact_places_from g 0 base (unsigned_abs c) g;
  exact = exact_is base (unsigned_abs c) g (exact_places_from g 0 base (unsigned_abs c) g) (least_exact g 0 base (unsigned_abs c) g even (omega arith) (λ j l. absurd (omega arith)));
  text_is = refl;
}

pub rounded_text_computed : RoundedTextIsComputed
rounded_text_computed mode base upper k c g text = (
  (λ h. rounded_text_unique mode base upper k c g text (rounded_text mode base upper k c g) h (rounded_text_is mode base upper k c g)),
  (λ e. rw e (rounded_text_is mode base upper k c g)),
)

pub exact_text_computed : ExactTextIsComputed
exact_text_computed base upper c g even text = (
  (λ h. exact_text_unique base upper c g text (exact_text base upper c g) h (exact_text_is base upper c g even)),
  (λ e. rw e (exact_text_is base upper c g even)),
)

pub exact_text_ascii : (base : ℕ) (upper : Bool) (c : ℤ) (g : ℕ) → 2 ≤ base → base ≤ 16 → IsAscii (exact_text base upper c g)
unfolding exact_text
exact_text_ascii base upper c g two small = IsAscii-append (sign_text (is_negative c)) _ (sign_ascii (is_negative c)) (point_text_ascii base upper _ _ two small)

-- ---- texts printed in parts
regroup : (old sign start text : List ℕ) → start ≡ old ++ sign → start ++ text ≡ old ++ (sign ++ text)
regroup old sign start text e = ap (λ (t : List ℕ). t ++ text) e ∙ append_assoc old sign text

pub rounded_of_parts : (mode own : ReadMode) (base : ℕ) (upper : Bool) (v : ℤ) (m g k w r : ℕ) (old start after : List ℕ) → own ≡ magnitude_mode mode (is_negative v) → g ≤ 64 → m ≡ unsigned_abs v → w ≡ m / 2 ^ g → r ≡ m % 2 ^ g * 2 ^ (64 - g) → start ≡ old ++ sign_text (is_negative v) → AppendsRounded own base upper (w * 2 ^ 64 + r) 64 k start after → after ≡ old ++ rounded_text mode base upper k v g
rounded_of_parts mode own base upper v m g k w r old start after own_is l me we re s h =
    let h' : AppendsRounded (magnitude_mode mode (is_negative v)) base upper (w * 2 ^ 64 + r) 64 k start after = subst (λ (x : ReadMode). AppendsRounded x base upper (w * 2 ^ 64 + r) 64 k start after) own_is h in
    let p : AppendsRounded (magnitude_mode mode (is_negative v)) base upper m g k start after = places_of (magnitude_mode mode (is_negative v)) base upper m g k w r start after l we re h' in
    let printed : IsRoundedText mode base upper k v g (sign_text (is_negative v) ++ point_text base upper k p.number) = record {
      number = p.number;
      rounded = rw (← me) (magnitude_rounded mode (is_negative v) (m * base ^ k) (2 ^ g) p.number p.rounded);
      text_is = refl;
    } in
    p.text_is ∙ (regroup old (sign_text (is_negative v)) start (point_text base upper k p.number) s ∙ ap (λ (t : List ℕ). old ++ t) (rounded_text_unique mode base upper k v g _ _ printed (rounded_text_is mode base upper k v g)))

pub exact_of_parts : (base : ℕ) (upper : Bool) (v : ℤ) (m g w r : ℕ) (old start after : List ℕ) → IsEven base → g ≤ 64 → m ≡ unsigned_abs v → w ≡ m / 2 ^ g → r ≡ m % 2 ^ g * 2 ^ (64 - g) → start ≡ old ++ sign_text (is_negative v) → AppendsExact base upper (w * 2 ^ 64 + r) 64 start after → after ≡ old ++ exact_text base upper v g
exact_of_parts base upper v m g w r old start after even l me we re s h =
    let p : AppendsExact base upper m g start after = exact_places_of base upper m g w r start after l we re h in
    let printed : IsExactText base upper v g (sign_text (is_negative v) ++ point_text base upper p.places p.number) = record {
      number = p.number;
      places = p.places;
      exact = rw (← me) p.exact;
      text_is = refl;
    } in
    p.text_is ∙ (regroup old (sign_text (is_negative v)) start (point_text base upper p.places p.number) s ∙ ap (λ (t : List ℕ). old ++ t) (exact_text_unique base upper v g _ _ printed (exact_text_is base upper v g even)))

-- ---- the bases
pub base_low : (base : Base) → 2 ≤ number_of base
base_low Bin = omega arith
base_low Oct = omega arith
base_low Dec = omega arith
base_low LowerHex = omega arith
base_low UpperHex = omega arith

pub base_high : (base : Base) → number_of base ≤ 16
base_high Bin = omega arith
base_high Oct = omega arith
base_high Dec = omega arith
base_high LowerHex = omega arith
base_high UpperHex = omega arith

pub base_even : (base : Base) → IsEven (number_of base)
base_even Bin = refl
base_even Oct = refl
base_even Dec = refl
base_even LowerHex = refl
base_even UpperHex = refl

-- ---- lengths
pub wide_magnitude : (v : ℤ) → IsWide v → unsigned_abs v < 2 ^ 64
wide_magnitude (pos n) h = omega (arith, ints, h.high)
wide_magnitude (negsuc n) h = omega (arith, ints, h.low)

fraction_short : (b : ℕ) (u : Bool) (k n : ℕ) → length (fraction_part b u k n) ≤ k + 1
fraction_short b u zero n = omega (arith, ap length (fraction_none b u n))
fraction_short b u (suc k) n = omega (arith, ap length (fraction_suc b u k n), last_digits_length b u (suc k) n)

sign_short : (negative : Bool) → length (sign_text negative) ≤ 1
sign_short true = omega arith
sign_short false = omega arith

text_short : (negative : Bool) (b : ℕ) (u : Bool) (k n most : ℕ) → 2 ≤ b → 0 < most → n / b ^ k < b ^ most → length (sign_text negative ++ point_text b u k n) ≤ most + k + 2
unfolding point_text
text_short negative b u k n most two some l =
    omega (arith, length-append (sign_text negative) (whole_digits b u (n / b ^ k) ++ fraction_part b u k n), length-append (whole_digits b u (n / b ^ k)) (fraction_part b u k n), sign_short negative, fraction_short b u k n, whole_digits_short b u most (n / b ^ k) two some l)

-- the rounded number is at most one more than the numerator
rounded_small : (mode : ReadMode) (negative : Bool) (num den q : ℕ) → 0 < den → IsRounded mode negative num den q → q ≤ num + 1
rounded_small mode negative num den q some h =
    let close = (rounded_close mode negative num den q some h).0 in
    ⊎_elim (λ (a : num + 1 < q).
    let far : (num + 2) * den ≤ q * den = mul-le-mul_right den (omega arith) in
    let more : num * 1 ≤ num * den = mul-le-mul_left num some in
    absurd (omega arith)) (λ a. a) (cases_lt (num + 1) q)

pub rounded_length : (mode : ReadMode) (v : ℤ) (g k : ℕ) → IsWide v → g ≤ 64 → k ≤ 64 → length (rounded_text mode 10 false k v g) ≤ 86
unfolding rounded_text
rounded_length mode v g k h l m =
    let n : ℕ = rounded_number mode (is_negative v) (unsigned_abs v * 10 ^ k) (2 ^ g) in
    let small : n ≤ unsigned_abs v * 10 ^ k + 1 = rounded_small mode (is_negative v) (unsigned_abs v * 10 ^ k) (2 ^ g) n (pow_pos g) (rounded_number_is mode (is_negative v) (unsigned_abs v * 10 ^ k) (2 ^ g) (pow_pos g)) in
    let some : 0 < 10 ^ k = one-le-pow k 10 (omega arith) in
    let whole : n / 10 ^ k < unsigned_abs v + 2 = div_below n (10 ^ k) (unsigned_abs v + 2) some (below (unsigned_abs v) (10 ^ k) n some small) in
    omega (arith, text_short (is_negative v) 10 false k n 20 (omega arith) (omega arith) (omega (arith, whole, wide_magnitude v h)))
  where
    below : (c s n : ℕ) → 0 < s → n ≤ c * s + 1 → n < (c + 2) * s
    below c s n p l = omega arith

-- exact places are at most g
exact_within : (base c g : ℕ) → IsEven base → exact_places base c g ≤ g
unfolding exact_places
exact_within base c g even =
    let least = exact_is base c g (exact_places_from g 0 base c g) (least_exact g 0 base c g even (omega arith) (λ j l. absurd (omega arith))) in
    least.least (c * base ^ g / 2 ^ g) g (by_rest (c * base ^ g) (2 ^ g) (all_exact base c g even))
  where
    by_rest : (n d : ℕ) → n % d ≡ 0 → n ≡ n / d * d
    by_rest n d e = omega (arith, div-add-mod' n d)

exact_short : (negative : Bool) (b : ℕ) (u : Bool) (c k g : ℕ) → 2 ≤ b → c < 2 ^ 64 → k ≤ 64 → length (sign_text negative ++ point_text b u k (c * b ^ k / 2 ^ g)) ≤ 130
exact_short negative b u c k g two small few =
    let some : 0 < b ^ k = one-le-pow k b (omega arith) in
    let unit : 0 < 2 ^ g = pow_pos g in
    let less : c * b ^ k / 2 ^ g ≤ c * b ^ k = less_by (c * b ^ k) (2 ^ g) unit in
    let whole : c * b ^ k / 2 ^ g / b ^ k < c + 1 = div_below (c * b ^ k / 2 ^ g) (b ^ k) (c + 1) some (below c (b ^ k) _ some less) in
    let most : 2 ^ 64 ≤ b ^ 64 = pow-le-pow_left two 64 in
    omega (arith, text_short negative b u k (c * b ^ k / 2 ^ g) 64 two (omega arith) (omega (arith, whole)))
  where
    less_by : (n d : ℕ) → 0 < d → n / d ≤ n
    less_by n d p = let q : n / d * 1 ≤ n / d * d = mul-le-mul_left (n / d) p in omega (arith, div-add-mod' n d)

    below : (c s n : ℕ) → 0 < s → n ≤ c * s → n < (c + 1) * s
    below c s n p l = omega arith

pub exact_length_of : (b : ℕ) (u : Bool) (v : ℤ) (g : ℕ) → 2 ≤ b → IsEven b → unsigned_abs v < 2 ^ 64 → g ≤ 64 → length (exact_text b u v g) ≤ 130
unfolding exact_text
exact_length_of b u v g two even small l = exact_short (is_negative v) b u (unsigned_abs v) (exact_places b (unsigned_abs v) g) g two small (omega (arith, exact_within b (unsigned_abs v) g even))

pub exact_length : (base : Base) (v : ℤ) (g : ℕ) → IsWide v → g ≤ 64 → length (exact_text (number_of base) (has_capitals base) v g) ≤ 130
exact_length base v g h l = exact_length_of (number_of base) (has_capitals base) v g (base_low base) (base_even base) (wide_magnitude v h) l
