-- The point and digits without trailing zeros.
use Rattle.std.proofs.Common.{◌≡◌, ℕ, zero, suc, ◌+◌, ◌-◌, ◌*◌, ◌/◌, ◌%◌, ◌^◌, ◌<◌, ◌≤◌, ◌⊎◌, Bool, true, false, List, [], ◌∷◌, ◌++◌, map, take, length, sym, ap, ◌∙◌, inl, inr, ⊎_elim, arith, refl, pow_pos, pow-suc, append_assoc, length-append, length-take, min}
use Rattle.std.specs.Prelude.{if◌then◌else◌, nat_lt}
use mir.Val.{bool_byte}
use lib.Count.{count_leading_zeros}
use Rattle.std.specs.Fmt.{digit_glyph}
use Rattle.std.specs.Simd.Lanes.{mask_l}
use Rattle.std.proofs.lemmas.Nat.{leading_top}
use Rattle.std.proofs.lemmas.Simd.{mask_l-lt}
use Rattle.std.proofs.lemmas.List.{map-append, length-map}
use Rattle.std.proofs.lemmas.Bool.{cases_lt, ne_eqb, lt-ltb}
use Rattle.std.proofs.Math.Nat.{pow-zero, pow-le-pow_right}
use Rattle.fixed_write.specs.Texts.{last_digits, fraction_part, point}
use Rattle.fixed_write.specs.Inner.Fraction.{IsReduced, AppendsReduced}
use Rattle.fixed_write.specs.Inner.Lanes.{is_other_digit}
use Rattle.fixed_write.proofs.DigitLemmas.{last_digits_none, last_digits_suc, last_digits_length, last_digits_joined, fraction_none, fraction_suc}
use Rattle.fixed_write.proofs.SixteenLemmas.{moved_digits}
use Rattle.fixed_write.proofs.PaddedLemmas.{reduced_few}

-- ---- the highest bit that is set
pub record IsTop (mask count : ℕ) : Type 0 where
  pub below : mask < 2 ^ count
  pub set : (count ≡ 0) ⊎ (2 ^ (count - 1) ≤ mask)

pub top_is : (mask zeros count : ℕ) → mask < 2 ^ 64 → zeros ≡ count_leading_zeros 64 mask → count ≡ 64 - zeros → IsTop mask count
unfolding count_leading_zeros
top_is mask zeros count word z e = ⊎_elim some none (cases_lt 0 mask)
  where
    some : 0 < mask → IsTop mask count
    some p =
        let (j, sum, low, high) = leading_top 64 mask p word in
        let is : count ≡ suc j = omega arith in
        let back : suc j - 1 ≡ j = omega arith in
        rw is (record { below = high; set = inr (rw back low) })

    none : mask ≤ 0 → IsTop mask count
    none l =
        let nothing : mask ≡ 0 = omega arith in
        let all : zeros ≡ 64 = rw nothing at z in
        let is : count ≡ 0 = omega arith in
        rw (is, nothing) (record { below = omega arith; set = inl refl })

smaller : (a b : ℕ) → 2 ^ a < 2 ^ b → a < b
smaller a b l = ⊎_elim (λ o. o) (λ (o : b ≤ a). let more : 2 ^ b ≤ 2 ^ a = pow-le-pow_right (omega arith) o in absurd (omega arith)) (cases_lt a b)

-- ---- bits of characters
pub mask_joined : (xs ys : List Bool) → mask_l (xs ++ ys) ≡ mask_l xs + 2 ^ length xs * mask_l ys
mask_joined [] ys = omega arith
mask_joined (x ∷ xs) ys = omega (arith, mask_joined xs ys, ap (λ t. t * mask_l ys) (pow-suc 2 (length xs)))

abbrev pub mask_of : ℕ → ℕ → ℕ
mask_of k n = mask_l (map is_other_digit (last_digits 10 false k n))

mask_none : (n : ℕ) → mask_of 0 n ≡ 0
mask_none n = rw (last_digits_none 10 false n) refl

glyph_is : (d : ℕ) → d < 10 → digit_glyph false d ≡ 48 + d
glyph_is d l = grind arith

zero_glyph : (d : ℕ) → d ≡ 0 → is_other_digit (digit_glyph false d) ≡ false
zero_glyph d e = rw e refl

other_glyph : (d : ℕ) → d < 10 → (d ≡ 0 → ⊥) → is_other_digit (digit_glyph false d) ≡ true
other_glyph d l ne = rw (glyph_is d l, ne_eqb (48 + d) 48 (λ e. ne (omega arith))) refl

mask_more : (k n : ℕ) (b : Bool) → is_other_digit (digit_glyph false (n % 10)) ≡ b → mask_of (suc k) n ≡ mask_of k (n / 10) + 2 ^ k * bool_byte b
mask_more k n b e =
    let many : length (map is_other_digit (last_digits 10 false k (n / 10))) ≡ k = length-map (last_digits 10 false k (n / 10)) is_other_digit ∙ last_digits_length 10 false k (n / 10) in
    ap (λ (t : List ℕ). mask_l (map is_other_digit t)) (last_digits_suc 10 false k n) ∙ ap mask_l (map-append is_other_digit (last_digits 10 false k (n / 10)) (digit_glyph false (n % 10) ∷ [])) ∙ mask_joined (map is_other_digit (last_digits 10 false k (n / 10))) (map is_other_digit (digit_glyph false (n % 10) ∷ [])) ∙ rw (many, e) (one b)
  where
    one : (b : Bool) → mask_of k (n / 10) + 2 ^ k * mask_l (b ∷ []) ≡ mask_of k (n / 10) + 2 ^ k * bool_byte b
    one true = refl
    one false = refl

mask_below : (k n : ℕ) → mask_of k n < 2 ^ k
mask_below k n =
    let many : length (map is_other_digit (last_digits 10 false k n)) ≡ k = length-map (last_digits 10 false k n) is_other_digit ∙ last_digits_length 10 false k n in
    rw many at (mask_l-lt (map is_other_digit (last_digits 10 false k n)))

-- the first k of q digits of n, up to the last one that is not zero
pub record UpTo (q n k : ℕ) : Type 0 where
  pub number : ℕ
  pub zeros : ℕ
  pub all : k + zeros ≡ q
  pub value : n ≡ number * 10 ^ zeros
  pub fits : number < 10 ^ k
  pub reduced : IsReduced n q number k

pub up_to : (q n k : ℕ) → n < 10 ^ q → IsTop (mask_of q n) k → UpTo q n k
up_to zero n k l h =
    let top : IsTop 0 k = rw (mask_none n) at h in
    let nothing : n ≡ 0 = omega (arith, rw pow-zero at l) in
    let is : k ≡ 0 = ⊎_elim (λ e. e) (λ (e : 2 ^ (k - 1) ≤ 0). absurd (omega (arith, pow_pos (k - 1)))) top.set in
    rw (is, nothing) (record { number = 0; zeros = 0; all = refl; value = refl; fits = omega arith; reduced = record { same = refl; ends = inl refl } })
up_to (suc q) n k l h = ⊎_elim ends (λ z. goes_on z (up_to q (n / 10) k (less z) (top z))) (cases_lt 0 (n % 10))
  where
    ends : 0 < n % 10 → UpTo (suc q) n k
    ends some =
        let last : mask_of (suc q) n ≡ mask_of q (n / 10) + 2 ^ q * 1 = mask_more q n true (other_glyph (n % 10) (omega arith) (λ e. omega arith)) in
        let low : 2 ^ q < 2 ^ k = omega (arith, h.below, last) in
        let more : q < k = smaller q k low in
        let fewer : k ≤ suc q = ⊎_elim (λ (e : k ≡ 0). omega arith) (λ (e : 2 ^ (k - 1) ≤ mask_of (suc q) n). (let below : k - 1 < suc q = smaller (k - 1) (suc q) (omega (arith, mask_below (suc q) n)) in omega arith)) h.set in
        let is : k ≡ suc q = omega arith in
        rw is (record { number = n; zeros = 0; all = omega arith; value = rw pow-zero (omega arith); fits = l; reduced = record { same = refl; ends = inr (λ e. omega arith) } })

    top : n % 10 ≤ 0 → IsTop (mask_of q (n / 10)) k
    top z =
        let same : mask_of (suc q) n ≡ mask_of q (n / 10) + 2 ^ q * 0 = mask_more q n false (zero_glyph (n % 10) (omega arith)) in
        record { below = omega (arith, same, h.below); set = ⊎_elim (λ e. inl e) (λ (e : 2 ^ (k - 1) ≤ mask_of (suc q) n). inr (omega (arith, same))) h.set }

    less : n % 10 ≤ 0 → n / 10 < 10 ^ q
    less z = let more : n < 10 ^ q * 10 = rw pow-suc at l in omega arith

    longer : (x p y : ℕ) → x * p ≡ y → n ≡ x * 10 → n * p ≡ y * 10
    longer x p y e f = rw f (omega (arith, e))

    tens : (m s y : ℕ) → y ≡ m * s * 10 → y ≡ m * (s * 10)
    tens m s y e = omega (arith, e)

    goes_on : n % 10 ≤ 0 → UpTo q (n / 10) k → UpTo (suc q) n k
    goes_on z r = record {
      number = r.number;
      zeros = suc r.zeros;
      all = omega (arith, r.all);
      value = rw pow-suc (omega (arith, r.value));
      fits = r.fits;
      reduced = record { same = rw pow-suc (tens (r.number) (10 ^ q) (n * 10 ^ k) (longer (n / 10) (10 ^ k) (r.number * 10 ^ q) r.reduced.same (omega arith))); ends = r.reduced.ends };
    }

-- ---- the text of these digits
taken : (q n k : ℕ) (r : UpTo q n k) → take k (last_digits 10 false q n) ≡ last_digits 10 false k r.number
taken q n k r = ap (take k) (ap (λ i. last_digits 10 false i n) (sym r.all) ∙ ap (last_digits 10 false (k + r.zeros)) r.value) ∙ moved_digits k r.zeros r.number

pointed : (k m : ℕ) → (if nat_lt 0 k then point ∷ [] else []) ++ last_digits 10 false k m ≡ fraction_part 10 false k m
pointed zero m = rw (last_digits_none 10 false m, fraction_none 10 false m) refl
pointed (suc k) m = rw (lt-ltb 0 (suc k) (omega arith), fraction_suc 10 false k m) refl

pub appended : (q n k : ℕ) (before dot after : List ℕ) → UpTo q n k → dot ≡ before ++ (if nat_lt 0 k then point ∷ [] else []) → after ≡ dot ++ take k (last_digits 10 false q n) → AppendsReduced n q before after
appended q n k before dot after r e f = record {
  number = r.number;
  count = k;
  reduced = r.reduced;
  fits = r.fits;
  text_is = f ∙ rw (e, taken q n k r) (append_assoc before (if nat_lt 0 k then point ∷ [] else []) (last_digits 10 false k r.number)) ∙ ap (λ (t : List ℕ). before ++ t) (pointed k r.number);
}

-- the point is at most one byte
pub dot_length : (k : ℕ) (before dot : List ℕ) → dot ≡ before ++ (if nat_lt 0 k then point ∷ [] else []) → length dot ≤ length before + 1
dot_length zero before dot e = omega (arith, ap length e, length-append before [])
dot_length (suc k) before dot e =
    let one : dot ≡ before ++ point ∷ [] = rw (lt-ltb 0 (suc k) (omega arith)) at e in
    omega (arith, ap length one, length-append before (point ∷ []))

-- a prefix of k bytes has at most k bytes
pub beginning_length : (k : ℕ) (xs before after : List ℕ) → after ≡ before ++ take k xs → length after ≤ length before + k
beginning_length k xs before after e = omega (arith, ap length e, length-append before (take k xs), length-take k xs)

top_at : (mask m k : ℕ) → mask ≡ m → IsTop mask k → IsTop m k
top_at mask m k e h = rw e at h

pub sixteen_up_to : (n mask : ℕ) (text : List ℕ) → n < 10 ^ 16 → text ≡ last_digits 10 false 16 n → mask ≡ mask_l (map is_other_digit text) → mask < 2 ^ 16 → UpTo 16 n (64 - count_leading_zeros 64 mask)
sixteen_up_to n mask text l e f small =
    let is : mask ≡ mask_of 16 n = rw e at f in
    up_to 16 n (64 - count_leading_zeros 64 mask) l (top_at mask (mask_of 16 n) (64 - count_leading_zeros 64 mask) is (top_is mask (count_leading_zeros 64 mask) (64 - count_leading_zeros 64 mask) (omega arith) refl refl))

pub up_to_few : (q n k : ℕ) → UpTo q n k → k ≤ q
up_to_few q n k r = omega (arith, r.all)

-- thirty-two digits, the last twelve of them zeros
pub record InHalves (high low mask : ℕ) (first others : List ℕ) : Type 0 where
  pub up : UpTo 32 (high * 10 ^ 16 + low * 10 ^ 12) (64 - count_leading_zeros 64 mask)
  pub joined : first ++ others ≡ last_digits 10 false 32 (high * 10 ^ 16 + low * 10 ^ 12)
  pub long : length first ≡ 16

pub in_halves : (high low up low_mask high_mask : ℕ) (first others : List ℕ) → high < 10 ^ 16 → low < 10 ^ 4 → up ≡ low * 10 ^ 12 → first ≡ last_digits 10 false 16 high → others ≡ last_digits 10 false 16 up → low_mask ≡ mask_l (map is_other_digit first) → high_mask ≡ mask_l (map is_other_digit others) → low_mask < 2 ^ 16 → high_mask < 2 ^ 16 → InHalves high low (low_mask + high_mask * 2 ^ 16 % 2 ^ 64) first others
in_halves high low up low_mask high_mask first others lh ll u ef eo em en sm sn = record {
  up = up_to 32 (high * 10 ^ 16 + low * 10 ^ 12) (64 - count_leading_zeros 64 mask) (omega arith) (top_at mask (mask_of 32 (high * 10 ^ 16 + low * 10 ^ 12)) (64 - count_leading_zeros 64 mask) is (top_is mask (count_leading_zeros 64 mask) (64 - count_leading_zeros 64 mask) (omega arith) refl refl));
  joined = both;
  long = long;
}
  where
    mask : ℕ
    mask = low_mask + high_mask * 2 ^ 16 % 2 ^ 64

    eo' : others ≡ last_digits 10 false 16 (low * 10 ^ 12)
    eo' = rw u at eo

    both : first ++ others ≡ last_digits 10 false 32 (high * 10 ^ 16 + low * 10 ^ 12)
    both = rw (ef, eo') (sym (last_digits_joined 10 false 16 16 high (low * 10 ^ 12) (omega arith) (omega arith)))

    long : length first ≡ 16
    long = rw ef (last_digits_length 10 false 16 high)

    many : length (map is_other_digit first) ≡ 16
    many = length-map first is_other_digit ∙ long

    is : mask ≡ mask_of 32 (high * 10 ^ 16 + low * 10 ^ 12)
    is =
        let all : mask_l (map is_other_digit (first ++ others)) ≡ low_mask + 2 ^ 16 * high_mask = ap mask_l (map-append is_other_digit first others) ∙ mask_joined (map is_other_digit first) (map is_other_digit others) ∙ rw (many, em, en) refl in
        let sum : low_mask + high_mask * 2 ^ 16 % 2 ^ 64 ≡ low_mask + 2 ^ 16 * high_mask = omega arith in
        sum ∙ sym all ∙ ap (λ (t : List ℕ). mask_l (map is_other_digit t)) both

twenty : (high low m k : ℕ) → IsReduced (high * 10 ^ 16 + low * 10 ^ 12) 32 m k → IsReduced (high * 10 ^ 4 + low) 20 m k
twenty high low m k h = record { same = omega (arith, h.same); ends = h.ends }

pub twenty_few : (high low mask : ℕ) (first others : List ℕ) → InHalves high low mask first others → 64 - count_leading_zeros 64 mask ≤ 20
twenty_few high low mask first others h = reduced_few (high * 10 ^ 4 + low) 20 h.up.number (64 - count_leading_zeros 64 mask) (twenty high low h.up.number (64 - count_leading_zeros 64 mask) h.up.reduced)

taken_joined : (xs ys : List ℕ) (k : ℕ) → take (min k (length xs)) xs ++ take (k - min k (length xs)) ys ≡ take k (xs ++ ys)
taken_joined [] ys k =
    let none : min k 0 ≡ 0 = omega arith in
    let all : k - 0 ≡ k = omega arith in
    rw (none, all) refl
taken_joined (x ∷ xs) ys zero =
    let none : min 0 (suc (length xs)) ≡ 0 = omega arith in
    rw none refl
taken_joined (x ∷ xs) ys (suc k) =
    let one : min (suc k) (suc (length xs)) ≡ suc (min k (length xs)) = omega arith in
    let less : suc k - suc (min k (length xs)) ≡ k - min k (length xs) = omega arith in
    rw (one, less) (ap (λ (t : List ℕ). x ∷ t) (taken_joined xs ys k))

pub halves_appended : (high low mask many : ℕ) (first others before dot mid after : List ℕ) → InHalves high low mask first others → many ≡ min (64 - count_leading_zeros 64 mask) 16 → dot ≡ before ++ (if nat_lt 0 (64 - count_leading_zeros 64 mask) then point ∷ [] else []) → mid ≡ dot ++ take many first → after ≡ mid ++ take (64 - count_leading_zeros 64 mask - many) others → AppendsReduced (high * 10 ^ 4 + low) 20 before after
halves_appended high low mask many first others before dot mid after h em ed emid ea = record {
  number = all.number;
  count = all.count;
  reduced = twenty high low all.number all.count all.reduced;
  fits = all.fits;
  text_is = all.text_is;
}
  where
    k : ℕ
    k = 64 - count_leading_zeros 64 mask

    both : take (min k 16) first ++ take (k - min k 16) others ≡ take k (last_digits 10 false 32 (high * 10 ^ 16 + low * 10 ^ 12))
    both = rw h.long at (taken_joined first others k) ∙ ap (take k) h.joined

    text : after ≡ dot ++ take k (last_digits 10 false 32 (high * 10 ^ 16 + low * 10 ^ 12))
    text = ea ∙ rw (emid, em) (append_assoc dot (take (min k 16) first) (take (k - min k 16) others)) ∙ ap (λ (t : List ℕ). dot ++ t) both

    all : AppendsReduced (high * 10 ^ 16 + low * 10 ^ 12) 32 before after
    all = appended 32 (high * 10 ^ 16 + low * 10 ^ 12) k before dot after h.up ed text
