-- The candidate of a block of decimal digits, and the digits after it.
use Rattle.std.proofs.Common.{⊎_elim, Bool, false, IsTrue, ◌⊎◌, ◌↔◌, ◌≡◌, ℕ, ◌+◌, ◌-◌, ◌*◌, ◌/◌, ◌^◌, ◌<◌, ◌≤◌, List, [], length, arith, refl, ap, ◌∙◌, mul-le-mul_right, mul-le-mul_left, mul-pos, pow_pos, div-add-mod', mod-lt}
use Rattle.std.proofs.Math.Nat.{eq_of_mul-eq-mul_left, mul-div_cancel, one-le-pow, pow-le-pow_right}
use Rattle.std.proofs.lemmas.Nat.{pow-add, mul-pow}
use Rattle.std.proofs.lemmas.Int.Digits.{number_lt}
use Rattle.std.specs.Int.Digits.{number_from_digits, AllBelowBase}
use Rattle.std.proofs.Common.{Ordering, Less, Equal, Greater}
use Rattle.std.specs.Ordering.{MatchOrdering}
use Rattle.fixed_numeral.specs.Place.{NoTrailingZero}
use Rattle.fixed_read.specs.Inner.Blocks.{IsBlockOf, IsCandidate, scaled_rest, scaled_unit}
use Rattle.fixed_bits.specs.LostFractions.{IsLostFraction}
use Rattle.fixed_read.specs.Inner.Rounding.{IsFractionUlps, IsSettled}
use Rattle.fixed_bits.specs.declared.rounding.LostFraction.{LostFraction}
use Rattle.fixed_bits.specs.declared.rounding.LostFraction.TheVariants.{LessThanHalf, MoreThanHalf}
use Rattle.fixed_read.proofs.DigitLemmas.{cancel_lt, some_number, some_digits, none_number}

ten_pos : (n : ℕ) → 0 < 10 ^ n
ten_pos n = one-le-pow n 10 (omega arith)

-- ---- the candidate
pub two_up : (n m : ℕ) → n ≤ m → 2 ^ n ≤ 2 ^ m
two_up n m l = pow-le-pow_right {n = 2} (omega arith) l

ten_up : (n m : ℕ) → n ≤ m → 10 ^ n ≤ 10 ^ m
ten_up n m l = pow-le-pow_right {n = 10} (omega arith) l

-- 10^n = 5^n · 2^n
ten_is : (n : ℕ) → 10 ^ n ≡ 5 ^ n * 2 ^ n
ten_is n = mul-pow 5 2 n

five_pos : (n : ℕ) → 0 < 5 ^ n
five_pos n = one-le-pow n 5 (omega arith)

pub block_room : (block count bits most : ℕ) → block < 10 ^ count → bits ≤ most → block * 2 ^ bits < 10 ^ count * 2 ^ most
block_room block count bits most s l =
    let b = two_up bits most l in
    plain (10 ^ count) (2 ^ bits) (2 ^ most) (pow_pos bits) s b
  where
    plain : (ten a m : ℕ) → 0 < a → block < ten → a ≤ m → block * a < ten * m
    plain ten a m p h k = omega (arith, mul-le-mul_right a h, mul-le-mul_left ten k)

-- 5^count · 2^frac = 2^(frac - count) · 10^count
scale_up : (count frac fives : ℕ) → fives ≡ 5 ^ count → count ≤ frac → fives * 2 ^ frac ≡ 2 ^ (frac - count) * 10 ^ count
scale_up count frac fives e l =
    rw ((ap (λ i. 2 ^ i) (let z : frac ≡ (frac - count) + count = omega arith in z) ∙ pow-add 2 (frac - count) count), e, ten_is count) (omega arith)

pub candidate_by : (block count frac fives q rest : ℕ) → fives ≡ 5 ^ count → fives < 2 ^ 63 → count ≤ frac → q * fives + rest ≡ block * 2 ^ (frac - count) → rest < fives → IsCandidate block count frac q rest fives (frac - count)
candidate_by block count frac fives q rest e most l split small = record { split = split; small = small; scale = scale_up count frac fives e l; most = most }

pub candidate_steps : (block count frac q rest unit bits : ℕ) → block < 10 ^ count → IsCandidate block count frac q rest unit bits → q < 2 ^ frac
candidate_steps block count frac q rest unit bits s c = cancel_lt unit q (2 ^ frac) (plain (2 ^ frac) (2 ^ bits) (10 ^ count) (pow_pos bits) c.split c.scale s)
  where
    plain : (p a ten : ℕ) → 0 < a → q * unit + rest ≡ block * a → unit * p ≡ a * ten → block < ten → unit * q < unit * p
    plain p a ten pos e f l = omega (arith, e, f, mul-le-mul_left a l)

-- ---- the three cases of a comparison
pub order_map : (r : Ordering) (P Q R P2 Q2 R2 : Type 0) → (P → P2) → (Q → Q2) → (R → R2) → MatchOrdering r P Q R → MatchOrdering r P2 Q2 R2
order_map Less P Q R P2 Q2 R2 f g h x = f x
order_map Equal P Q R P2 Q2 R2 f g h x = g x
order_map Greater P Q R P2 Q2 R2 f g h x = h x

-- ---- the digits of start / 2^bits
pub five_is : (n : ℕ) → 10 ^ n / 2 ^ n ≡ 5 ^ n
five_is n = rw (ten_is n) (mul-div_cancel (5 ^ n) (pow_pos n))

pub mark_is : (start bits prefix a b : ℕ) → prefix ≤ bits → a ≡ 5 ^ prefix → b ≡ 5 ^ (bits - prefix) → start * a * b ≡ start * 5 ^ bits
mark_is start bits prefix a b l ea eb =
    let power : 5 ^ bits ≡ 5 ^ prefix * 5 ^ (bits - prefix) = ap (λ i. 5 ^ i) (let z : bits ≡ prefix + (bits - prefix) = omega arith in z) ∙ pow-add 5 prefix (bits - prefix) in
    rw (ea, eb, power) (omega arith)

pub mark_room : (start bits : ℕ) → bits ≤ 38 → start < 2 ^ bits → start * 5 ^ bits < 2 ^ 128
mark_room start bits l s =
    let ten : 10 ^ bits ≡ 5 ^ bits * 2 ^ bits = ten_is bits in
    let most = ten_up bits 38 l in
    omega (arith, mul-le-mul_right (5 ^ bits) s, ten, most, five_pos bits)

-- ---- a block against the digits of start / 2^bits: n / l is 0.DIGITS, w / t follows the block, two · five = 10^bits
module _ (block t w n l two five start : ℕ) (led : (block * t + w) * l ≡ n * (five * two * t)) (some_five : 0 < five) (some_t : 0 < t) (some_l : 0 < l) (small : w < t) where
  block_less : block < start * five → n * two < start * l
  block_less h = cancel_lt (five * t) (n * two) (start * l) (omega (arith, led, mul-le-mul_right l (inside (start * five) h)))
    where
      inside : (mark : ℕ) → block < mark → block * t + w < mark * t
      inside mark k = omega (arith, mul-le-mul_right t k)

  block_same : block ≡ start * five → w ≡ 0 → n * two ≡ start * l
  block_same h z = eq_of_mul-eq-mul_left (five * t) (mul-pos some_five some_t) _ _ (let e : (start * five * t + 0) * l ≡ n * (five * two * t) = rw (h, z) at led in omega (arith, e))

  block_more : start * five * t < block * t + w → start * l < n * two
  block_more h = cancel_lt (five * t) (start * l) (n * two) (omega (arith, led, plain (start * five * t) (block * t + w) h))
    where
      plain : (x y : ℕ) → x < y → x * l < y * l
      plain x y k = omega (arith, mul-le-mul_right l k, some_l)

pub block_order : (r : Ordering) (ds rest : List ℕ) (block start mark bits : ℕ) (longer : Bool) → AllBelowBase 10 ds → IsBlockOf 10 ds rest block bits → mark ≡ start * 5 ^ bits → (IsTrue longer ↔ (0 < length rest)) → MatchOrdering r (block < mark) ((block ≡ mark) × (longer ≡ false)) ((mark < block) ⊎ ((block ≡ mark) × IsTrue longer)) → MatchOrdering r (number_from_digits 10 ds * 2 ^ bits < start * 10 ^ length ds) (number_from_digits 10 ds * 2 ^ bits ≡ start * 10 ^ length ds) (start * 10 ^ length ds < number_from_digits 10 ds * 2 ^ bits)
block_order r ds rest block start mark bits longer below led em el m =
    let power : 10 ^ (bits + length rest) ≡ 5 ^ bits * 2 ^ bits * 10 ^ length rest = pow-add 10 bits (length rest) ∙ ap (λ x. x * 10 ^ length rest) (ten_is bits) in
    let led_at = led.same ∙ ap (λ x. number_from_digits 10 ds * x) power in
    let t_some = ten_pos (length rest) in
    let five_some = five_pos bits in
    let l_some = ten_pos (length ds) in
    let w_small = number_lt 10 rest led.digits in
    order_map r _ _ _ _ _ _
    (λ h. block_less block (10 ^ length rest) (number_from_digits 10 rest) (number_from_digits 10 ds) (10 ^ length ds) (2 ^ bits) (5 ^ bits) start led_at five_some t_some l_some w_small (rw em at h))
    (λ h. block_same block (10 ^ length rest) (number_from_digits 10 rest) (number_from_digits 10 ds) (10 ^ length ds) (2 ^ bits) (5 ^ bits) start led_at five_some t_some l_some w_small (h.0 ∙ em) (none_number longer rest el h.1))
    (λ h. block_more block (10 ^ length rest) (number_from_digits 10 rest) (number_from_digits 10 ds) (10 ^ length ds) (2 ^ bits) (5 ^ bits) start led_at five_some t_some l_some w_small (past h))
    m
  where
    past : (mark < block) ⊎ ((block ≡ mark) × IsTrue longer) → start * 5 ^ bits * 10 ^ length rest < block * 10 ^ length rest + number_from_digits 10 rest
    past h = ⊎_elim
        (λ (k : mark < block). (omega (arith, mul-le-mul_right (10 ^ length rest) (rw em at k), ten_pos (length rest))))
        (λ (k : (block ≡ mark) × IsTrue longer). let same : block ≡ start * 5 ^ bits = k.0 ∙ em in let more = (some_digits 10 rest (omega arith) led.trailing).0 (el.0 k.1) in omega (arith, ap (λ x. x * 10 ^ length rest) same, more))
        h

-- k = 2^halves, a = 2^bits, t = 10^length, and the digits spell w
plain_stands : (r : Ordering) (k a t w rest unit share start : ℕ) → share ≡ rest * k → share + start ≡ unit → MatchOrdering r (w * (a * k) < start * t) (w * (a * k) ≡ start * t) (start * t < w * (a * k)) → MatchOrdering r (k * (rest * t + w * a) < unit * t) (k * (rest * t + w * a) ≡ unit * t) (unit * t < k * (rest * t + w * a))
plain_stands r k a t w rest unit share start e f m =
    let e' = ap (λ x. x * t) e in
    let f' = ap (λ x. x * t) f in
    order_map r _ _ _ _ _ _ (λ h. omega (arith, e', f', h)) (λ h. omega (arith, e', f', h)) (λ h. omega (arith, e', f', h)) m

pub stands_after : (r : Ordering) (ds : List ℕ) (halves bits rest unit share : ℕ) → share ≡ rest * 2 ^ halves → share < unit → MatchOrdering r (number_from_digits 10 ds * 2 ^ (bits + halves) < (unit - share) * 10 ^ length ds) (number_from_digits 10 ds * 2 ^ (bits + halves) ≡ (unit - share) * 10 ^ length ds) ((unit - share) * 10 ^ length ds < number_from_digits 10 ds * 2 ^ (bits + halves)) → MatchOrdering r (2 ^ halves * scaled_rest rest bits ds < scaled_unit unit ds) (2 ^ halves * scaled_rest rest bits ds ≡ scaled_unit unit ds) (scaled_unit unit ds < 2 ^ halves * scaled_rest rest bits ds)
stands_after r ds halves bits rest unit share e l m = plain_stands r (2 ^ halves) (2 ^ bits) (10 ^ length ds) (number_from_digits 10 ds) rest unit share (unit - share) e (omega arith) (rw (pow-add 2 bits halves) at m)

plain_more : (k a t w rest unit share : ℕ) → 0 < k → 0 < a → 0 < t → share ≡ rest * k → unit < share → unit * t < k * (rest * t + w * a)
plain_more k a t w rest unit share pk pa pt e l = omega (arith, ap (λ x. x * t) e, mul-le-mul_right t l)

plain_some : (k a t w rest unit share : ℕ) → 0 < k → 0 < a → 0 < w → share ≡ rest * k → unit ≡ share → unit * t < k * (rest * t + w * a)
plain_some k a t w rest unit share pk pa pw e l = omega (arith, ap (λ x. x * t) e, ap (λ x. x * t) l, mul-pos pk (mul-pos pw pa))

pub stands_above : (ds : List ℕ) (halves bits rest unit share : ℕ) → share ≡ rest * 2 ^ halves → unit < share → scaled_unit unit ds < 2 ^ halves * scaled_rest rest bits ds
stands_above ds halves bits rest unit share e l = plain_more (2 ^ halves) (2 ^ bits) (10 ^ length ds) (number_from_digits 10 ds) rest unit share (pow_pos halves) (pow_pos bits) (ten_pos (length ds)) e l

pub stands_beyond : (ds : List ℕ) (halves bits rest unit share : ℕ) → NoTrailingZero ds → share ≡ rest * 2 ^ halves → unit ≡ share → (ds ≡ [] → ⊥) → scaled_unit unit ds < 2 ^ halves * scaled_rest rest bits ds
stands_beyond ds halves bits rest unit share n e l some = plain_some (2 ^ halves) (2 ^ bits) (10 ^ length ds) (number_from_digits 10 ds) rest unit share (pow_pos halves) (pow_pos bits) (some_number 10 ds (omega arith) n some) e l

-- ---- the digits after the block do not reach a start of at least 2^bits
pub far_below : (ds : List ℕ) (start bits : ℕ) → AllBelowBase 10 ds → 2 ^ bits ≤ start → number_from_digits 10 ds * 2 ^ bits < start * 10 ^ length ds
far_below ds start bits b l = plain (number_from_digits 10 ds) (10 ^ length ds) (2 ^ bits) (pow_pos bits) (number_lt 10 ds b) l
  where
    plain : (w t a : ℕ) → 0 < a → w < t → a ≤ start → w * a < start * t
    plain w t a p h k = omega (arith, mul-le-mul_right a h, mul-le-mul_right t k)

-- ---- the scaled rest is less than one and a half units
pub part_near : (ds : List ℕ) (rest unit bits : ℕ) → AllBelowBase 10 ds → rest < unit → 2 * 2 ^ bits ≤ unit → 2 * scaled_rest rest bits ds < 3 * scaled_unit unit ds
part_near ds rest unit bits b l h = plain (number_from_digits 10 ds) (10 ^ length ds) (2 ^ bits) (ten_pos (length ds)) (pow_pos bits) (number_lt 10 ds b) l h
  where
    plain : (w t a : ℕ) → 0 < t → 0 < a → w < t → rest < unit → 2 * a ≤ unit → 2 * (rest * t + w * a) < 3 * (unit * t)
    plain w t a pt pa k m n = omega (arith, mul-le-mul_right t m, mul-le-mul_right a k, mul-le-mul_right t n)

pub whole_pos : (ds : List ℕ) (rest unit : ℕ) → rest < unit → 0 < scaled_unit unit ds
whole_pos ds rest unit l = let p : 0 < unit = omega (arith, l) in mul-pos p (ten_pos (length ds))

pub part_some : (ds : List ℕ) (rest bits : ℕ) → 0 < rest → 0 < scaled_rest rest bits ds
part_some ds rest bits l = let m = mul-pos l (ten_pos (length ds)) in omega (arith, m)

pub part_beyond : (ds : List ℕ) (rest bits : ℕ) → NoTrailingZero ds → (ds ≡ [] → ⊥) → 0 < scaled_rest rest bits ds
part_beyond ds rest bits n some = let m = mul-pos (some_number 10 ds (omega arith) n some) (pow_pos bits) in omega (arith, m)

-- ---- if the digits after the block do not matter
plain_under : (w t a rest half unit : ℕ) → 0 < a → w < t → rest + a ≤ half → 2 * half ≤ unit → 2 * (rest * t + w * a) < unit * t
plain_under w t a rest half unit p k l h = omega (arith, mul-le-mul_right a k, mul-le-mul_right t l, mul-le-mul_right t h)

plain_over : (w t a rest half unit : ℕ) → 0 < t → half < rest → unit ≤ 2 * half + 1 → unit * t < 2 * (rest * t + w * a)
plain_over w t a rest half unit p l h = omega (arith, mul-le-mul_right t l, mul-le-mul_right t h)

plain_within : (w t a rest unit : ℕ) → 0 < a → w < t → rest + a ≤ unit → rest * t + w * a < unit * t
plain_within w t a rest unit p k l = omega (arith, mul-le-mul_right a k, mul-le-mul_right t l)

pub under_half : (ds : List ℕ) (rest bits unit gap : ℕ) → gap ≡ 2 ^ bits → AllBelowBase 10 ds → NoTrailingZero ds → (ds ≡ [] → ⊥) → rest + gap ≤ unit / 2 → IsLostFraction LessThanHalf (scaled_rest rest bits ds) (scaled_unit unit ds)
under_half ds rest bits unit gap e b n some l = (
  part_beyond ds rest bits n some,
  plain_under (number_from_digits 10 ds) (10 ^ length ds) (2 ^ bits) rest (unit / 2) unit (pow_pos bits) (number_lt 10 ds b) (rw e at l) (omega (arith, div-add-mod' unit 2)),
)

pub over_half : (ds : List ℕ) (rest bits unit gap : ℕ) → gap ≡ 2 ^ bits → AllBelowBase 10 ds → unit / 2 < rest → rest + gap ≤ unit → IsLostFraction MoreThanHalf (scaled_rest rest bits ds) (scaled_unit unit ds)
over_half ds rest bits unit gap e b h l = (
  plain_over (number_from_digits 10 ds) (10 ^ length ds) (2 ^ bits) rest (unit / 2) unit (ten_pos (length ds)) h (omega (arith, div-add-mod' unit 2, mod-lt unit two_some)),
  plain_within (number_from_digits 10 ds) (10 ^ length ds) (2 ^ bits) rest unit (pow_pos bits) (number_lt 10 ds b) (rw e at l),
)
  where
    two_some : 0 < 2
    two_some = omega arith

-- ---- the number of the candidate is that of the fraction
plain_same : (b w t den v ten p a unit q r o : ℕ) → q * unit + r ≡ b * a → unit * p ≡ a * ten → (b * t + w) * den ≡ v * (ten * t) → (o * (unit * t) + (q * (unit * t) + (r * t + w * a))) * den ≡ (o * den + v * p) * (unit * t)
plain_same b w t den v ten p a unit q r o e f g = omega (arith, ap (λ x. x * (t * den)) e, ap (λ x. x * (v * t)) f, ap (λ x. x * a) g)

settled_same : (b w t den v ten p a unit q r k s : ℕ) → q * unit + r ≡ b * a → unit * p ≡ a * ten → (b * t + w) * den ≡ v * (ten * t) → q * (unit * t) + (r * t + w * a) ≡ k * (unit * t) + s → v * p * (unit * t) ≡ (k * (unit * t) + s) * den
settled_same b w t den v ten p a unit q r k s e f g h =
    let one = plain_same b w t den v ten p a unit q r 0 e f g in
    omega (arith, one, ap (λ x. x * den) h)

all_few : (v den p d x : ℕ) → 0 < p → 0 < d → v < den → (0 * d + x) * den ≡ (0 * den + v * p) * d → x < p * d
all_few v den p d x some pos l e = cancel_lt den x (p * d) (omega (arith, e, mul-le-mul_right (p * d) l, mul-pos some pos))

few_steps : (v den p k d s : ℕ) → 0 < p → 0 < d → v < den → v * p * d ≡ (k * d + s) * den → k < p
few_steps v den p k d s some pos l e = cancel_lt d k p (cancel_lt den (d * k) (d * p) (omega (arith, e, mul-le-mul_right (p * d) l, mul-pos some pos)))

module _ (ds rest : List ℕ) (block count frac q left unit bits : ℕ) (below : AllBelowBase 10 ds) (led : IsBlockOf 10 ds rest block count) (candidate : IsCandidate block count frac q left unit bits) where
  led_at : (block * 10 ^ length rest + number_from_digits 10 rest) * 10 ^ length ds ≡ number_from_digits 10 ds * (10 ^ count * 10 ^ length rest)
  led_at = led.same ∙ ap (λ x. number_from_digits 10 ds * x) (pow-add 10 count (length rest))

  -- the ulps fit 64 bits
  pub candidate_word : frac ≤ 64 → q * scaled_unit unit rest + scaled_rest left bits rest < 2 ^ 64 * scaled_unit unit rest
  candidate_word most =
      let few = mul-le-mul_right (scaled_unit unit rest) (two_up frac 64 most) in
      let same = plain_same block (number_from_digits 10 rest) (10 ^ length rest) (10 ^ length ds) (number_from_digits 10 ds) (10 ^ count) (2 ^ frac) (2 ^ bits) unit q left 0 candidate.split candidate.scale led_at in
      let below_all = all_few (number_from_digits 10 ds) (10 ^ length ds) (2 ^ frac) (scaled_unit unit rest) (q * scaled_unit unit rest + scaled_rest left bits rest) (pow_pos frac) (whole_pos rest left unit candidate.small) (number_lt 10 ds below) same in
      omega (arith, below_all, few)

  -- if the candidate and the digits after it settle to p ulps and a lost fraction, so does the fraction
  pub part_settled : (p : ℕ) (lost : LostFraction) → IsSettled (q * scaled_unit unit rest + scaled_rest left bits rest) (scaled_unit unit rest) p lost → IsFractionUlps 10 ds frac p lost
  part_settled p lost settled =
      let some = whole_pos rest left unit candidate.small in
      let split = settled_same block (number_from_digits 10 rest) (10 ^ length rest) (10 ^ length ds) (number_from_digits 10 ds) (10 ^ count) (2 ^ frac) (2 ^ bits) unit q left p settled.rest candidate.split candidate.scale led_at settled.split in
      record {
        ulps = record { rest = settled.rest; unit = scaled_unit unit rest; some = some; split = split; left = settled.left };
        small = few_steps (number_from_digits 10 ds) (10 ^ length ds) (2 ^ frac) p (scaled_unit unit rest) settled.rest (pow_pos frac) some (number_lt 10 ds below) split;
      }

pub room_of : (bits : ℕ) → bits ≤ 37 → 2 * 2 ^ bits ≤ 7450580596923828125
room_of bits l = let most = two_up bits 37 l in omega (arith, most)

-- ---- the rest after the candidate, by its comparisons
-- the ulp after the candidate's is in range too
pub next_room : (q s den n : ℕ) → q * den + s < n * den → den ≤ s → q + 1 < n
next_room q s den n h l = cancel_lt den (q + 1) n (omega (arith, h, l))

pub settled_over : (q s den : ℕ) → den < s → 2 * s < 3 * den → IsSettled (q * den + s) den (q + 1) LessThanHalf
settled_over q s den l near =
    record { rest = s - den; split = omega arith; left = (omega arith, omega arith) }

pub settled_tail : (q s den : ℕ) (lost : LostFraction) → IsLostFraction lost s den → IsSettled (q * den + s) den q lost
settled_tail q s den lost h = record { rest = s; split = refl; left = h }

-- ---- if no digit is left
pub settled_share : (rest : List ℕ) (q left unit bits : ℕ) (lost : LostFraction) → rest ≡ [] → IsLostFraction lost left unit → IsSettled (q * scaled_unit unit rest + scaled_rest left bits rest) (scaled_unit unit rest) q lost
settled_share rest q left unit bits lost e h =
    let one : left * 10 ^ 0 + 0 * 2 ^ bits ≡ left = omega arith in
    let all : unit * 10 ^ 0 ≡ unit = omega arith in
    rw e (record { rest = left * 10 ^ 0 + 0 * 2 ^ bits; split = refl; left = rw (one, all) h })

-- one ulp more than the candidate's
pub ruleset past_ulp = (next_room, part_near, room_of)
