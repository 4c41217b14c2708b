-- Digits in the lanes of a word.
use Rattle.std.proofs.Common.{◌≡◌, ℕ, zero, suc, ◌+◌, ◌-◌, ◌*◌, ◌/◌, ◌%◌, ◌^◌, ◌<◌, ◌≤◌, List, [], ◌∷◌, ◌++◌, length, take, drop, get_or, replicate, refl, sym, ap, subst, ◌∙◌, ⊎_elim, arith, mul-le-mul_right, length-append, length-take, length-drop}
use Rattle.std.specs.Int.Bits.{bit_and}
use Rattle.std.proofs.Math.Nat.{zero-div, mod-eq_of_lt}
use Rattle.std.proofs.lemmas.Bool.{cases_lt}
use Rattle.std.proofs.lemmas.Nat.{and_mask, and_block, and_mod, and_le_r, mod-pow-add}
use Rattle.std.proofs.lemmas.List.{drop_more, length-replicate}
use Rattle.std.proofs.Math.Arith.{digits_div, digits_mod}
use Rattle.std.specs.Simd.Lanes.{number_l}
use Rattle.std.specs.Int.Digits.{AllBelowBase, number_from_digits, number_from_digits_after}
use Rattle.std.specs.Char.{digit_value}
use Rattle.std.specs.Str.Parse.{AllDigits}
use Rattle.fixed_numeral.specs.Digits.{digits_in, zeros}
use Rattle.fixed_numeral.proofs.ByteLemmas.{letter_is, near_zero}
use Rattle.fixed_numeral.proofs.PlaceLemmas.{below_append, below_zeros, below_split}
use Rattle.fixed_numeral.proofs.DigitLemmas.{digits_in_none, digit_before, digits_le, other_before}

-- ---- two neighbouring digits as one digit of the base squared
abbrev pub paired : ℕ → List ℕ → List ℕ
paired m [] = []
paired m (a ∷ []) = a ∷ []
paired m (a ∷ b ∷ ds) = (a * m + b) ∷ paired m ds

-- the word times the base, plus the word moved down by one lane
abbrev pub spread : ℕ → ℕ → ℕ → ℕ
spread m w n = n * m + n / w

pair_lt : (m w a b : ℕ) → m * m ≤ w → a < m → b < m → a * m + b < w
pair_lt m w a b s p q =
    let t : (a + 1) * m ≤ m * m = mul-le-mul_right m (omega arith) in
    omega arith

base_le : (m w a : ℕ) → m * m ≤ w → a < m → m ≤ w
base_le m w a s p =
    let t : 1 * m ≤ m * m = mul-le-mul_right m (omega arith) in
    omega arith

-- the lowest lane holds a digit below the base
lead : (m w a : ℕ) (ds : List ℕ) → a < m → m ≤ w → AllBelowBase m ds → number_l w ds % w < m
lead m w a [] p s h = let e : 0 * w + 0 ≡ 0 = omega arith in let z : (0 * w + 0) % w ≡ 0 = digits_mod 0 (omega arith) in let z' : 0 % w ≡ 0 = rw e at z in omega (arith, z')
lead m w a (c ∷ ds) p s h =
    let e : c + w * number_l w ds ≡ number_l w ds * w + c = omega arith in
    let z : (number_l w ds * w + c) % w ≡ c = digits_mod (number_l w ds) (omega (arith, h.0)) in
    rw e (omega (arith, z, h.0))

-- the lowest two lanes of a spread word, and the lanes above them
pub record IsSpread (m w v a b n : ℕ) : Type 0 where
  pub split : spread m w (a + w * (b + w * n)) ≡ spread m w n * v + ((b * m + n % w) * w + (a * m + b))
  pub low : (b * m + n % w) * w + (a * m + b) < v
  pub first : ((b * m + n % w) * w + (a * m + b)) % w ≡ a * m + b

spread_is : (m w v a b n : ℕ) → v ≡ w * w → m * m ≤ w → a < m → b < m → n % w < m → IsSpread m w v a b n
spread_is m w v a b n e s p q l =
    let small : a < w = omega (arith, base_le m w a s p) in
    let under : a * m + b < w = pair_lt m w a b s p q in
    let over : b * m + n % w < w = pair_lt m w b (n % w) s q l in
    let product : (b * m + n % w + 1) * w ≤ w * w = mul-le-mul_right w (omega arith) in
    let parts : n ≡ n / w * w + n % w = omega arith in
    let order : a + w * (b + w * n) ≡ (b + w * n) * w + a = omega arith in
    let down : ((b + w * n) * w + a) / w ≡ b + w * n = digits_div (b + w * n) small in
    record {
      split = rw (order, down) (omega (arith, e, ap (λ x. x * w) parts, ap (λ x. x * (n * m + n / w)) e));
      low = omega arith;
      first = digits_mod (b * m + n % w) under;
    }

-- ---- every second lane under the mask
masked : (k m w v pairs : ℕ) (ds : List ℕ) → w ≡ 2 ^ k → v ≡ 2 ^ (k + k) → v ≡ w * w → m * m ≤ w → length ds ≡ pairs + pairs → AllBelowBase m ds → bit_and (spread m w (number_l w ds)) (number_l v (replicate pairs (w - 1))) ≡ number_l v (paired m ds)
masked k m w v zero [] p q e s l h =
    let nothing : 0 * m + 0 / w ≡ 0 = omega (arith, zero-div w) in
    rw nothing refl
masked k m w v (suc n) (a ∷ b ∷ ds) p q e s l h =
    let t = spread_is m w v a b (number_l w ds) e s h.0 h.1.0 (lead m w a ds h.0 (base_le m w a s h.0) h.1.1) in
    let rest = masked k m w v n ds p q e s (omega arith) h.1.1 in
    let above : ℕ = spread m w (number_l w ds) in
    let low : ℕ = (b * m + number_l w ds % w) * w + (a * m + b) in
    let mask : ℕ = number_l v (replicate n (w - 1)) in
    let square : 1 * w ≤ w * w = mul-le-mul_right w (omega (arith, base_le m w a s h.0, h.0)) in
    let wide : w - 1 < v = omega (arith, e, square, base_le m w a s h.0, h.0) in
    let block : bit_and (above * 2 ^ (k + k) + low) (mask * 2 ^ (k + k) + (w - 1)) ≡ bit_and above mask * 2 ^ (k + k) + bit_and low (w - 1) = and_block (k + k) above mask low (w - 1) (subst (λ x. low < x) q t.low) (subst (λ x. w - 1 < x) q wide) in
    let here : bit_and (above * v + low) (mask * v + (w - 1)) ≡ bit_and above mask * v + bit_and low (w - 1) = subst (λ x. bit_and (above * x + low) (mask * x + (w - 1)) ≡ bit_and above mask * x + bit_and low (w - 1)) (sym q) block in
    let kept : bit_and low (w - 1) ≡ a * m + b = subst (λ x. bit_and low (x - 1) ≡ low % x) (sym p) (and_mask low k) ∙ t.first in
    let order : (w - 1) + v * mask ≡ mask * v + (w - 1) = omega arith in
    ap (λ x. bit_and x ((w - 1) + v * mask)) t.split ∙ ap (λ y. bit_and (above * v + low) y) order ∙ here ∙ omega (arith, kept, ap (λ x. x * v) rest)
masked k m w v x y p q e s l h = absurd (omega arith)

-- one multiplication gives the spread word, one lane higher
raised : (k j m w n : ℕ) → w ≡ 2 ^ k → 0 < w → n * (m * w + 1) % 2 ^ (j + k) / w ≡ spread m w n % 2 ^ j
raised k j m w n p some =
    let rest : n % w < w = omega arith in
    let whole : n * (m * w + 1) ≡ (n * m + n / w) * w + n % w = omega arith in
    let down : n * (m * w + 1) / w ≡ n * m + n / w = ap (λ x. x / w) whole ∙ digits_div (n * m + n / w) rest in
    ap (λ x. x / w) (subst (λ x. n * (m * w + 1) % 2 ^ (j + k) ≡ (n * (m * w + 1) / x % 2 ^ j) * x + n * (m * w + 1) % x) (sym p) (mod-pow-add (n * (m * w + 1)) j k)) ∙ digits_div (n * (m * w + 1) / w % 2 ^ j) (omega arith) ∙ ap (λ x. x % 2 ^ j) down

-- a mask of j bits needs only the low j bits of a number
cut_masked : (j n mask : ℕ) → mask < 2 ^ j → bit_and (n % 2 ^ j) mask ≡ bit_and n mask
cut_masked j n mask s =
    sym (sym (mod-eq_of_lt (omega (arith, and_le_r n mask))) ∙ and_mod n mask j ∙ ap (λ x. bit_and (n % 2 ^ j) x) (mod-eq_of_lt s))

paired_below : (m : ℕ) (ds : List ℕ) → AllBelowBase m ds → AllBelowBase (m * m) (paired m ds)
paired_below m [] h = tt
paired_below m (a ∷ []) h = (omega (arith, h.0, base_le m (m * m) a (omega arith) h.0), tt)
paired_below m (a ∷ b ∷ ds) h = (pair_lt m (m * m) a b (omega arith) h.0 h.1.0, paired_below m ds h.1.1)

-- ---- eight digits, each in a byte
-- the powers of the base fit their lanes
pub record IsSmallBase (m : ℕ) : Type 0 where
  pub two : m * m ≤ 2 ^ 8
  pub four : m * m * (m * m) ≤ 2 ^ 16
  pub eight : m * m * (m * m) * (m * m * (m * m)) ≤ 2 ^ 32

pub small_base : (m : ℕ) → m ≤ 16 → IsSmallBase m
small_base m h =
    let two : m * m ≤ 16 * m = mul-le-mul_right m h in
    let four : m * m * (m * m) ≤ 2 ^ 8 * (m * m) = mul-le-mul_right (m * m) (omega arith) in
    let eight : m * m * (m * m) * (m * m * (m * m)) ≤ 2 ^ 16 * (m * m * (m * m)) = mul-le-mul_right (m * m * (m * m)) (omega arith) in
    record { two = omega arith; four = omega arith; eight = omega arith }

eight_paired : (m : ℕ) (ds : List ℕ) → length ds ≡ 8 → (length (paired m ds) ≡ 4) × (length (paired (m * m) (paired m ds)) ≡ 2) × (number_l (2 ^ 64) (paired (m * m * (m * m)) (paired (m * m) (paired m ds))) ≡ number_from_digits m ds)
eight_paired m (a ∷ b ∷ c ∷ d ∷ f ∷ g ∷ i ∷ j ∷ []) l = (refl, refl, omega arith)
eight_paired m x l = absurd (omega arith)

pub eight_is : (m word : ℕ) (ds : List ℕ) → m ≤ 16 → length ds ≡ 8 → AllBelowBase m ds → word ≡ number_l 256 ds → bit_and (bit_and (word * (m * 256 + 1) % 2 ^ 64 / 256) 0x00ff_00ff_00ff_00ff * (m * m * 65536 + 1) % 2 ^ 64 / 65536) 0x0000_ffff_0000_ffff * (m * m * (m * m) * 2 ^ 32 + 1) % 2 ^ 64 / 2 ^ 32 ≡ number_from_digits m ds
eight_is m word ds s l h e =
    let powers = small_base m s in
    let lengths = eight_paired m ds l in
    let one = masked 8 m 256 65536 4 ds refl refl refl powers.two l h in
    let two = masked 16 (m * m) 65536 (2 ^ 32) 2 (paired m ds) refl refl refl powers.four lengths.0 (paired_below m ds h) in
    let three = masked 32 (m * m * (m * m)) (2 ^ 32) (2 ^ 64) 1 (paired (m * m) (paired m ds)) refl refl refl powers.eight lengths.1 (paired_below (m * m) (paired m ds) (paired_below m ds h)) in
    let pairs : bit_and (word * (m * 256 + 1) % 2 ^ 64 / 256) 0x00ff_00ff_00ff_00ff ≡ number_l 65536 (paired m ds) = ap (λ x. bit_and x 0x00ff_00ff_00ff_00ff) (raised 8 56 m 256 word refl (omega arith)) ∙ cut_masked 56 (spread m 256 word) 0x00ff_00ff_00ff_00ff (omega arith) ∙ rw e one in
    let p : ℕ = number_l 65536 (paired m ds) in
    let fours : bit_and (p * (m * m * 65536 + 1) % 2 ^ 64 / 65536) 0x0000_ffff_0000_ffff ≡ number_l (2 ^ 32) (paired (m * m) (paired m ds)) = ap (λ x. bit_and x 0x0000_ffff_0000_ffff) (raised 16 48 (m * m) 65536 p refl (omega arith)) ∙ cut_masked 48 (spread (m * m) 65536 p) 0x0000_ffff_0000_ffff (omega arith) ∙ two in
    let f : ℕ = number_l (2 ^ 32) (paired (m * m) (paired m ds)) in
    rw (pairs, fours) (raised 32 32 (m * m * (m * m)) (2 ^ 32) f refl (omega arith) ∙ sym (and_mask (spread (m * m * (m * m)) (2 ^ 32) f) 32) ∙ three ∙ lengths.2)

-- ---- the values of eight bytes
pub values_are : (bs : List ℕ) → length (digits_in bs) ≡ length bs → bit_and (number_l 256 bs) (number_l 256 (replicate (length bs) 15)) + bit_and (number_l 256 bs / 2 ^ 6) (number_l 256 (replicate (length bs) 1)) * 9 ≡ number_l 256 (digits_in bs)
values_are [] plain = rw digits_in_none refl
values_are (b ∷ bs) plain =
    let small = first_plain b bs plain in
    let digits : digits_in (b ∷ bs) ≡ digit_value b ∷ digits_in bs = digit_before b (digit_value b) bs refl small in
    let rest = values_are bs (omega (arith, plain, ap length digits)) in
    let n : ℕ = number_l 256 bs in
    let low : ℕ = number_l 256 (replicate (length bs) 15) in
    let high : ℕ = number_l 256 (replicate (length bs) 1) in
    let letter = letter_is b small in
    let order : b + 256 * n ≡ n * 2 ^ 8 + b = omega arith in
    let first : bit_and (b + 256 * n) (15 + 256 * low) ≡ bit_and n low * 2 ^ 8 + bit_and b 15 = ap (λ x. bit_and x (15 + 256 * low)) order ∙ ap (λ y. bit_and (n * 2 ^ 8 + b) y) (omega arith) ∙ and_block 8 n low b 15 (omega (arith, letter.0)) (omega arith) in
    let down : (b + 256 * n) / 2 ^ 6 ≡ n / 2 ^ 6 * 2 ^ 8 + (n % 64 * 4 + b / 64) = omega arith in
    let second : bit_and ((b + 256 * n) / 2 ^ 6) (1 + 256 * high) ≡ bit_and (n / 2 ^ 6) high * 2 ^ 8 + bit_and (n % 64 * 4 + b / 64) 1 = ap (λ x. bit_and x (1 + 256 * high)) down ∙ ap (λ y. bit_and (n / 2 ^ 6 * 2 ^ 8 + (n % 64 * 4 + b / 64)) y) (omega arith) ∙ and_block 8 (n / 2 ^ 6) high (n % 64 * 4 + b / 64) 1 (omega (arith, letter.0)) (omega arith) in
    let kept : bit_and b 15 ≡ b % 16 = and_mask b 4 in
    let one : bit_and (n % 64 * 4 + b / 64) 1 ≡ (n % 64 * 4 + b / 64) % 2 = and_mask (n % 64 * 4 + b / 64) 1 in
    rw digits (omega (arith, first, second, kept, one, letter.1, rest))
  where
    first_plain : (b : ℕ) (bs : List ℕ) → length (digits_in (b ∷ bs)) ≡ length (b ∷ bs) → digit_value b < 16
    first_plain b bs plain = ⊎_elim (λ s. s) (λ (big : 16 ≤ digit_value b). absurd (omega (arith, plain, ap length (other_before b bs big), digits_le bs))) (cases_lt (digit_value b) 16)

-- ---- bytes that are decimal digits
upper_half : (b : ℕ) → bit_and b 240 ≡ b / 16 % 16 * 16
upper_half b =
    let split : b ≡ b / 16 * 2 ^ 4 + b % 16 = omega arith in
    let block : bit_and (b / 16 * 2 ^ 4 + b % 16) (15 * 2 ^ 4 + 0) ≡ bit_and (b / 16) 15 * 2 ^ 4 + bit_and (b % 16) 0 = and_block 4 (b / 16) 15 (b % 16) 0 (omega arith) (omega arith) in
    omega (arith, ap (λ x. bit_and x (15 * 2 ^ 4 + 0)) split ∙ block, and_mask (b / 16) 4, and_le_r (b % 16) 0)

-- the lowest byte under its mask, and the bytes above it
lowest : (n mask b : ℕ) → b < 256 → bit_and (n * 256 + b) (240 + 256 * mask) ≡ bit_and n mask * 256 + b / 16 * 16
lowest n mask b s =
    let order : 240 + 256 * mask ≡ mask * 2 ^ 8 + 240 = omega arith in
    rw order (omega (arith, (and_block 8 n mask b 240 (omega (arith, s)) (omega arith)), upper_half b, s))

pub decimal_lanes : (bs : List ℕ) → AllBelowBase 256 bs → bit_and (number_l 256 bs) (number_l 256 (replicate (length bs) 240)) ≡ number_l 256 (replicate (length bs) 48) → bit_and (number_l 256 bs + number_l 256 (replicate (length bs) 6)) (number_l 256 (replicate (length bs) 240)) ≡ number_l 256 (replicate (length bs) 48) → AllDigits 10 bs
decimal_lanes [] h p q = tt
decimal_lanes (b ∷ bs) h p q =
    let n : ℕ = number_l 256 bs in
    let mask : ℕ = number_l 256 (replicate (length bs) 240) in
    let wanted : ℕ = number_l 256 (replicate (length bs) 48) in
    let more : ℕ = number_l 256 (replicate (length bs) 6) in
    let first : bit_and (n * 256 + b) (240 + 256 * mask) ≡ bit_and n mask * 256 + b / 16 * 16 = lowest n mask b h.0 in
    let order : b + 256 * n ≡ n * 256 + b = omega arith in
    let plain : bit_and n mask * 256 + b / 16 * 16 ≡ 48 + 256 * wanted = sym first ∙ ap (λ x. bit_and x (240 + 256 * mask)) (sym order) ∙ p in
    let rest : bit_and n mask ≡ wanted = omega (arith, plain) in
    let second : bit_and ((n + more) * 256 + (b + 6)) (240 + 256 * mask) ≡ bit_and (n + more) mask * 256 + (b + 6) / 16 * 16 = lowest (n + more) mask (b + 6) (omega arith) in
    let sum : b + 256 * n + (6 + 256 * more) ≡ (n + more) * 256 + (b + 6) = omega arith in
    let raised : bit_and (n + more) mask * 256 + (b + 6) / 16 * 16 ≡ 48 + 256 * wanted = sym second ∙ ap (λ x. bit_and x (240 + 256 * mask)) (sym sum) ∙ q in
    let rest_more : bit_and (n + more) mask ≡ wanted = omega (arith, raised) in
    (near_zero b 10 (omega arith) (omega arith) (omega arith), decimal_lanes bs h.1 rest rest_more)

-- the sum of the second test fits 64 bits if the first test holds
pub sixes_fit : (word : ℕ) → word < 2 ^ 64 → bit_and word 0xf0f0_f0f0_f0f0_f0f0 ≡ 0x3030_3030_3030_3030 → word + 0x0606_0606_0606_0606 < 2 ^ 64
sixes_fit word s h =
    let high : ℕ = word / 2 ^ 60 in
    let low : ℕ = word % 2 ^ 60 in
    let split : word ≡ high * 2 ^ 60 + low = omega arith in
    let block : bit_and (high * 2 ^ 60 + low) (15 * 2 ^ 60 + 0x00f0_f0f0_f0f0_f0f0) ≡ bit_and high 15 * 2 ^ 60 + bit_and low 0x00f0_f0f0_f0f0_f0f0 = and_block 60 high 15 low 0x00f0_f0f0_f0f0_f0f0 (omega arith) (omega arith) in
    omega (arith, sym block ∙ ap (λ x. bit_and x 0xf0f0_f0f0_f0f0_f0f0) (sym split) ∙ h, and_mask high 4, and_le_r low 0x00f0_f0f0_f0f0_f0f0, split, s)

pub eight_decimal : (word : ℕ) (bs : List ℕ) → length bs ≡ 8 → AllBelowBase 256 bs → word ≡ number_l 256 bs → bit_and word 0xf0f0_f0f0_f0f0_f0f0 ≡ 0x3030_3030_3030_3030 → bit_and (word + 0x0606_0606_0606_0606) 0xf0f0_f0f0_f0f0_f0f0 ≡ 0x3030_3030_3030_3030 → AllDigits 10 bs
eight_decimal word bs l h e p q = decimal_lanes bs h (rw l (rw e at p)) (rw l (rw e at q))

-- ---- eight bytes of a slice
take_one : (n i j : ℕ) (bs : List ℕ) → j ≡ i + 1 → i < length bs → take (suc n) (drop i bs) ≡ get_or bs i 0 ∷ take n (drop j bs)
take_one n i j bs e l = ap (take (suc n)) (drop_more bs i 0 l) ∙ ap (λ k. get_or bs i 0 ∷ take n (drop k bs)) (sym e)

pub eight_bytes : (bs : List ℕ) (i : ℕ) → i + 8 ≤ length bs → take 8 (drop i bs) ≡ get_or bs i 0 ∷ get_or bs (i + 1) 0 ∷ get_or bs (i + 2) 0 ∷ get_or bs (i + 3) 0 ∷ get_or bs (i + 4) 0 ∷ get_or bs (i + 5) 0 ∷ get_or bs (i + 6) 0 ∷ get_or bs (i + 7) 0 ∷ []
eight_bytes bs i l =
    rw (take_one 7 i (i + 1) bs refl (omega arith), take_one 6 (i + 1) (i + 2) bs (omega arith) (omega arith), take_one 5 (i + 2) (i + 3) bs (omega arith) (omega arith), take_one 4 (i + 3) (i + 4) bs (omega arith) (omega arith), take_one 3 (i + 4) (i + 5) bs (omega arith) (omega arith), take_one 2 (i + 5) (i + 6) bs (omega arith) (omega arith), take_one 1 (i + 6) (i + 7) bs (omega arith) (omega arith), take_one 0 (i + 7) (i + 8) bs (omega arith) (omega arith)) refl

pub eight_below : (bs : List ℕ) (i : ℕ) → i + 8 ≤ length bs → ((k : ℕ) → get_or bs k 0 < 256) → AllBelowBase 256 (take 8 (drop i bs))
eight_below bs i l t = rw (eight_bytes bs i l) (t i, (t (i + 1), (t (i + 2), (t (i + 3), (t (i + 4), (t (i + 5), (t (i + 6), (t (i + 7), tt))))))))

pub eight_long : (bs : List ℕ) (i : ℕ) → i + 8 ≤ length bs → length (take 8 (drop i bs)) ≡ 8
eight_long bs i l = omega (arith, length-take 8 (drop i bs), length-drop i bs)

-- ---- eight digits after others
pub after_eight : (m n : ℕ) (ds : List ℕ) → length ds ≡ 8 → number_from_digits_after m n ds ≡ n * (m * m * (m * m) * (m * m * (m * m))) + number_from_digits m ds
after_eight m n (a ∷ b ∷ c ∷ d ∷ f ∷ g ∷ i ∷ j ∷ []) l = omega arith
after_eight m n x l = absurd (omega arith)

-- ---- the first few of eight digits, after zeros
few : (r a b c d f g i j : ℕ) → 0 < r → r < 8 → AllBelowBase 256 (a ∷ b ∷ c ∷ d ∷ f ∷ g ∷ i ∷ j ∷ []) → number_l 256 (a ∷ b ∷ c ∷ d ∷ f ∷ g ∷ i ∷ j ∷ []) * 2 ^ (64 - 8 * r) % 2 ^ 64 ≡ number_l 256 (zeros (8 - r) ++ take r (a ∷ b ∷ c ∷ d ∷ f ∷ g ∷ i ∷ j ∷ []))
few zero a b c d f g i j p s h = absurd (omega arith)
few (suc (suc (suc (suc (suc (suc (suc (suc r)))))))) a b c d f g i j p s h = absurd (omega arith)
few x a b c d f g i j p s h = omega arith

pub few_lanes : (r : ℕ) (ds : List ℕ) → 0 < r → r < 8 → length ds ≡ 8 → AllBelowBase 256 ds → number_l 256 ds * 2 ^ (64 - 8 * r) % 2 ^ 64 ≡ number_l 256 (zeros (8 - r) ++ take r ds)
few_lanes r (a ∷ b ∷ c ∷ d ∷ f ∷ g ∷ i ∷ j ∷ []) p s l h = few r a b c d f g i j p s h
few_lanes r x p s l h = absurd (omega arith)

pub wider : (m n : ℕ) (ds : List ℕ) → m ≤ n → AllBelowBase m ds → AllBelowBase n ds
wider m n [] s h = tt
wider m n (d ∷ ds) s h = (omega (arith, h.0), wider m n ds s h.1)

pub few_below : (m r : ℕ) (ds : List ℕ) → 2 ≤ m → AllBelowBase m ds → AllBelowBase m (zeros (8 - r) ++ take r ds)
few_below m r ds two h = below_append m (zeros (8 - r)) (take r ds) (below_zeros m (8 - r) (omega arith)) (below_split m ds r h).0

pub few_count : (r : ℕ) (ds : List ℕ) → r < 8 → length ds ≡ 8 → length (zeros (8 - r) ++ take r ds) ≡ 8
few_count r ds s l = omega (arith, length-append (zeros (8 - r)) (take r ds), length-replicate {A = ℕ} (8 - r) 0, length-take r ds)
