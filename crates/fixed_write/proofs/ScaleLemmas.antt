-- Steps of 2^-64 and ulps of 2^-g.
use Rattle.std.proofs.Math.Nat.{mul-le-mul}
use Rattle.std.proofs.Common.{false, ◌≡◌, ℕ, zero, suc, ◌+◌, ◌-◌, ◌*◌, ◌/◌, ◌%◌, ◌^◌, ◌<◌, ◌≤◌, Bool, List, refl, sym, ap, ◌∙◌, arith, pow_pos, div-add-mod', mul-le-mul_left}
use Rattle.std.proofs.Math.Nat.{mul-div_cancel_left, pow-le-pow_right}
use Rattle.std.proofs.lemmas.Nat.{pow-add, div_below}
use Rattle.fixed_bits.specs.Rounded.{IsRounded}
use Rattle.fixed_bits.specs.declared.mode.ReadMode.{ReadMode}
use Rattle.fixed_bits.proofs.Public.{rounded_same}
use Rattle.fixed_write.specs.Places.{IsExact}
use Rattle.fixed_write.specs.Inner.Digits.{AppendsRounded, AppendsExact, IsBlock}

pub whole_power : (g : ℕ) → g ≤ 64 → 2 ^ 64 ≡ 2 ^ g * 2 ^ (64 - g)
whole_power g l = let e : 64 ≡ g + (64 - g) = omega arith in ap (λ y. 2 ^ y) e ∙ pow-add 2 g (64 - g)

-- the two parts of m ulps of 2^-g are m · 2^(64 - g) ulps of 2^-64
pub in_units : (m g w r : ℕ) → g ≤ 64 → w ≡ m / 2 ^ g → r ≡ m % 2 ^ g * 2 ^ (64 - g) → w * 2 ^ 64 + r ≡ 2 ^ (64 - g) * m
in_units m g w r l e f =
    let parts : m ≡ m / 2 ^ g * 2 ^ g + m % 2 ^ g = sym (div-add-mod' m (2 ^ g)) in
    rw (e, f, whole_power g l) (product (m / 2 ^ g) (2 ^ g) (2 ^ (64 - g)) (m % 2 ^ g) m parts)
  where
    product : (q u s r m : ℕ) → m ≡ q * u + r → q * (u * s) + r * s ≡ s * m
    product q u s r m e = rw e (omega arith)

pub places_of : (mode : ReadMode) (b : ℕ) (u : Bool) (m g k w r : ℕ) (before after : List ℕ) → g ≤ 64 → w ≡ m / 2 ^ g → r ≡ m % 2 ^ g * 2 ^ (64 - g) → AppendsRounded mode b u (w * 2 ^ 64 + r) 64 k before after → AppendsRounded mode b u m g k before after
places_of mode b u m g k w r before after l we re h = record {
  number = h.number;
  rounded = rounded_of (2 ^ (64 - g)) m (b ^ k) (2 ^ g) h.number (pow_pos (64 - g)) (pow_pos g) (rw (in_units m g w r l we re, whole_power g l) at h.rounded);
  text_is = h.text_is;
}
  where
    rounded_of : (s m p u n : ℕ) → 0 < s → 0 < u → IsRounded mode false (s * m * p) (u * s) n → IsRounded mode false (m * p) u n
    rounded_of s m p u n some unit h =
        let product : 1 * 1 ≤ u * s = mul-le-mul unit some in
        rounded_same mode false (s * m * p) (u * s) (m * p) u n (omega (arith, product)) unit (omega arith) h

cancel : (s x y : ℕ) → 0 < s → s * x ≡ s * y → x ≡ y
cancel s x y some e = sym (mul-div_cancel_left x some) ∙ (ap (λ z. z / s) e ∙ mul-div_cancel_left y some)

down : (s m p u n : ℕ) → 0 < s → s * m * p ≡ n * (u * s) → m * p ≡ n * u
down s m p u n some e =
    let e' : s * (m * p) ≡ s * (n * u) = omega arith in
    cancel s (m * p) (n * u) some e'

up : (s m p u n : ℕ) → m * p ≡ n * u → s * m * p ≡ n * (u * s)
up s m p u n e =
    let e' : s * (m * p) ≡ s * (n * u) = ap (λ y. s * y) e in
    omega arith

exact_of : (g b m k n : ℕ) → g ≤ 64 → IsExact b (2 ^ (64 - g) * m) 64 k n → IsExact b m g k n
exact_of g b m k n l h = record {
  same = down (2 ^ (64 - g)) m (b ^ k) (2 ^ g) n (pow_pos (64 - g)) (h.same ∙ ap (λ y. n * y) (whole_power g l));
  least = λ i j e. h.least i j (up (2 ^ (64 - g)) m (b ^ j) (2 ^ g) i e ∙ ap (λ y. i * y) (sym (whole_power g l)));
}

pub exact_places_of : (b : ℕ) (u : Bool) (m g w r : ℕ) (before after : List ℕ) → g ≤ 64 → w ≡ m / 2 ^ g → r ≡ m % 2 ^ g * 2 ^ (64 - g) → AppendsExact b u (w * 2 ^ 64 + r) 64 before after → AppendsExact b u m g before after
exact_places_of b u m g w r before after l we re h = record {
  number = h.number;
  places = h.places;
  exact = exact_of g b m h.places h.number l (rw (in_units m g w r l we re) at h.exact);
  text_is = h.text_is;
}

-- ---- the blocks of the four bases
pub block_ten : IsBlock 10 19
block_ten = record { low = omega arith; high = omega arith; even = refl; fits = omega arith; step = 2; others = 5; rest = 2 ^ 63; divides = refl; divides_unit = refl; some = omega arith; full = omega arith }

pub below_half : (m g w r : ℕ) → m < 2 ^ 64 → g ≤ 64 → w ≡ m / 2 ^ g → r ≡ m % 2 ^ g * 2 ^ (64 - g) → 0 < r → w < 2 ^ 63
below_half m zero w r small l e f some = absurd (none m r f some)
  where
    none : (m r : ℕ) → r ≡ m % 2 ^ 0 * 2 ^ 64 → 0 < r → ⊥
    none m r f some = let z : m % 2 ^ 0 ≡ 0 = omega arith in let f' : r ≡ 0 * 2 ^ 64 = rw z at f in omega arith
below_half m (suc g) w r small l e f some =
    let two : 2 ^ 1 ≤ 2 ^ suc g = pow-le-pow_right {n = 2} (omega arith) {i = 1} {j = suc g} (omega arith) in
    let product : 2 ^ 63 * 2 ^ 1 ≤ 2 ^ 63 * 2 ^ suc g = mul-le-mul_left (2 ^ 63) two in
    rw e (div_below m (2 ^ suc g) (2 ^ 63) (omega arith) (omega arith))

pub block_two : IsBlock 2 63
block_two = record { low = omega arith; high = omega arith; even = refl; fits = omega arith; step = 2; others = 1; rest = 2 ^ 63; divides = refl; divides_unit = refl; some = omega arith; full = omega arith }

pub block_eight : IsBlock 8 21
block_eight = record { low = omega arith; high = omega arith; even = refl; fits = omega arith; step = 2; others = 4; rest = 2 ^ 63; divides = refl; divides_unit = refl; some = omega arith; full = omega arith }

pub block_sixteen : IsBlock 16 15
block_sixteen = record { low = omega arith; high = omega arith; even = refl; fits = omega arith; step = 16; others = 1; rest = 2 ^ 60; divides = refl; divides_unit = refl; some = omega arith; full = omega arith }
