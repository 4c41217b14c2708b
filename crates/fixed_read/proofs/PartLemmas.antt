-- The first digits of a fraction, in ulps.
use Rattle.std.proofs.Common.{◌≡◌, ℕ, ◌+◌, ◌-◌, ◌*◌, ◌/◌, ◌%◌, ◌^◌, ◌<◌, ◌≤◌, ◌↔◌, Bool, IsTrue, List, [], length, refl, ap, ◌∙◌, arith, pow_pos, mul-pos, mul-le-mul_right, div-add-mod', mod-lt}
use Rattle.std.proofs.lemmas.Nat.{pow-add}
use Rattle.std.proofs.lemmas.Int.Digits.{number_lt}
use Rattle.std.proofs.Math.Nat.{one-le-pow, pow-le-pow_right}
use Rattle.std.specs.Int.Digits.{number_from_digits}
use Rattle.fixed_numeral.proofs.Public.{pow-mul}
use Rattle.fixed_bits.specs.declared.rounding.LostFraction.{LostFraction}
use Rattle.fixed_bits.specs.declared.rounding.LostFraction.TheVariants.{Zero}
use Rattle.fixed_read.specs.Inner.Blocks.{IsBlockOf}
use Rattle.fixed_bits.specs.LostFractions.{IsLostFraction}
use Rattle.fixed_read.specs.Inner.Rounding.{IsFractionUlps}
use Rattle.fixed_read.proofs.DigitLemmas.{cancel_lt, some_digits}

-- ---- the block in ulps, over plain numbers: x and w are the base's powers for all digits and for the digits after it
plain_split : (n p r unit t w y x block : ℕ) → p * unit + r ≡ block → (block * w + y) * x ≡ n * (unit * t * w) → n * t * (unit * w) ≡ (p * (unit * w) + (r * w + y)) * x
plain_split n p r unit t w y x block e k = omega (arith, k, ap (λ z. z * (w * x)) e)

part_is : (b c t half block p r : ℕ) (ds rest : List ℕ) (lost : LostFraction) → 0 < half → 0 < b → b ^ c ≡ 2 * half * 2 ^ t → p * (2 * half) + r ≡ block → IsBlockOf b ds rest block c → ((d y : ℕ) → y < d → ((0 < length rest) ↔ (0 < y)) → IsLostFraction lost (r * d + y) (2 * half * d)) → IsFractionUlps b ds t p lost
part_is b c t half block p r ds rest lost pos base power split h left =
    let joined : b ^ (c + length rest) ≡ 2 * half * 2 ^ t * b ^ length rest = pow-add b c (length rest) ∙ ap (λ x. x * b ^ length rest) power in
    record {
      ulps = record {
        rest = r * b ^ length rest + number_from_digits b rest;
        unit = 2 * half * b ^ length rest;
        some = mul-pos (omega (arith, pos)) (one-le-pow (length rest) b base);
        split = plain_split (number_from_digits b ds) p r (2 * half) (2 ^ t) (b ^ length rest) (number_from_digits b rest) (b ^ length ds) block split (rw joined at h.same);
        left = left (b ^ length rest) (number_from_digits b rest) (number_lt b rest h.digits) (some_digits b rest base h.trailing);
      };
      small = cancel_lt (2 * half) p (2 ^ t) (omega (arith, split, rw power at h.small));
    }

-- the digits of the block reach past the ulps
block_power : (bits c t spare : ℕ) → c * bits ≡ t + spare → (2 ^ bits) ^ c ≡ 2 ^ spare * 2 ^ t
block_power bits c t spare e = pow-mul 2 bits c ∙ ap (λ i. 2 ^ i) (let z : bits * c ≡ spare + t = omega (arith, e) in z) ∙ pow-add 2 spare t

pub count_enough : (bits t : ℕ) → 0 < bits → t + 1 ≤ (t / bits + 1) * bits
count_enough bits t p = omega (arith, div-add-mod' t bits, mod-lt t p)

pub count_most : (bits t : ℕ) → 0 < bits → (t / bits + 1) * bits ≤ t + bits
count_most bits t p = omega (arith, div-add-mod' t bits)

pub base_least : (bits : ℕ) → 0 < bits → 2 ≤ 2 ^ bits
base_least bits p = pow-le-pow_right {n = 2} (omega arith) (let z : 1 ≤ bits = omega arith in z)

pub base_most : (bits : ℕ) → bits ≤ 4 → 2 ^ bits ≤ 16
base_most bits p = pow-le-pow_right {n = 2} (omega arith) p

-- half of the block's digits fit 64 bits
pub word_room : (bits t c : ℕ) → 0 < bits → bits ≤ 4 → t ≤ 68 → c + c ≤ t / bits + 2 → (2 ^ bits) ^ c ≤ 2 ^ 64
word_room bits t c some few l h =
    let most = count_most bits t some in
    let twice : (c + c) * bits ≤ (t / bits + 2) * bits = mul-le-mul_right bits h in
    let z : bits * c ≤ 64 = omega (arith, most, twice) in
    rw (pow-mul 2 bits c) (pow-le-pow_right {n = 2} (omega arith) z)

-- all of the block's digits fit 64 bits if the fraction has at most 60 bits
pub block_room : (bits t c : ℕ) → 0 < bits → bits ≤ 4 → t ≤ 60 → c ≡ t / bits + 1 → (2 ^ bits) ^ c ≤ 2 ^ 64
block_room bits t c some few l e =
    let most = count_most bits t some in
    let same : c * bits ≡ (t / bits + 1) * bits = ap (λ x. x * bits) e in
    let z : bits * c ≤ 64 = omega (arith, most, same) in
    rw (pow-mul 2 bits c) (pow-le-pow_right {n = 2} (omega arith) z)

pub spare_half : (bits t : ℕ) → 0 < bits → 2 ^ ((t / bits + 1) * bits - t) ≡ 2 * 2 ^ ((t / bits + 1) * bits - t - 1)
spare_half bits t some = ap (λ i. 2 ^ i) (let z : (t / bits + 1) * bits - t ≡ ((t / bits + 1) * bits - t - 1) + 1 = omega (arith, count_enough bits t some) in z) ∙ pow-add 2 ((t / bits + 1) * bits - t - 1) 1 ∙ omega arith

-- restated for the body
pub part_at : (bits t c block p r half base : ℕ) (ds rest : List ℕ) (more : Bool) (lost : LostFraction) → 0 < bits → c ≡ t / bits + 1 → base ≡ 2 ^ bits → half ≡ 2 ^ (c * bits - t - 1) → p ≡ block / 2 ^ (c * bits - t) → r ≡ block % 2 ^ (c * bits - t) → IsBlockOf base ds rest block c → (IsTrue more ↔ (0 < length rest)) → ((d y : ℕ) → y < d → (IsTrue more ↔ (0 < y)) → IsLostFraction lost (r * d + y) (2 * half * d)) → IsFractionUlps base ds t p lost
part_at bits t c block p r half base ds rest more lost some ec eb eh ep er h em left =
    let enough : t + 1 ≤ c * bits = rw ec (count_enough bits t some) in
    let two : 2 ^ (c * bits - t) ≡ 2 * half = ap (λ i. 2 ^ i) (let z : c * bits - t ≡ (c * bits - t - 1) + 1 = omega arith in z) ∙ pow-add 2 (c * bits - t - 1) 1 ∙ omega (arith, eh) in
    let power : base ^ c ≡ 2 * half * 2 ^ t = ap (λ x. x ^ c) eb ∙ block_power bits c t (c * bits - t) (omega arith) ∙ ap (λ x. x * 2 ^ t) two in
    let split : p * 2 ^ (c * bits - t) + r ≡ block = rw (ep, er) (div-add-mod' block (2 ^ (c * bits - t))) in
    let positive : 0 < half = rw eh (pow_pos (c * bits - t - 1)) in
    let some_base : 0 < base = rw eb (pow_pos bits) in
    part_is base c t half block p r ds rest lost positive some_base power (rw two at split) h
    (λ d y low e. left d y low (λ m. e.0 (em.0 m), λ q. em.1 (e.1 q)))

-- a fraction without digits is 0 ulps
pub part_none : (b t : ℕ) (ds : List ℕ) → ds ≡ [] → IsFractionUlps b ds t 0 Zero
part_none b t ds e = rw e (record { ulps = record { rest = 0; unit = 1; some = omega arith; split = omega arith; left = refl }; small = pow_pos t })
