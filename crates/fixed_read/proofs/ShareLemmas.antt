-- The ulps of a block of 13 digits, and the rest of an ulp as a share of a unit.
use Rattle.std.proofs.Common.{false, ◌≡◌, ◌↔◌, IsTrue, ℕ, ◌+◌, ◌-◌, ◌*◌, ◌/◌, ◌%◌, ◌^◌, ◌<◌, ◌≤◌, sym, ap, ◌∙◌, arith, mul-le-mul_right, div-add-mod', mod-lt}
use Rattle.std.proofs.lemmas.Nat.{pow-add}
use Rattle.std.proofs.Math.Nat.{one-le-pow, pow-le-pow_right}
use Rattle.fixed_bits.specs.Rounded.{IsRounded}
use Rattle.fixed_read.specs.Inner.Rounding.{IsShare, IsMagnitude}
use Rattle.fixed_read.specs.declared.magnitude.Ulps.{Ulps}
use Rattle.fixed_bits.specs.declared.mode.ReadMode.{ReadMode}
use Rattle.fixed_bits.proofs.Public.{rounded_same}
use Rattle.fixed_read.proofs.MultipleLemmas.{cancel_eq, exact_rest}
use Rattle.fixed_read.proofs.ShortNumeralLemmas.{ten_split, split_whole, thirteen_below}

pub few_bits : (n : ℕ) → n ≤ 32 → 2 ^ n ≤ 2 ^ 32
few_bits n l = pow-le-pow_right {n = 2} (omega arith) l

-- ulps of 2^-32 become finer, then coarser
pub same_scale : (frac finer coarser : ℕ) → frac + coarser ≡ 32 + finer → 2 ^ frac * 2 ^ coarser ≡ 2 ^ 32 * 2 ^ finer
same_scale frac finer coarser e = sym (pow-add 2 frac coarser) ∙ ap (λ i. 2 ^ i) e ∙ pow-add 2 32 finer

-- p is the scale of the finer ulps
module _ (block first rest more left p : ℕ) (e : first * 1220703125 + rest ≡ block * 2 ^ 19) (f : more * 1220703125 + left ≡ rest * p) where
  pub fine_sum : (first * p + more) * 1220703125 + left ≡ block * 2 ^ 19 * p
  fine_sum = omega (arith, ap (λ x. x * p) e, f)

  pub fine_below : block < 10 ^ 13 → 0 < p → first * p + more < 2 ^ 32 * p
  fine_below l some = omega (arith, fine_sum, mul-le-mul_right p l)

-- a number as a multiple of q and a rest
module _ (fine q : ℕ) (some : 0 < q) where
  pub whole_and_low : fine ≡ fine / q * q + (fine - fine / q * q)
  whole_and_low = omega (arith, div-add-mod' fine q)

  pub low_below : fine - fine / q * q < q
  low_below = omega (arith, div-add-mod' fine q, mod-lt fine some)

  pub whole_within : fine / q * q ≤ fine
  whole_within = omega (arith, div-add-mod' fine q)

  pub whole_below : (f : ℕ) → fine < f * q → fine / q < f
  whole_below f l = cancel (fine / q) (fine % q) (div-add-mod' fine q)
    where
      cancel : (w r : ℕ) → w * q + r ≡ fine → w < f
      cancel w r d = grind (arith, l, d)

-- the rest of a coarse ulp is below the unit
pub rest_below : (low left q : ℕ) → low < q → left < 1220703125 → low * 1220703125 + left < 1220703125 * q
rest_below low left q l k = omega (arith, l, k)

pub share : (block frac ulps low left fine p q : ℕ) → fine * 1220703125 + left ≡ block * 2 ^ 19 * p → fine ≡ ulps * q + low → 2 ^ frac * q ≡ 2 ^ 32 * p → low < q → left < 1220703125 → IsShare block (10 ^ 13) frac ulps (low * 1220703125 + left) (1220703125 * q)
share block frac ulps low left fine p q sum whole scale l k = record {
  small = rest_below low left q l k;
  split = omega (arith, ap (λ x. block * x) scale, sum, whole);
}

-- the share of a block that is padded with zeros
pub padded_share : (f p n frac q rest unit : ℕ) → p ≤ n → IsShare (f * 10 ^ (n - p)) (10 ^ n) frac q rest unit → IsShare f (10 ^ p) frac q rest unit
padded_share f p n frac q rest unit l h = record {
  small = h.small;
  split = narrower (10 ^ (n - p)) (10 ^ p) (10 ^ n) (2 ^ frac) (one-le-pow (n - p) 10 (omega arith)) (ten_split p n l) h.split;
}
  where
    narrower : (b a t k : ℕ) → 0 < b → t ≡ a * b → f * b * k * unit ≡ (q * unit + rest) * t → f * k * unit ≡ (q * unit + rest) * a
    narrower b a t k some e s = cancel_eq (f * k * unit) ((q * unit + rest) * a) b some (omega (arith, s, ap (λ x. (q * unit + rest) * x) e))

-- a share after a whole number
pub share_whole : (w num den frac q count rest unit : ℕ) → count ≡ w * 2 ^ frac + q → IsShare num den frac q rest unit → IsShare (w * den + num) den frac count rest unit
share_whole w num den frac q count rest unit e h = record { small = h.small; split = rw e (omega (arith, h.split)) }

-- the magnitude of a rounded share
pub magnitude_of_share : (mode : ReadMode) (num den frac q rest unit more high : ℕ) (ulps : Ulps) → 0 < den → IsShare num den frac q rest unit → IsRounded mode false (q * unit + rest) unit (q + more) → (IsTrue ulps.is_exact ↔ (rest ≡ 0)) → q + more ≡ high * 2 ^ 64 + ulps.low → (IsTrue ulps.has_high_bits ↔ (0 < high)) → IsMagnitude mode (record { num = num; den = den }) frac ulps
magnitude_of_share mode num den frac q rest unit more high ulps some h to none e over =
    let unit_some : 0 < unit = omega (arith, h.small) in
    let test = exact_rest (num * 2 ^ frac) den q unit rest some unit_some h.small h.split in
    record {
      high = high;
      to = rw e at (rounded_same mode false (q * unit + rest) unit (num * 2 ^ frac) den (q + more) unit_some some (sym h.split) to);
      over = over;
      exact = (λ t. test.0 (none.0 t), λ m. none.1 (test.1 m));
    }

-- a whole number before a fraction
pub ruleset with_whole = (share_whole, split_whole, thirteen_below)
