-- With enough whole bits, a moved number fits the target.
use Rattle.std.proofs.Common.{ℕ, ◌+◌, ◌-◌, ◌*◌, ◌^◌, ◌≤◌, Bool, true, false, ℤ, pos, neg_ℤ, ◌+ℤ◌, ◌≤ℤ◌, arith, refl, inl, inr}
use Rattle.std.specs.Prelude.{◌<ℤ◌}
use Rattle.std.proofs.lemmas.Int.{ints}
use Rattle.std.proofs.lemmas.Nat.{pow_pos, pow-add}
use Rattle.std.proofs.Math.Pow.{pow_mono}
use Rattle.fixed_bits.specs.Ranges.{IsInRange}
use Rattle.fixed_bits.specs.Down.{IsDown, down}
use Rattle.fixed_bits.proofs.Integers.{le_times, lt_times, lt_cancel, neg_times}
use Rattle.fixed_bits.proofs.Public.{down_one}
use Rattle.fixed_convert.specs.Moved.{HasRoom, IsNumWidth}

powers : (i g j f : ℕ) → i + g ≤ j + f → 2 ^ i * 2 ^ g ≤ 2 ^ j * 2 ^ f
powers i g j f h =
    let p : 2 ^ (i + g) ≤ 2 ^ (j + f) = pow_mono h in
    omega (arith, p, pow-add 2 i g, pow-add 2 j f)

module _ (b : ℤ) (f g : ℕ) (d : ℤ) (h : IsDown b f g d) where
  upper : (i j : ℕ) → i + g ≤ j + f → b <ℤ pos (2 ^ i) → d <ℤ pos (2 ^ j)
  upper i j l x =
      let p = powers i g j f l in
      let q = lt_times b (pos (2 ^ i)) (2 ^ g) (pow_pos g) x in
      let a = h.at_most in
      lt_cancel d (pos (2 ^ j)) (2 ^ f) (omega (arith, ints))

  lower : (i j : ℕ) → i + g ≤ j + f → neg_ℤ (pos (2 ^ i)) ≤ℤ b → neg_ℤ (pos (2 ^ j)) ≤ℤ d
  lower i j l x =
      let p = powers i g j f l in
      let q = le_times (neg_ℤ (pos (2 ^ i))) b (2 ^ g) x in
      let a = h.above in
      let r = lt_cancel (neg_ℤ (pos (2 ^ j))) (d +ℤ pos 1) (2 ^ f) (omega (arith, ints, neg_times (2 ^ j) (2 ^ f), neg_times (2 ^ i) (2 ^ g))) in
      omega (arith, ints)

  not_below : pos 0 ≤ℤ b → pos 0 ≤ℤ d
  not_below x =
      let q = le_times (pos 0) b (2 ^ g) x in
      let a = h.above in
      let r = lt_cancel (pos 0) (d +ℤ pos 1) (2 ^ f) (omega (arith, ints)) in
      omega (arith, ints)

  fits : (s t : Bool) (m n : ℕ) → 1 ≤ m → 1 ≤ n → f ≤ m → g ≤ n → HasRoom s t (m - f) (n - g) → IsInRange s m b → IsInRange t n d
  fits true true m n u w k l room r = record {
    low = lower (m - 1) (n - 1) (omega arith) r.low;
    high = let e = r.high in let x = upper (m - 1) (n - 1) (omega arith) (omega (arith, ints)) in omega (arith, ints);
  }
  fits false false m n u w k l room r = record {
    low = not_below r.low;
    high = let e = r.high in let x = upper m n (omega arith) (omega (arith, ints)) in omega (arith, ints);
  }
  fits false true m n u w k l room r = record {
    low = let x = not_below r.low in omega (arith, ints);
    high = let e = r.high in let x = upper m (n - 1) (omega arith) (omega (arith, ints)) in omega (arith, ints);
  }
  fits true false m n u w k l room r = absurd room

pub room_fits : (s t : Bool) (m n f g : ℕ) (b : ℤ) → 1 ≤ m → 1 ≤ n → f ≤ m → g ≤ n → HasRoom s t (m - f) (n - g) → IsInRange s m b → IsInRange t n (down b f g)
room_fits s t m n f g b = fits b f g (down b f g) ((down_one b f g (down b f g)).1 refl) s t m n

pub width_least : (n : ℕ) → IsNumWidth n → 1 ≤ n
width_least n (inl e) = omega (arith, e)
width_least n (inr (inl e)) = omega (arith, e)
width_least n (inr (inr (inl e))) = omega (arith, e)
width_least n (inr (inr (inr (inl e)))) = omega (arith, e)
width_least n (inr (inr (inr (inr e)))) = omega (arith, e)
