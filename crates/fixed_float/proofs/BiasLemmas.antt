-- A magnitude plus the bias of a mode, divided by an ulp and rounded down, is the magnitude rounded in that mode.
use Rattle.std.proofs.Common.{◌≡◌, ℕ, ◌+◌, ◌-◌, ◌*◌, ◌/◌, ◌%◌, ◌<◌, ◌≤◌, false, ⊎_elim, arith, subst, sym, refl, div-add-mod'}
use Rattle.std.proofs.Math.Nat.{div-eq_of_lt-le, lt-div-mul-add, div-mul-le_self, mod-lt}
use Rattle.std.proofs.lemmas.Bool.{cases_lt}
use Rattle.fixed_bits.proofs.Public.{nearest_by_rest, nearest_by_rest_up}
use Rattle.fixed_bits.specs.Nearest.{IsNearest}
use Rattle.fixed_bits.specs.Rounded.{IsNearestGreater, IsNearestLesser, IsNotAbove, IsNotBelow, IsRounded}
use Rattle.fixed_bits.specs.declared.mode.ReadMode.{ReadMode}
use Rattle.fixed_bits.specs.declared.mode.ReadMode.TheVariants.{NearestEven, TowardsZero, Floor, Ceil}
use Rattle.fixed_bits.specs.declared.mode.ReadMode.TheVariants.{NearestAway, NearestZero, NearestUp, NearestDown}
use Rattle.fixed_bits.specs.declared.mode.ReadMode.TheVariants.{AwayFromZero}
use Rattle.fixed_float.specs.Inner.Bias.{bias, halves, of_odd}

-- an ulp is 2 * h: the sum n + add is at least p ulps and below p + 1
module _ (n h add p : ℕ) (some : 0 < h) (low : p * (2 * h) ≤ n + add) (high : n + add < p * (2 * h) + 2 * h) where
  not_above : add ≡ 0 → IsNotAbove n (2 * h) p
  not_above e = record { at_most = omega (arith, e, low); next = omega (arith, e, high) }

  not_below : add ≡ 2 * h - 1 → IsNotBelow n (2 * h) p
  not_below e = record { at_least = omega (arith, e, high, some); before = omega (arith, e, low, some) }

  greater : add ≡ h → IsNearestGreater n (2 * h) p
  greater e = record { near = omega (arith, e, low, high); tie = λ t. omega (arith, e, low, high, t) }

  lesser : add ≡ h - 1 → IsNearestLesser n (2 * h) p
  lesser e = record { near = omega (arith, e, low, high, some); tie = λ t. omega (arith, e, low, high, some, t) }

-- n rounded to the nearest, ties to even, from its whole ulps q and its rest r
module _ (n h q r odd : ℕ) (some : 0 < h) (sum : n ≡ q * (2 * h) + r) (less : r < 2 * h) (odd_is : odd ≡ q % 2) where
  bit : odd < 2
  bit = omega (arith, odd_is)

  even : IsNearest n (2 * h) ((n + (h + odd - 1)) / (2 * h))
  even = ⊎_elim
      (λ (l : h < r + odd).
      let q_is : (n + (h + odd - 1)) / (2 * h) ≡ q + 1 = div-eq_of_lt-le (2 * h) (omega (arith, sum, l, some)) (omega (arith, sum, less, bit, some)) in
      subst (λ (p : ℕ). IsNearest n (2 * h) p) (sym q_is) (nearest_by_rest_up n (2 * h) q r sum less (omega (arith, l, bit)) (λ t. omega (arith, t, l, odd_is, bit))))
      (λ (l : r + odd ≤ h).
      let q_is : (n + (h + odd - 1)) / (2 * h) ≡ q = div-eq_of_lt-le (2 * h) (omega (arith, sum, some)) (omega (arith, sum, l, some)) in
      subst (λ (p : ℕ). IsNearest n (2 * h) p) (sym q_is) (nearest_by_rest n (2 * h) q r sum (omega (arith, l)) (λ t. omega (arith, t, l, odd_is, bit))))
      (cases_lt h (r + odd))

-- n plus the bias of a mode, divided by an ulp, is n rounded in that mode
pub rounded : (mode : ReadMode) (n h add : ℕ) → 0 < h → add ≡ bias mode h (n / (2 * h) % 2) → IsRounded mode false n (2 * h) ((n + add) / (2 * h))
rounded NearestEven n h add some e =
    let sum : add ≡ h + n / (2 * h) % 2 - 1 = omega (arith, e) in
    subst (λ (a : ℕ). IsNearest n (2 * h) ((n + a) / (2 * h))) (sym sum) (even n h (n / (2 * h)) (n % (2 * h)) (n / (2 * h) % 2) some (sym (div-add-mod' n (2 * h))) (mod-lt n (omega (arith, some))) refl)
rounded Floor n h add some e = not_above n h add ((n + add) / (2 * h)) some (div-mul-le_self (n + add) (2 * h)) (lt-div-mul-add (omega (arith, some))) (omega (arith, e))
rounded TowardsZero n h add some e = not_above n h add ((n + add) / (2 * h)) some (div-mul-le_self (n + add) (2 * h)) (lt-div-mul-add (omega (arith, some))) (omega (arith, e))
rounded Ceil n h add some e = not_below n h add ((n + add) / (2 * h)) some (div-mul-le_self (n + add) (2 * h)) (lt-div-mul-add (omega (arith, some))) (omega (arith, e))
rounded AwayFromZero n h add some e = not_below n h add ((n + add) / (2 * h)) some (div-mul-le_self (n + add) (2 * h)) (lt-div-mul-add (omega (arith, some))) (omega (arith, e))
rounded NearestAway n h add some e = greater n h add ((n + add) / (2 * h)) some (div-mul-le_self (n + add) (2 * h)) (lt-div-mul-add (omega (arith, some))) (omega (arith, e))
rounded NearestUp n h add some e = greater n h add ((n + add) / (2 * h)) some (div-mul-le_self (n + add) (2 * h)) (lt-div-mul-add (omega (arith, some))) (omega (arith, e))
rounded NearestZero n h add some e = lesser n h add ((n + add) / (2 * h)) some (div-mul-le_self (n + add) (2 * h)) (lt-div-mul-add (omega (arith, some))) (omega (arith, e))
rounded NearestDown n h add some e = lesser n h add ((n + add) / (2 * h)) some (div-mul-le_self (n + add) (2 * h)) (lt-div-mul-add (omega (arith, some))) (omega (arith, e))

-- the bias of a mode is at most an ulp, or an ulp and 1 before `less` is subtracted
pub bias_most : (mode : ReadMode) (h odd : ℕ) → odd < 2 → h * halves mode + odd * of_odd mode ≤ 2 * h + 1
bias_most NearestEven h odd bit = omega (arith, bit)
bias_most Floor h odd bit = omega (arith, bit)
bias_most Ceil h odd bit = omega (arith, bit)
bias_most TowardsZero h odd bit = omega (arith, bit)
bias_most NearestAway h odd bit = omega (arith, bit)
bias_most NearestZero h odd bit = omega (arith, bit)
bias_most NearestUp h odd bit = omega (arith, bit)
bias_most NearestDown h odd bit = omega (arith, bit)
bias_most AwayFromZero h odd bit = omega (arith, bit)
