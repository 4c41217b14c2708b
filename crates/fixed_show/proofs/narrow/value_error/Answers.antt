use Rattle.std.proofs.Common.{◌≡◌, ◌-◌, ◌*◌, ◌^◌, ◌≤◌, ◌∙◌, ℕ, ℤ, ◌-ℤ◌, Bool, FitsSigned, ap, arith, rules}
use Rattle.std.specs.Prelude.{unsigned_abs}
use Rattle.std.specs.Int.{w128, is_negative}
use Rattle.std.proofs.lemmas.Int.{to_z-of_z}
use Rattle.fixed_bits.specs.Numbers.{with_sign}
use Rattle.fixed_show.proofs.BoundLemmas.{value_is}
use Rattle.fixed_show.proofs.DifferenceLemmas.{error_decimal}
use Rattle.fixed_show.proofs.narrow.value_error.Goals as goal

pub returns : goal.returns
returns c = record {
  error = λ r p numeral.
      let b : ℤ = c.args.bits in
      let fit : FitsSigned w128 b = search rules in
      let f : ℕ = c.args.frac in
      let n : ℕ = c.args.numeral.number in
      let k : ℕ = c.args.numeral.places in
      let kk : ℕ = c.max-places.result in
      let nn : Bool = c.args.numeral.is_negative in
      let m : ℕ = c.difference-number.result.0 in
      let neg : Bool = c.difference-number.result.1 in
      let a : ℕ = c.in_ok-value.value in
      let o : ℕ = c.in_ok-other.other in
      let magnitude : c.magnitude_of.result ≡ unsigned_abs b = rw (to_z-of_z w128 b fit) at c.magnitude_of.ensures in
      let sign : c.is_less_than_zero.result ≡ is_negative b = rw (to_z-of_z w128 b fit) at c.is_less_than_zero.ensures in
      let within : k ≤ kk = omega (arith, c.max-places.ensures) in
      let above : f ≤ kk = omega (arith, c.max-places.ensures) in
      let fives : c.in_ok-fives.fives ≡ unsigned_abs b * 5 ^ f = c.in_ok-fives.ensures.value ∙ ap (λ t. t * 5 ^ f) (c.from.ensures ∙ magnitude) in
      let product : a ≡ unsigned_abs b * 5 ^ f * 10 ^ (kk - f) = c.in_ok-value.ensures.value ∙ ap (λ t. t * 10 ^ (kk - f)) fives in
      let value : a * 2 ^ f ≡ unsigned_abs b * 10 ^ kk = value_is (unsigned_abs b) f kk a above product in
      let difference : with_sign neg m ≡ with_sign (is_negative b) a -ℤ with_sign nn o = rw sign at c.difference-number.ensures.value in
      error_decimal r p f b n k a o m kk nn neg numeral within value c.in_ok-other.ensures.value difference c.difference-number.ensures.sign;
}
