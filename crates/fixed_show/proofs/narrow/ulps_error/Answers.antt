use Rattle.std.proofs.Common.{◌≡◌, ◌*◌, ◌^◌, ◌∙◌, ℕ, ℤ, ◌-ℤ◌, Bool, FitsSigned, ap, rules}
use Rattle.std.specs.Prelude.{unsigned_abs}
use Rattle.std.specs.Int.{w128, is_negative}
use Rattle.std.proofs.lemmas.Int.{to_z-of_z}
use Rattle.fixed_bits.specs.Numbers.{with_sign}
use Rattle.fixed_show.proofs.DifferenceLemmas.{ulps_decimal}
use Rattle.fixed_show.proofs.narrow.ulps_error.Goals as goal

pub returns : goal.returns
returns c = record {
  error = λ r p numeral.
      let b : ℤ = c.args.bits in
      let fit : FitsSigned w128 b = search rules in
      let n : ℕ = c.args.numeral.number in
      let k : ℕ = c.args.numeral.places in
      let nn : Bool = c.args.numeral.is_negative in
      let m : ℕ = c.difference-number.result.0 in
      let neg : Bool = c.difference-number.result.1 in
      let a : ℕ = c.in_ok-value.value in
      let o : ℕ = c.in_ok-other.other in
      let magnitude : c.magnitude_of.result ≡ unsigned_abs b = rw (to_z-of_z w128 b fit) at c.magnitude_of.ensures in
      let sign : c.is_less_than_zero.result ≡ is_negative b = rw (to_z-of_z w128 b fit) at c.is_less_than_zero.ensures in
      let value : a ≡ unsigned_abs b * 10 ^ k = c.in_ok-value.ensures.value ∙ ap (λ t. t * 10 ^ k) (c.from.ensures ∙ magnitude) in
      let difference : with_sign neg m ≡ with_sign (is_negative b) a -ℤ with_sign nn o = rw sign at c.difference-number.ensures.value in
      ulps_decimal r p c.args.frac b n k a o m nn neg numeral value c.in_ok-other.ensures.value difference c.difference-number.ensures.sign;
}
