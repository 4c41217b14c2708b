use Rattle.std.proofs.Common.{◌≡◌, ◌*◌, ◌^◌, ◌<◌, ◌∙◌, ℕ, ℤ, ◌-ℤ◌, Bool, FitsSigned, ap, rules}
use Rattle.std.specs.Prelude.{unsigned_abs}
use Rattle.std.specs.Int.{w128, is_negative}
use Rattle.std.proofs.lemmas.Int.{to_z-of_z}
use Rattle.fixed_bits.specs.Numbers.{with_sign}
use Rattle.fixed_show.proofs.BoundLemmas.{both_within, moved_within, ten_times, two_times, value_within}
use Rattle.fixed_show.proofs.DifferenceLemmas.{ulps_decimal}
use Rattle.fixed_show.proofs.ulps.exact_ulps.Goals as goal

pub scale-requires-clause-room : goal.scale-requires-clause-room
scale-requires-clause-room c =
    let m : ℕ = c.magnitude_of.result in
    let k : ℕ = c.args.numeral.now.places in
    let word : m < 2 ^ 64 = search rules in
    rw c.natural_of-value.ensures (value_within (m * 10 ^ k) (ten_times m k word c.requires.places))

pub scale-requires-2-clause-room : goal.scale-requires-2-clause-room
scale-requires-2-clause-room c =
    let n : ℕ = c.args.numeral.now.number in
    rw c.same-other.ensures (moved_within (n * 2 ^ c.args.frac) (two_times n c.args.frac c.requires.small c.requires.frac))

pub signed_difference-number-requires : goal.signed_difference-number-requires
signed_difference-number-requires c =
    let m : ℕ = c.magnitude_of.result in
    let n : ℕ = c.args.numeral.now.number in
    let k : ℕ = c.args.numeral.now.places in
    let word : m < 2 ^ 64 = search rules in
    let value : c.scale.new.number ≡ m * 10 ^ k = rw c.natural_of-value.ensures at c.scale.ensures in
    let other : c.scale-2.new.number ≡ n * 2 ^ c.args.frac = rw c.same-other.ensures at c.scale-2.ensures in
    rw (value, other) (both_within (m * 10 ^ k) (n * 2 ^ c.args.frac) (ten_times m k word c.requires.places) (two_times n c.args.frac c.requires.small c.requires.frac))

pub returns-clause-ulps : goal.returns-clause-ulps
returns-clause-ulps c = λ r p numeral.
    let b : ℤ = c.args.bits in
    let fit : FitsSigned w128 b = search rules in
    let n : ℕ = c.args.numeral.now.number in
    let k : ℕ = c.args.numeral.now.places in
    let m = c.signed_difference-number.result.0 in
    let neg : Bool = c.signed_difference-number.result.1 in
    let magnitude : c.magnitude_of.result ≡ unsigned_abs b = rw (to_z-of_z w128 b fit) at c.magnitude_of.ensures in
    let sign : c.is_less_than_zero-is_below.result ≡ is_negative b = rw (to_z-of_z w128 b fit) at c.is_less_than_zero-is_below.ensures in
    let first : c.scale.new.number ≡ c.magnitude_of.result * 10 ^ k = rw c.natural_of-value.ensures at c.scale.ensures in
    let value : c.scale.new.number ≡ unsigned_abs b * 10 ^ k = first ∙ ap (λ (t : ℕ). t * 10 ^ k) magnitude in
    let other : c.scale-2.new.number ≡ n * 2 ^ c.args.frac = rw c.same-other.ensures at c.scale-2.ensures in
    let difference : with_sign neg m ≡ with_sign (is_negative b) c.scale.new.number -ℤ with_sign c.args.numeral.now.is_negative c.scale-2.new.number = rw sign at c.signed_difference-number.ensures.value in
    ulps_decimal r p c.args.frac b n k c.scale.new.number c.scale-2.new.number m c.args.numeral.now.is_negative neg numeral value other difference c.signed_difference-number.ensures.sign
