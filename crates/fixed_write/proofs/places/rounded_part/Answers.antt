use Rattle.std.proofs.Common.{Bool, true, false, ◌≡◌, ℕ, ◌+◌, ◌*◌, ◌%◌, ◌^◌, ◌<◌, ◌≤◌, ⊎_elim, ap, arith, ◌∙◌, refl, subst, sym}
use mir.Val.{bool_byte}
use Rattle.fixed_bits.specs.Nearest.{IsNearest}
use Rattle.fixed_bits.specs.Rounded.{IsRounded}
use Rattle.fixed_bits.specs.declared.mode.ReadMode.{ReadMode}
use Rattle.fixed_bits.specs.declared.mode.ReadMode.TheVariants.{NearestEven}
use Rattle.fixed_bits.proofs.Public.{rounded_exact, rounded_unique}
use Rattle.fixed_write.proofs.NearLemmas.{split_scaled, scaled_below, nearest_by_half, tells_one, even_product}
use Rattle.fixed_write.proofs.places.rounded_part.Goals as goal
use Rattle.fixed_write.proofs.places.rounded_part.Goals.{then-scale-eq1, else-scale-eq1, in-NearestEven, in_default}

regrouped : (above scale number more : ℕ) → above * scale + number + more ≡ above * scale + (number + more)
regrouped above scale number more = omega arith

to_even : (mode : ReadMode) (num den q : ℕ) → mode ≡ NearestEven → IsNearest num den q → IsRounded mode false num den q
to_even mode num den q is near = rw is near

one_bit : (b : Bool) → bool_byte b ≤ 1
one_bit true = omega arith
one_bit false = omega arith

pub returns-clause-to : goal.returns-clause-to
returns-clause-to c =
    let number : ℕ = c.scaled-number.result.0 in
    let left : ℕ = c.scaled-number.result.1 in
    let up : ℕ = c.match-mode.up in
    let whole : ℕ = c.args.above * c.args.scale + number in
    let tells : whole % 2 ≡ c.if-scale-eq1.last % 2 = elim c.if-scale-eq1.branch [
      | then-scale-eq1 w ↦ tells_one c.args.rest c.args.scale c.args.above c.scaled-number.result.0 c.ranges.rest.fits w.if-scale-eq1.true c.scaled-number.ensures.whole ∙ ap (λ x. x % 2) (sym w.last-is)
      | else-scale-eq1 w ↦ ⊎_elim (λ a. absurd (w.if-scale-eq1.false a)) (λ b. even_product c.args.above c.args.scale c.scaled-number.result.0 b ∙ ap (λ x. x % 2) (sym w.last-is)) c.requires.even
    ] in
    let small : left < 2 ^ 64 = omega (arith, c.scaled-number.ensures.rest) in
    let more : IsRounded c.args.mode false (whole * 2 ^ 64 + left) (2 ^ 64) (whole + up) = elim c.match-mode.branch [
      | in-NearestEven w ↦ rw w.up-is (to_even c.args.mode _ _ _ w.in-NearestEven.is (nearest_by_half whole left c.if-scale-eq1.last w.is_raised.result small tells w.is_raised.ensures))
      | in_default w ↦ rw w.up-is (w.rounding_increment-up.ensures.to whole left (2 ^ 64) (omega arith) tells w.lost_fraction_of.ensures)
    ] in
    let split = split_scaled c.args.above c.args.rest c.args.scale number left c.scaled-number.ensures.whole c.scaled-number.ensures.rest in
    subst (λ (n : ℕ). IsRounded c.args.mode false ((c.args.above * 2 ^ 64 + c.args.rest) * c.args.scale) (2 ^ 64) n) (regrouped c.args.above c.args.scale number up)
    (subst (λ (n : ℕ). IsRounded c.args.mode false n (2 ^ 64) (whole + up)) (sym split) more)

pub returns-clause-most : goal.returns-clause-most
returns-clause-most c =
    let up : c.match-mode.up ≤ 1 = elim c.match-mode.branch [
      | in-NearestEven w ↦ rw w.up-is (one_bit w.is_raised.result)
      | in_default w ↦ omega (arith, w.up-is, w.rounding_increment-up.ensures.most)
    ] in
    omega (arith, up, scaled_below c.args.rest c.args.scale c.scaled-number.result.0 c.ranges.rest.fits c.requires.scale c.scaled-number.ensures.whole)

pub returns-clause-none : goal.returns-clause-none
returns-clause-none c none =
    let mode = c.args.mode in
    let last : ℕ = c.if-scale-eq1.last in
    let up : ℕ = c.match-mode.up in
    let left : ℕ = c.scaled-number.result.1 in
    let product : c.args.rest * c.args.scale ≡ 0 = rw none (omega arith) in
    let number : c.scaled-number.result.0 ≡ 0 = omega (arith, c.scaled-number.ensures.whole) in
    let nothing : left ≡ 0 = omega (arith, c.scaled-number.ensures.rest) in
    let more : IsRounded mode false (last * 2 ^ 64 + left) (2 ^ 64) (last + up) = elim c.match-mode.branch [
      | in-NearestEven w ↦ rw w.up-is (to_even mode _ _ _ w.in-NearestEven.is (nearest_by_half last left last w.is_raised.result (omega arith) refl w.is_raised.ensures))
      | in_default w ↦ rw w.up-is (w.rounding_increment-up.ensures.to last left (2 ^ 64) (omega arith) refl w.lost_fraction_of.ensures)
    ] in
    let plain : last * 2 ^ 64 + left ≡ last * 2 ^ 64 = omega arith in
    let whole = subst (λ (n : ℕ). IsRounded mode false n (2 ^ 64) (last + up)) plain more in
    let same : last + up ≡ last = rounded_unique mode false (last * 2 ^ 64) (2 ^ 64) (last + up) last (omega arith) whole (rounded_exact mode false last (2 ^ 64) (omega arith)) in
    omega arith
