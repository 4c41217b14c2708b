use Rattle.std.proofs.Common.{ℕ, ◌-◌, ◌*◌, ◌/◌, ◌^◌, ◌<◌, ◌≤◌, arith, subst, div-add-mod', mod-lt}
use Rattle.std.proofs.Math.Nat.{one-le-pow, pow-le-pow_right}
use Rattle.fixed_read.proofs.short_numeral.fraction_decimal.Goals as goal

pub invariant_of-result : goal.invariant_of-result
invariant_of-result c =
    let least : 16 ≤ c.args.down = omega arith in
    let power : 10 ^ 16 ≤ 10 ^ c.args.down = pow-le-pow_right (omega arith) least in
    let below : c.args.digits < 10 ^ c.args.down = omega (arith, power, c.requires) in
    record { room = omega arith; below = rw c.from.ensures below; few = omega arith }

pub nonzero_div-whole : goal.nonzero_div-whole
nonzero_div-whole c = rw c.power_of_ten-power.ensures (one-le-pow c.args.down 10 (omega arith))

pub invariant_of-result-2 : goal.invariant_of-result-2
invariant_of-result-2 c =
    let some : 0 < c.power_of_ten-power.result = rw c.power_of_ten-power.ensures (one-le-pow c.args.down 10 (omega arith)) in
    let rest : c.args.digits - c.args.digits / c.power_of_ten-power.result * c.power_of_ten-power.result < c.power_of_ten-power.result = omega (arith, div-add-mod' c.args.digits c.power_of_ten-power.result, mod-lt c.args.digits some) in
    record {
      room = omega (arith, c.requires);
      below = rw c.from-2.ensures (subst {A = ℕ} (λ x. c.args.digits - c.args.digits / c.power_of_ten-power.result * c.power_of_ten-power.result < x) c.power_of_ten-power.ensures rest);
      few = omega arith;
    }
