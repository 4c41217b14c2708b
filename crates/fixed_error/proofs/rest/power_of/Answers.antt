use Rattle.std.proofs.Common.{◌≡◌, ◌≤◌, ◌*◌, ◌^◌, ◌∙◌, sym, subst, arith}
use Rattle.fixed_numeral.specs.Numeral.{base}
use Rattle.fixed_error.specs.Errors.{block}
use Rattle.fixed_error.proofs.RestLemmas.{hex_power, oct_power, power_within}
use Rattle.fixed_error.proofs.rest.power_of.Goals as goal

pub returns-in-Bin-clause-small : goal.returns-in-Bin-clause-small
returns-in-Bin-clause-small c =
    let h : c.args.count ≤ 60 = subst (λ r. c.args.count ≤ block r) c.in-Bin.is c.requires in
    let m : 2 ^ c.args.count ≤ 2 ^ 60 = power_within 2 c.args.count 60 (omega arith) h in
    omega (arith, c.power_of_two.ensures, m)

pub returns-in-Oct-clause-value : goal.returns-in-Oct-clause-value
returns-in-Oct-clause-value c = subst (λ r. c.power_of_two-in-Oct.result ≡ base r ^ c.args.count) (sym c.in-Oct.is) (c.power_of_two-in-Oct.ensures ∙ oct_power c.args.count)

pub returns-in-Oct-clause-small : goal.returns-in-Oct-clause-small
returns-in-Oct-clause-small c =
    let h : c.args.count ≤ 20 = subst (λ r. c.args.count ≤ block r) c.in-Oct.is c.requires in
    let m : 2 ^ (3 * c.args.count) ≤ 2 ^ 60 = power_within 2 (3 * c.args.count) 60 (omega arith) (omega (arith, h)) in
    omega (arith, c.power_of_two-in-Oct.ensures, m)

pub returns-in-Dec-clause-small : goal.returns-in-Dec-clause-small
returns-in-Dec-clause-small c =
    let h : c.args.count ≤ 18 = subst (λ r. c.args.count ≤ block r) c.in-Dec.is c.requires in
    let m : 10 ^ c.args.count ≤ 10 ^ 18 = power_within 10 c.args.count 18 (omega arith) h in
    omega (arith, c.from.ensures, c.power_of_ten.ensures, m)

pub returns-in-Hex-clause-value : goal.returns-in-Hex-clause-value
returns-in-Hex-clause-value c = subst (λ r. c.power_of_two-in-Hex.result ≡ base r ^ c.args.count) (sym c.in-Hex.is) (c.power_of_two-in-Hex.ensures ∙ hex_power c.args.count)

pub returns-in-Hex-clause-small : goal.returns-in-Hex-clause-small
returns-in-Hex-clause-small c =
    let h : c.args.count ≤ 15 = subst (λ r. c.args.count ≤ block r) c.in-Hex.is c.requires in
    let m : 2 ^ (4 * c.args.count) ≤ 2 ^ 60 = power_within 2 (4 * c.args.count) 60 (omega arith) (omega (arith, h)) in
    omega (arith, c.power_of_two-in-Hex.ensures, m)
