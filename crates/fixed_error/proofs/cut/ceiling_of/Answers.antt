use Rattle.std.proofs.Common.{◌*◌, ◌<◌, arith}
use Rattle.fixed_error.proofs.CutLemmas.{ceiled, divided, quotient_less, quotient_most, rest_below}
use Rattle.fixed_error.proofs.cut.ceiling_of.Goals as goal

pub returns-then-rest-eq0-clause-whole : goal.returns-then-rest-eq0-clause-whole
returns-then-rest-eq0-clause-whole c =
    let all = divided c.args.unit c.args.high c.args.low c.args.one (omega (arith, c.requires.high)) in
    omega (arith, all, c.if-rest-eq0.true)

pub returns-then-rest-eq0-clause-small : goal.returns-then-rest-eq0-clause-small
returns-then-rest-eq0-clause-small c =
    let all = divided c.args.unit c.args.high c.args.low c.args.one (omega (arith, c.requires.high)) in
    quotient_most c.args.unit c.args.high c.args.low c.args.one _ _ c.requires.high c.requires.low all

pub overflow_add-result : goal.overflow_add-result
overflow_add-result c =
    let all = divided c.args.unit c.args.high c.args.low c.args.one (omega (arith, c.requires.high)) in
    let most = quotient_most c.args.unit c.args.high c.args.low c.args.one _ _ c.requires.high c.requires.low all in
    omega (arith, most, c.requires.unit)

pub returns-clause-whole : goal.returns-clause-whole
returns-clause-whole c =
    let one = c.args.one in
    let some : 0 < one = omega (arith, c.requires.high) in
    ceiled _ (one * one) _ _ (rest_below _ one some) (divided c.args.unit c.args.high c.args.low one some)

pub returns-clause-small : goal.returns-clause-small
returns-clause-small c =
    let all = divided c.args.unit c.args.high c.args.low c.args.one (omega (arith, c.requires.high)) in
    let less = quotient_less c.args.unit c.args.high c.args.low c.args.one _ _ c.requires.high c.requires.low (omega (arith, c.if-rest-eq0.false)) all in
    omega (arith, less)
