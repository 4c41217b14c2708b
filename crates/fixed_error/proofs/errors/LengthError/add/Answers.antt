use Rattle.std.proofs.Common.{◌≤◌, ◌+◌, ◌^◌, ◌∙◌, ap, arith}
use Rattle.std.specs.Prelude.{max}
use Rattle.fixed_error.proofs.ErrorsLemmas.{nothing_greater, one_more_error, rest_moved, within_moved}
use Rattle.fixed_error.proofs.RestLemmas.{parts_most, power_within}
use Rattle.fixed_error.proofs.errors.LengthError.add.Goals as goal

pub is_surely_within-requires-clause-one : goal.is_surely_within-requires-clause-one
is_surely_within-requires-clause-one g c = let one = c.requires.rest.one in omega (arith, one, parts_most c.args.self.now.greatest.radix)

pub is_surely_within-requires-clause-slack : goal.is_surely_within-requires-clause-slack
is_surely_within-requires-clause-slack g c =
    let f = c.args.self.now.greatest.frac in
    let most = c.requires.known.1.is_greatest.greatest.frac in
    let few = c.requires.rest.few in
    let m : 2 ^ (f + 3) ≤ 2 ^ 67 = power_within 2 (f + 3) 67 (omega arith) (omega (arith, most)) in
    omega (arith, few, m)

pub returns-then-is_surely_within-clause-added : goal.returns-then-is_surely_within-clause-added
returns-then-is_surely_within-clause-added g c = λ r f entries h.
    let old = c.args.self.now.greatest in
    nothing_greater r f entries c.args.self.now c.args.place c.args.numeral.now c.args.rest
    (within_moved old.radix r old.frac f c.args.numeral.now h.is_greatest.radix h.is_greatest.frac c.requires.within)
    (rest_moved old.radix r old.frac f c.args.numeral.now c.args.rest h.is_greatest.radix h.is_greatest.frac c.requires.rest)
    (c.is_surely_within.ensures.some c.if-is_surely_within.true) (c.is_surely_within.ensures.within c.if-is_surely_within.true) h

pub returns-clause-added : goal.returns-clause-added
returns-clause-added g c = λ r f entries h.
    let old = c.args.self.now.greatest in
    let added = c.in_ok-add.ensures in
    one_more_error r f entries c.args.self.now c.args.place c.args.numeral.now c.args.rest c.add.new.self c.max-self.result c.bound_of-self.result
    (within_moved old.radix r old.frac f c.args.numeral.now h.is_greatest.radix h.is_greatest.frac c.requires.within)
    (rest_moved old.radix r old.frac f c.args.numeral.now c.args.rest h.is_greatest.radix h.is_greatest.frac c.requires.rest)
    added.radix added.frac added.mode added.some (added.one_more entries) added.not_below added.not_less
    (c.max-self.ensures ∙ ap (λ l. max c.args.self.now.least l) c.least_of.ensures) c.bound_of-self.ensures.within h
