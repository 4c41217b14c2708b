use Rattle.std.proofs.Common.{◌≡◌, rules}
use Rattle.std.proofs.lemmas.Bool.{ltb-false, ltb-true}
use Rattle.fixed_bits.specs.declared.mode.ReadMode.TheVariants.{NearestEven}
use Rattle.fixed_error.proofs.WordLemmas.{near_greater, near_no_greater}
use Rattle.fixed_error.proofs.greater.is_error_greater.Goals as goal

pub returns-in-Some-near_parts-clause-greater : goal.returns-in-Some-near_parts-clause-greater
returns-in-Some-near_parts-clause-greater g c = λ is.
    let a = c.in-Some.near in
    let b = c.in-Some-near_parts.other_near in
    let nearest : c.args.mode ≡ NearestEven = search rules in
    near_greater c.args.mode c.args.radix c.args.frac c.args.one.now c.args.other.now a b nearest c.requires.one c.requires.other c.in-Some.ensures.near c.in-Some-near_parts.ensures.near (ltb-true b a is)

pub returns-in-Some-near_parts-clause-not : goal.returns-in-Some-near_parts-clause-not
returns-in-Some-near_parts-clause-not g c = λ is.
    let a = c.in-Some.near in
    let b = c.in-Some-near_parts.other_near in
    let nearest : c.args.mode ≡ NearestEven = search rules in
    near_no_greater c.args.mode c.args.radix c.args.frac c.args.one.now c.args.other.now a b nearest c.requires.one c.requires.other c.in-Some.ensures.near c.in-Some-near_parts.ensures.near (ltb-false b a is)
