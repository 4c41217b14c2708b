use Rattle.std.proofs.Common.{arith}
use Rattle.fixed_error.proofs.GapLemmas.{around, gap_found}
use Rattle.fixed_error.proofs.gap.gap_of.Goals as goal

pub overflow_sub-rounded : goal.overflow_sub-rounded
overflow_sub-rounded g c = (around c.args.mode c.args.radix c.args.frac c.args.text.now c.steps_in-below.result c.steps_in-rounded.result c.requires.within c.steps_in-below.ensures.rounded c.steps_in-rounded.ensures.rounded).least

pub whole_of-requires-clause-more : goal.whole_of-requires-clause-more
whole_of-requires-clause-more g c = let a = around c.args.mode c.args.radix c.args.frac c.args.text.now c.steps_in-below.result c.steps_in-rounded.result c.requires.within c.steps_in-below.ensures.rounded c.steps_in-rounded.ensures.rounded in omega (arith, a.most)

pub returns-clause-gap : goal.returns-clause-gap
returns-clause-gap g c = gap_found c.args.mode c.args.radix c.args.frac c.args.text.now c.args.found.now.neg c.args.found.now.whole c.args.found.now.fraction c.args.found.now.bit_shift c.steps_in-below.result c.steps_in-rounded.result c.power_of_two-unit.result c.whole_of.result c.requires.within c.requires.frac c.requires.bits c.requires.scanned
    (around c.args.mode c.args.radix c.args.frac c.args.text.now c.steps_in-below.result c.steps_in-rounded.result c.requires.within c.steps_in-below.ensures.rounded c.steps_in-rounded.ensures.rounded) (rw c.bit_shift.ensures at c.power_of_two-unit.ensures) c.whole_of.ensures
