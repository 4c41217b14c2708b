use Rattle.std.proofs.Common.{◌≡◌, ℕ, length, ap, arith}
use Rattle.fixed_numeral.specs.Numeral.{base}
use Rattle.fixed_error.specs.Inner.Gap.{greater_part, less_part, sum_of}
use Rattle.fixed_error.specs.Inner.Sums.{Decides}
use Rattle.fixed_error.specs.declared.sums.TextLengths.{TextLengths}
use Rattle.fixed_error.proofs.BoundLemmas.{greater_sum_small, less_sum_small}
use Rattle.fixed_error.proofs.FewLemmas.{few_digits}
use Rattle.fixed_error.proofs.GapLemmas.{greater_error, no_greater_error}
use Rattle.fixed_error.proofs.greater.is_gap_greater.Goals as goal

abbrev one_of : TextLengths → ℕ
one_of t = t.one

abbrev other_of : TextLengths → ℕ
other_of t = t.other

pub is_sum_greater-requires-clause-left : goal.is_sum_greater-requires-clause-left
is_sum_greater-requires-clause-left g c =
    let left = c.gap_of-left_gap.ensures.gap in
    let right = c.gap_of-right_gap.ensures.gap in
    rw (c.sum_of.ensures, c.greater_part.ensures, c.less_part.ensures) (greater_sum_small c.gap_of-left_gap.result c.gap_of-right_gap.result left.unit_small left.whole_small right.unit_small right.whole_small)

pub is_sum_greater-requires-clause-right : goal.is_sum_greater-requires-clause-right
is_sum_greater-requires-clause-right g c =
    let left = c.gap_of-left_gap.ensures.gap in
    let right = c.gap_of-right_gap.ensures.gap in
    rw (c.sum_of-in-Ok-Ok.ensures, c.less_part-in-Ok-Ok.ensures, c.greater_part-in-Ok-Ok.ensures) (less_sum_small c.gap_of-left_gap.result c.gap_of-right_gap.result left.unit_small left.whole_small right.unit_small right.whole_small)

pub is_sum_greater-requires-clause-one : goal.is_sum_greater-requires-clause-one
is_sum_greater-requires-clause-one g c =
    let scanned = rw c.in-Ok-Ok.is-0 at c.scan-one_scanned.ensures.reading.read in
    rw (c.base.ensures, c.fraction_view.ensures) (scanned c.requires.one.parts c.requires.one.numeral).fraction_digits

pub is_sum_greater-requires-clause-other : goal.is_sum_greater-requires-clause-other
is_sum_greater-requires-clause-other g c =
    let scanned = rw c.in-Ok-Ok.is-1 at c.scan-other_scanned.ensures.reading.read in
    rw (c.base.ensures, c.fraction_view-in-Ok-Ok.ensures) (scanned c.requires.other.parts c.requires.other.numeral).fraction_digits

pub is_sum_greater-requires-clause-few_ones : goal.is_sum_greater-requires-clause-few_ones
is_sum_greater-requires-clause-few_ones g c =
    let scanned = rw c.in-Ok-Ok.is-0 at c.scan-one_scanned.ensures.reading.read in
    let long : c.lengths_of.result.one ≡ length c.args.one.now = ap one_of c.lengths_of.ensures in
    rw (c.base.ensures, c.fraction_view.ensures, long) (few_digits c.args.radix c.args.one.now c.requires.one.parts c.in-Ok-Ok.left.neg c.in-Ok-Ok.left.whole c.in-Ok-Ok.left.fraction c.in-Ok-Ok.left.bit_shift c.requires.one.numeral (scanned c.requires.one.parts c.requires.one.numeral))

pub is_sum_greater-requires-clause-few_others : goal.is_sum_greater-requires-clause-few_others
is_sum_greater-requires-clause-few_others g c =
    let scanned = rw c.in-Ok-Ok.is-1 at c.scan-other_scanned.ensures.reading.read in
    let long : c.lengths_of.result.other ≡ length c.args.other.now = ap other_of c.lengths_of.ensures in
    rw (c.base.ensures, c.fraction_view-in-Ok-Ok.ensures, long) (few_digits c.args.radix c.args.other.now c.requires.other.parts c.in-Ok-Ok.right.neg c.in-Ok-Ok.right.whole c.in-Ok-Ok.right.fraction c.in-Ok-Ok.right.bit_shift c.requires.other.numeral (scanned c.requires.other.parts c.requires.other.numeral))

pub returns-clause-greater : goal.returns-clause-greater
returns-clause-greater g c =
    let decided : Decides (base c.args.radix) c.in-Ok-Ok.left.fraction c.in-Ok-Ok.right.fraction (sum_of (greater_part c.gap_of-left_gap.result) (less_part c.gap_of-right_gap.result)) (sum_of (less_part c.gap_of-left_gap.result) (greater_part c.gap_of-right_gap.result)) c.is_sum_greater.result
    = rw (c.base.ensures, c.fraction_view.ensures, c.fraction_view-in-Ok-Ok.ensures, c.sum_of.ensures, c.sum_of-in-Ok-Ok.ensures, c.greater_part.ensures, c.less_part.ensures, c.less_part-in-Ok-Ok.ensures, c.greater_part-in-Ok-Ok.ensures) at c.is_sum_greater.ensures.decides in
    greater_error c.args.mode c.args.radix c.args.frac c.args.one.now c.args.other.now c.in-Ok-Ok.left.fraction c.in-Ok-Ok.right.fraction c.gap_of-left_gap.result c.gap_of-right_gap.result c.is_sum_greater.result c.gap_of-left_gap.ensures.gap c.gap_of-right_gap.ensures.gap decided

pub returns-clause-not : goal.returns-clause-not
returns-clause-not g c =
    let decided : Decides (base c.args.radix) c.in-Ok-Ok.left.fraction c.in-Ok-Ok.right.fraction (sum_of (greater_part c.gap_of-left_gap.result) (less_part c.gap_of-right_gap.result)) (sum_of (less_part c.gap_of-left_gap.result) (greater_part c.gap_of-right_gap.result)) c.is_sum_greater.result
    = rw (c.base.ensures, c.fraction_view.ensures, c.fraction_view-in-Ok-Ok.ensures, c.sum_of.ensures, c.sum_of-in-Ok-Ok.ensures, c.greater_part.ensures, c.less_part.ensures, c.less_part-in-Ok-Ok.ensures, c.greater_part-in-Ok-Ok.ensures) at c.is_sum_greater.ensures.decides in
    no_greater_error c.args.mode c.args.radix c.args.frac c.args.one.now c.args.other.now c.in-Ok-Ok.left.fraction c.in-Ok-Ok.right.fraction c.gap_of-left_gap.result c.gap_of-right_gap.result c.is_sum_greater.result c.gap_of-left_gap.ensures.gap c.gap_of-right_gap.ensures.gap decided

pub returns-clause-cost : goal.returns-clause-cost
returns-clause-cost g c =
    let one : c.lengths_of.result.one ≡ length c.args.one.now = ap one_of c.lengths_of.ensures in
    let other : c.lengths_of.result.other ≡ length c.args.other.now = ap other_of c.lengths_of.ensures in
    omega (arith, c.scan-one_scanned.ensures.cost, c.scan-other_scanned.ensures.cost, c.gap_of-left_gap.ensures.cost, c.gap_of-right_gap.ensures.cost, c.is_sum_greater.ensures.cost)
