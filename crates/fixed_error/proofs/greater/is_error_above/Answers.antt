use Rattle.std.proofs.Common.{◌≡◌, ◌↔◌, ℕ, ◌+◌, ◌^◌, [], length, IsTrue, Bool, true, false, sym, ap, ◌∙◌}
use Rattle.std.proofs.lemmas.Bool.{false≢true}
use Rattle.fixed_numeral.specs.Numeral.{base}
use Rattle.fixed_error.specs.Inner.Gap.{greater_part, less_part, sum_of}
use Rattle.fixed_error.specs.Inner.Sums.{Decides}
use Rattle.fixed_error.specs.declared.sums.TextLengths.{TextLengths}
use Rattle.fixed_error.proofs.BoundLemmas.{error_above, error_within, small_bound, whole_bound}
use Rattle.fixed_error.proofs.FewLemmas.{few_digits}
use Rattle.fixed_error.proofs.GapLemmas.{shift_small}
use Rattle.fixed_error.proofs.greater.is_error_above.Goals as goal

-- from the result of a test to what it decides
empty : (b : Bool) (A : Type 0) → (IsTrue b ↔ A) → b ≡ true → A
empty b A h e = h.0 e

not_empty : (b : Bool) (A : Type 0) → (IsTrue b ↔ A) → b ≡ false → A → ⊥
not_empty b A h e a = false≢true (sym e ∙ h.1 a)

pub bound_part-requires-clause-bits : goal.bound_part-requires-clause-bits
bound_part-requires-clause-bits g c =
    let scanned = rw c.in-Ok-Ok.is-1 at c.scan-bound_scanned.ensures.reading.read in
    (scanned c.requires.bound.0 c.requires.bound.1).small

pub is_sum_greater-requires-clause-right : goal.is_sum_greater-requires-clause-right
is_sum_greater-requires-clause-right g c =
    let scanned = rw c.in-Ok-Ok.is-1 at c.scan-bound_scanned.ensures.reading.read in
    rw (c.sum_of-in-Ok-Ok.ensures, c.less_part.ensures, c.bound_part.ensures) (small_bound c.gap_of-gap.result (c.args.frac + c.in-Ok-Ok.right.bit_shift) c.gap_of-gap.ensures.gap.unit_small c.gap_of-gap.ensures.gap.whole_small (shift_small c.args.radix c.args.frac c.in-Ok-Ok.right.bit_shift c.requires.frac (scanned c.requires.bound.0 c.requires.bound.1).small))

pub is_sum_greater-requires-clause-one : goal.is_sum_greater-requires-clause-one
is_sum_greater-requires-clause-one g c =
    let scanned = rw c.in-Ok-Ok.is-0 at c.scan-text_scanned.ensures.reading.read in
    rw (c.base.ensures, c.fraction_view.ensures) (scanned c.requires.within.parts c.requires.within.numeral).fraction_digits

pub is_sum_greater-requires-clause-other : goal.is_sum_greater-requires-clause-other
is_sum_greater-requires-clause-other g c =
    let scanned = rw c.in-Ok-Ok.is-1 at c.scan-bound_scanned.ensures.reading.read in
    rw (c.base.ensures, c.fraction_view-in-Ok-Ok.ensures) (scanned c.requires.bound.0 c.requires.bound.1).fraction_digits

abbrev one_of : TextLengths → ℕ
one_of t = t.one

abbrev other_of : TextLengths → ℕ
other_of t = t.other

pub is_sum_greater-requires-clause-few_ones : goal.is_sum_greater-requires-clause-few_ones
is_sum_greater-requires-clause-few_ones g c =
    let scanned = rw c.in-Ok-Ok.is-0 at c.scan-text_scanned.ensures.reading.read in
    let long : c.lengths_of.result.one ≡ length c.args.text.now = ap one_of c.lengths_of.ensures in
    rw (c.base.ensures, c.fraction_view.ensures, long) (few_digits c.args.radix c.args.text.now c.requires.within.parts c.in-Ok-Ok.left.neg c.in-Ok-Ok.left.whole c.in-Ok-Ok.left.fraction c.in-Ok-Ok.left.bit_shift c.requires.within.numeral (scanned c.requires.within.parts c.requires.within.numeral))

pub is_sum_greater-requires-clause-few_others : goal.is_sum_greater-requires-clause-few_others
is_sum_greater-requires-clause-few_others g c =
    let scanned = rw c.in-Ok-Ok.is-1 at c.scan-bound_scanned.ensures.reading.read in
    let long : c.lengths_of.result.other ≡ length c.args.bound.now = ap other_of c.lengths_of.ensures in
    rw (c.base.ensures, c.fraction_view-in-Ok-Ok.ensures, long) (few_digits c.args.radix c.args.bound.now c.requires.bound.0 c.in-Ok-Ok.right.neg c.in-Ok-Ok.right.whole c.in-Ok-Ok.right.fraction c.in-Ok-Ok.right.bit_shift c.requires.bound.1 (scanned c.requires.bound.0 c.requires.bound.1))

pub returns-then-not-is_empty-clause-not : goal.returns-then-not-is_empty-clause-not
returns-then-not-is_empty-clause-not g c = λ _.
    let scanned = rw c.in-Ok-Ok.is-1 at c.scan-bound_scanned.ensures.reading.read in
    whole_bound c.args.mode c.args.radix c.args.frac c.args.text.now c.args.bound.now c.in-Ok-Ok.right.neg c.in-Ok-Ok.right.whole c.in-Ok-Ok.right.fraction c.in-Ok-Ok.right.bit_shift c.requires.within c.requires.bound scanned
    (not_empty c.is_empty.result (c.in-Ok-Ok.right.whole ≡ []) (rw c.whole_view.ensures at c.is_empty.ensures) c.if-not-is_empty.true)

pub returns-clause-above : goal.returns-clause-above
returns-clause-above g c =
    let scanned = rw c.in-Ok-Ok.is-1 at c.scan-bound_scanned.ensures.reading.read in
    let decided : Decides (base c.args.radix) c.in-Ok-Ok.left.fraction c.in-Ok-Ok.right.fraction (sum_of (greater_part c.gap_of-gap.result) (record { whole = 0; factor = 0 })) (sum_of (less_part c.gap_of-gap.result) (record { whole = 0; factor = 2 ^ (c.args.frac + c.in-Ok-Ok.right.bit_shift) })) c.is_sum_greater.result
    = rw (c.base.ensures, c.fraction_view.ensures, c.fraction_view-in-Ok-Ok.ensures, c.sum_of.ensures, c.sum_of-in-Ok-Ok.ensures, c.greater_part.ensures, c.less_part.ensures, c.nothing.ensures, c.bound_part.ensures) at c.is_sum_greater.ensures.decides in
    error_above c.args.mode c.args.radix c.args.frac c.args.text.now c.args.bound.now c.in-Ok-Ok.left.fraction c.in-Ok-Ok.right.fraction c.gap_of-gap.result c.in-Ok-Ok.right.neg c.in-Ok-Ok.right.whole c.in-Ok-Ok.right.bit_shift c.is_sum_greater.result c.gap_of-gap.ensures.gap c.requires.bound scanned (empty c.is_empty.result (c.in-Ok-Ok.right.whole ≡ []) (rw c.whole_view.ensures at c.is_empty.ensures) c.if-not-is_empty.false) decided

pub returns-clause-not : goal.returns-clause-not
returns-clause-not g c =
    let scanned = rw c.in-Ok-Ok.is-1 at c.scan-bound_scanned.ensures.reading.read in
    let decided : Decides (base c.args.radix) c.in-Ok-Ok.left.fraction c.in-Ok-Ok.right.fraction (sum_of (greater_part c.gap_of-gap.result) (record { whole = 0; factor = 0 })) (sum_of (less_part c.gap_of-gap.result) (record { whole = 0; factor = 2 ^ (c.args.frac + c.in-Ok-Ok.right.bit_shift) })) c.is_sum_greater.result
    = rw (c.base.ensures, c.fraction_view.ensures, c.fraction_view-in-Ok-Ok.ensures, c.sum_of.ensures, c.sum_of-in-Ok-Ok.ensures, c.greater_part.ensures, c.less_part.ensures, c.nothing.ensures, c.bound_part.ensures) at c.is_sum_greater.ensures.decides in
    error_within c.args.mode c.args.radix c.args.frac c.args.text.now c.args.bound.now c.in-Ok-Ok.left.fraction c.in-Ok-Ok.right.fraction c.gap_of-gap.result c.in-Ok-Ok.right.neg c.in-Ok-Ok.right.whole c.in-Ok-Ok.right.bit_shift c.is_sum_greater.result c.gap_of-gap.ensures.gap c.requires.bound scanned (empty c.is_empty.result (c.in-Ok-Ok.right.whole ≡ []) (rw c.whole_view.ensures at c.is_empty.ensures) c.if-not-is_empty.false) decided
