use Rattle.std.proofs.Common.{◌≡◌, ◌+◌, ◌<◌, ◌++◌, [], Global, List, Vec, ap, subst, sym, ◌∙◌, arith, nat_lt, refl, ℕ}
use Rattle.std.proofs.lemmas.Bool.{ltb-false, ltb-true}
use Rattle.fixed_bits.specs.Formats.{FormatParts}
use Rattle.fixed_bits.specs.Ranges.{IsWidth}
use Rattle.fixed_numeral.specs.Numeral.{IsNumeral}
use Rattle.fixed_fit.specs.Fitting.{Choice, choice, frac_lengths}
use Rattle.fixed_fit.specs.declared.lengths.Lengths.{Lengths}
use Rattle.fixed_fit.specs.Inner.Serving.{AreFew, HasServing, HaveRoom, IsBestOf, most_left}
use Rattle.fixed_fit.specs.Within.{IsErrorWithin, IsHalfWithin, IsTried, most_width}
use Rattle.fixed_fit.specs.declared.serving.Serving.{Serving}
use Rattle.fixed_fit.proofs.ServingLemmas.{IsCovered, covered_all, covered_more, covered_past, fresh_few, fresh_most, none_covered, starts}
use Rattle.fixed_fit.proofs.serving.Serving.new.Goals as goal
use Rattle.fixed_fit.proofs.serving.Serving.new.Goals.{then-is_tried+in_ok-push, else-is_tried}

pub loop-width-init : goal.loop-width-init
loop-width-init c = subst (λ (l : List Lengths). IsCovered (choice c.args.signed c.args.question.now.fractions) c.args.widths c.width-one.result 1 l) (sym c.new-lengths.ensures.items) (none_covered (choice c.args.signed c.args.question.now.fractions) c.args.widths c.width-one.result)

pub loop-width-preserved : goal.loop-width-preserved
loop-width-preserved c =
    let width = c.loop-width.width in
    let at : IsWidth width = record { some = let from = c.loop-width.auto.width in omega (arith, from); most = let less = c.loop-width-test.true in omega (arith, less) } in
    elim c.if-is_tried.branch [
      | then-is_tried+in_ok-push w ↦ covered_more (choice c.args.signed c.args.question.now.fractions) c.args.widths c.width-one.result width c.loop-width.lengths.items c.if-is_tried.lengths.items w.all_lengths.result
          (ap (λ (v : Vec Lengths Global). v.items) w.lengths-is ∙ w.in_ok-push.ensures.items)
          at (c.is_tried.ensures.0 w.if-is_tried.true)
          (ap (λ (k : FormatParts). k.signed) w.all_lengths.ensures.kind ∙ w.of-kind.ensures.signed)
          (ap (λ (k : FormatParts). k.width) w.all_lengths.ensures.kind ∙ w.of-kind.ensures.width)
          (w.all_lengths.ensures.all ∙ ap (λ (k : FormatParts). frac_lengths c.args.question.now.fractions k.width) (sym w.all_lengths.ensures.kind))
          w.all_lengths.ensures.few w.all_lengths.ensures.place
          c.loop-width.invariant
      | else-is_tried w ↦ subst (λ (v : Vec Lengths Global). IsCovered (choice c.args.signed c.args.question.now.fractions) c.args.widths c.width-one.result (width + 1) v.items) (sym w.lengths-is)
          (covered_past (choice c.args.signed c.args.question.now.fractions) c.args.widths c.width-one.result width c.loop-width.lengths.items (λ (t : IsTried c.args.widths c.width-one.result width). let yes = c.is_tried.ensures.1 t in let no = w.if-is_tried.false in cc) c.loop-width.invariant)
    ]

pub least_room-room-requires : goal.least_room-room-requires
least_room-room-requires c = subst (λ (l : List Lengths). AreFew l) (sym c.deref.ensures.value) (fresh_few (choice c.args.signed c.args.question.now.fractions) c.loop-width.lengths.items c.loop-width.invariant.fresh)

pub returns-clause-kept : goal.returns-clause-kept
returns-clause-kept c =
    let inv = c.loop-width.invariant in
    let q = c.args.question.now in
    let bound = c.extend_from_slice.new.self in
    let low = c.args.low in
    let widths = c.args.widths in
    let which : Choice = choice c.args.signed q.fractions in
    let one = c.width-one.result in
    let wide : IsWidth one = subst IsWidth (sym c.width-one.ensures.width) c.width-one.ensures.valid.is_width in
    let all : ℕ = c.frac_lengths.result in
    let count : all ≡ frac_lengths q.fractions (most_width widths one) = c.frac_lengths.ensures.count ∙ ap (λ (n : ℕ). frac_lengths q.fractions n) c.most_width.ensures.most in
    let same_lengths = c.deref-2.ensures.value in
    let same : bound.items ≡ c.args.bound.now = c.in_ok-extend_from_slice.ensures.items ∙ ap (λ (l : List ℕ). l ++ c.args.bound.now) c.new-text.ensures.items in
    let v : Serving = record { bound = bound; lengths = c.loop-width.lengths; signed = c.args.signed; room = c.least_room-room.result; low = low; half = c.args.half; place = 0; is_range = q.is_range; is_served = nat_lt low c.frac_lengths.result; width = c.served_width-width.result; raised = 0 } in
    let here : HasServing q.is_range q.radix which widths one [] v = starts q.is_range q.radix which widths one v refl refl refl wide
    (subst (λ (l : List ℕ). IsNumeral q.radix l) (sym same) c.requires.numeral)
    (λ less. subst (λ (l : List ℕ). IsHalfWithin q.radix c.args.half l) (sym same) (c.requires.half less))
    refl (subst (λ (l : List Lengths). HaveRoom c.least_room-room.result l) c.deref.ensures.value c.least_room-room.ensures)
    (covered_all which widths one c.loop-width.width c.loop-width.lengths.items wide c.loop-width-test.false inv)
    inv.fresh
    (λ less. subst (λ (l : List ℕ). IsErrorWithin q.is_range q.radix low l []) (sym same) (c.requires.within less))
    (λ f less. subst (λ (l : List ℕ). ¬ IsErrorWithin q.is_range q.radix f l []) (sym same) (c.requires.least f less))
    (λ on. let order = ltb-true low all on in omega (arith, order, count))
    (λ over. let order = ltb-false low all over in omega (arith, order, count))
    (λ on. let b = c.served_width-width.ensures on in (b.0, subst (λ (l : List Lengths). IsBestOf low l b.0) same_lengths b.1, b.2)) in
    subst (λ (n : ℕ). HasServing q.is_range q.radix which widths n [] v) c.width-one.ensures.width here

pub served_width-width-requires : goal.served_width-width-requires
served_width-width-requires c = λ on.
    let q = c.args.question.now in
    let widths = c.args.widths in
    let one = c.width-one.result in
    let which : Choice = choice c.args.signed q.fractions in
    let wide : IsWidth one = subst IsWidth (sym c.width-one.ensures.width) c.width-one.ensures.valid.is_width in
    let inv = c.loop-width.invariant in
    let all : ℕ = c.frac_lengths.result in
    let count : all ≡ frac_lengths q.fractions (most_width widths one) = c.frac_lengths.ensures.count ∙ ap (λ (n : ℕ). frac_lengths q.fractions n) c.most_width.ensures.most in
    let most = fresh_most which widths one c.loop-width.lengths.items (covered_all which widths one c.loop-width.width c.loop-width.lengths.items wide c.loop-width-test.false inv) inv.fresh in
    let order = ltb-true c.args.low all on in
    subst (λ (l : List Lengths). c.args.low < most_left l) (sym c.deref-2.ensures.value) (omega (arith, most, order, count))
