use Rattle.std.proofs.Common.{ap, arith, length, sym, ◌∙◌}
use Rattle.fixed_numeral.proofs.DigitLemmas.{digits_in_none, some_more, none_same}
use Rattle.fixed_numeral.proofs.digit_slice.byte_index_by_search.Goals as goal
use Rattle.fixed_numeral.proofs.digit_slice.byte_index_by_search.Goals.{then-is_some, else-is_some}

pub loop-k-init : goal.loop-k-init
loop-k-init c = record { within = omega arith; counted = ap length digits_in_none }

pub loop-k-preserved : goal.loop-k-preserved
loop-k-preserved c =
    elim c.if-is_some.branch [
      | then-is_some w ↦ record { within = omega arith; counted = some_more c.args.bytes.now c.loop-k.k c.loop-k.seen c.digit_of_byte.result c.digit_of_byte.ensures (sym c.is_some.ensures ∙ w.if-is_some.true) c.loop-k-test.true c.loop-k.invariant.counted ∙ sym w.seen-is }
      | else-is_some w ↦ record { within = omega arith; counted = none_same c.args.bytes.now c.loop-k.k c.loop-k.seen c.digit_of_byte.result c.digit_of_byte.ensures (sym c.is_some.ensures ∙ w.if-is_some.false) c.loop-k-test.true c.loop-k.invariant.counted ∙ sym w.seen-is }
    ]
