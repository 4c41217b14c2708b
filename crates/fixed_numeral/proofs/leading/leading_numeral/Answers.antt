use Rattle.std.proofs.Common.{◌+◌, arith}
use Rattle.fixed_numeral.proofs.ScanLemmas.{read_byte, room_after, stuck_cause}
use Rattle.fixed_numeral.proofs.LeadingLemmas.{ended, last_more, missing_cause, stuck_past, walked_digits}
use Rattle.fixed_numeral.proofs.leading.leading_numeral.Goals as goal

pub after_digits-state-requires-clause-counts : goal.after_digits-state-requires-clause-counts
after_digits-state-requires-clause-counts g c = omega (arith, room_after c.args.radix c.args.bytes.now c.loop-at.at c.mantissa_digits-count.result c.loop-at.state c.args.steps.now c.loop-at.steps c.loop-at.invariant.read c.mantissa_digits-count.ensures.within, c.mantissa_digits-count.ensures.within)

pub transition-requires-clause-room : goal.transition-requires-clause-room
transition-requires-clause-room g c =
    (walked_digits c.args.radix c.args.bytes.now c.loop-at.at c.mantissa_digits-count.result c.loop-at.last c.last_after_digits-last.result c.loop-at.state c.after_digits-state.result c.args.steps.now c.loop-at.steps c.advance.new.self c.loop-at.invariant c.mantissa_digits-count.ensures.within c.mantissa_digits-count.ensures.digits c.mantissa_digits-count.ensures.separator c.advance.ensures c.after_digits-state.ensures.after c.after_digits-state.ensures.counts c.after_digits-state.ensures.separator c.last_after_digits-last.ensures).read.after.room

pub transition-requires-clause-counts : goal.transition-requires-clause-counts
transition-requires-clause-counts g c =
    let here = (walked_digits c.args.radix c.args.bytes.now c.loop-at.at c.mantissa_digits-count.result c.loop-at.last c.last_after_digits-last.result c.loop-at.state c.after_digits-state.result c.args.steps.now c.loop-at.steps c.advance.new.self c.loop-at.invariant c.mantissa_digits-count.ensures.within c.mantissa_digits-count.ensures.digits c.mantissa_digits-count.ensures.separator c.advance.ensures c.after_digits-state.ensures.after c.after_digits-state.ensures.counts c.after_digits-state.ensures.separator c.last_after_digits-last.ensures).read in
    omega (arith, room_after c.args.radix c.args.bytes.now (c.loop-at.at + c.mantissa_digits-count.result) 1 c.after_digits-state.result c.args.steps.now c.advance.new.self here (omega (arith, c.if-at-bytes.true)), c.if-at-bytes.true)

pub returns-in-Err-clause-leading : goal.returns-in-Err-clause-leading
returns-in-Err-clause-leading g c =
    let at = c.loop-at.at + c.mantissa_digits-count.result in
    let now = walked_digits c.args.radix c.args.bytes.now c.loop-at.at c.mantissa_digits-count.result c.loop-at.last c.last_after_digits-last.result c.loop-at.state c.after_digits-state.result c.args.steps.now c.loop-at.steps c.advance.new.self c.loop-at.invariant c.mantissa_digits-count.ensures.within c.mantissa_digits-count.ensures.digits c.mantissa_digits-count.ensures.separator c.advance.ensures c.after_digits-state.ensures.after c.after_digits-state.ensures.counts c.after_digits-state.ensures.separator c.last_after_digits-last.ensures in
    let here = now.read in
    let why = c.in-Err.ensures _ here.after.parts here.after.beginning here.after.agrees in
    ended c.args.radix c.args.bytes.now at c.last_after_digits-last.result c.in-Err.kind c.passed.result now.is_last here.within
    (stuck_past c.args.radix c.args.bytes.now at here.after.parts c.in-Err.kind c.if-at-bytes.true why)
    (stuck_cause c.args.radix c.args.bytes.now at here.after.parts c.in-Err.kind c.if-at-bytes.true here.after.beginning why)
    c.passed.ensures

pub loop-at-preserved-then-at-bytes : goal.loop-at-preserved-then-at-bytes
loop-at-preserved-then-at-bytes g c =
    let at = c.loop-at.at + c.mantissa_digits-count.result in
    let now = walked_digits c.args.radix c.args.bytes.now c.loop-at.at c.mantissa_digits-count.result c.loop-at.last c.last_after_digits-last.result c.loop-at.state c.after_digits-state.result c.args.steps.now c.loop-at.steps c.advance.new.self c.loop-at.invariant c.mantissa_digits-count.ensures.within c.mantissa_digits-count.ensures.digits c.mantissa_digits-count.ensures.separator c.advance.ensures c.after_digits-state.ensures.after c.after_digits-state.ensures.counts c.after_digits-state.ensures.separator c.last_after_digits-last.ensures in
    let here = now.read in
    let next = read_byte c.args.radix c.args.bytes.now at c.after_digits-state.result c.in-Ok.next c.args.steps.now c.advance.new.self c.tick.new.self here c.if-at-bytes.true (c.in-Ok.ensures _ here.after.parts here.after.beginning here.after.agrees) c.tick.ensures in
    record {
      read = next;
      is_last = last_more c.args.radix c.args.bytes.now at c.last_after_digits-last.result c.last_after-last.result c.in-Ok.next now.is_last next.after c.last_after-last.ensures;
    }

pub loop-at-preserved : goal.loop-at-preserved
loop-at-preserved g c =
    walked_digits c.args.radix c.args.bytes.now c.loop-at.at c.mantissa_digits-count.result c.loop-at.last c.last_after_digits-last.result c.loop-at.state c.after_digits-state.result c.args.steps.now c.loop-at.steps c.advance.new.self c.loop-at.invariant c.mantissa_digits-count.ensures.within c.mantissa_digits-count.ensures.digits c.mantissa_digits-count.ensures.separator c.advance.ensures c.after_digits-state.ensures.after c.after_digits-state.ensures.counts c.after_digits-state.ensures.separator c.last_after_digits-last.ensures

pub returns-in-Err-check_complete-clause-leading : goal.returns-in-Err-check_complete-clause-leading
returns-in-Err-check_complete-clause-leading g c =
    let here = c.loop-at.invariant.read in
    ended c.args.radix c.args.bytes.now c.loop-at.at c.loop-at.last c.in-Err-check_complete.kind c.passed-in-Err-check_complete.result c.loop-at.invariant.is_last here.within
    (λ m lm h. omega (arith, c.loop-at-test.false, lm))
    (missing_cause c.args.radix c.args.bytes.now c.loop-at.at c.loop-at.state c.in-Err-check_complete.kind (omega (arith, c.loop-at-test.false, here.within)) here.after c.in-Err-check_complete.ensures)
    c.passed-in-Err-check_complete.ensures
