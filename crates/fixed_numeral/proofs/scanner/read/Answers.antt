use Rattle.std.proofs.Common.{◌+◌, arith}
use Rattle.fixed_numeral.proofs.ScanLemmas.{read_digits, read_byte, room_after, stuck_cause}
use Rattle.fixed_numeral.proofs.ExponentLemmas.{read_taken}
use Rattle.fixed_numeral.proofs.scanner.read.Goals as goal

pub after_digits-state-requires-clause-counts : goal.after_digits-state-requires-clause-counts
after_digits-state-requires-clause-counts g c = omega (arith, room_after c.args.radix c.args.bytes.now c.loop-at.at c.mantissa_digits-count.result c.loop-at.state c.args.steps.now c.loop-at.steps c.loop-at.invariant c.mantissa_digits-count.ensures.within, c.mantissa_digits-count.ensures.within)

pub after_exponent_digits-place-requires-clause-room : goal.after_exponent_digits-place-requires-clause-room
after_exponent_digits-place-requires-clause-room g c =
    (read_digits c.args.radix c.args.bytes.now c.loop-at.at c.mantissa_digits-count.result c.loop-at.state c.after_digits-state.result c.args.steps.now c.loop-at.steps c.advance.new.self c.loop-at.invariant c.mantissa_digits-count.ensures.within c.mantissa_digits-count.ensures.digits c.advance.ensures c.after_digits-state.ensures.after).after.room

pub transition-requires-clause-room : goal.transition-requires-clause-room
transition-requires-clause-room g c =
    let digits = read_digits c.args.radix c.args.bytes.now c.loop-at.at c.mantissa_digits-count.result c.loop-at.state c.after_digits-state.result c.args.steps.now c.loop-at.steps c.advance.new.self c.loop-at.invariant c.mantissa_digits-count.ensures.within c.mantissa_digits-count.ensures.digits c.advance.ensures c.after_digits-state.ensures.after in
    (read_taken c.args.radix c.args.bytes.now (c.loop-at.at + c.mantissa_digits-count.result) c.after_exponent_digits-place.result.1 c.after_digits-state.result c.after_exponent_digits-place.result.0 c.args.steps.now c.advance.new.self c.advance-in-loop-at.new.self digits c.after_exponent_digits-place.ensures.place c.after_exponent_digits-place.ensures.within c.after_exponent_digits-place.ensures.after c.advance-in-loop-at.ensures).after.room

pub transition-requires-clause-counts : goal.transition-requires-clause-counts
transition-requires-clause-counts g c =
    let digits = read_digits c.args.radix c.args.bytes.now c.loop-at.at c.mantissa_digits-count.result c.loop-at.state c.after_digits-state.result c.args.steps.now c.loop-at.steps c.advance.new.self c.loop-at.invariant c.mantissa_digits-count.ensures.within c.mantissa_digits-count.ensures.digits c.advance.ensures c.after_digits-state.ensures.after in
    let here = read_taken c.args.radix c.args.bytes.now (c.loop-at.at + c.mantissa_digits-count.result) c.after_exponent_digits-place.result.1 c.after_digits-state.result c.after_exponent_digits-place.result.0 c.args.steps.now c.advance.new.self c.advance-in-loop-at.new.self digits c.after_exponent_digits-place.ensures.place c.after_exponent_digits-place.ensures.within c.after_exponent_digits-place.ensures.after c.advance-in-loop-at.ensures in
    omega (arith, room_after c.args.radix c.args.bytes.now c.after_exponent_digits-place.result.1 1 c.after_exponent_digits-place.result.0 c.args.steps.now c.advance-in-loop-at.new.self here (omega (arith, c.if-at-bytes.true)), c.if-at-bytes.true)

pub returns-in-Err-clause-end : goal.returns-in-Err-clause-end
returns-in-Err-clause-end g c =
    let digits = read_digits c.args.radix c.args.bytes.now c.loop-at.at c.mantissa_digits-count.result c.loop-at.state c.after_digits-state.result c.args.steps.now c.loop-at.steps c.advance.new.self c.loop-at.invariant c.mantissa_digits-count.ensures.within c.mantissa_digits-count.ensures.digits c.advance.ensures c.after_digits-state.ensures.after in
    let here = read_taken c.args.radix c.args.bytes.now (c.loop-at.at + c.mantissa_digits-count.result) c.after_exponent_digits-place.result.1 c.after_digits-state.result c.after_exponent_digits-place.result.0 c.args.steps.now c.advance.new.self c.advance-in-loop-at.new.self digits c.after_exponent_digits-place.ensures.place c.after_exponent_digits-place.ensures.within c.after_exponent_digits-place.ensures.after c.advance-in-loop-at.ensures in
    stuck_cause c.args.radix c.args.bytes.now c.after_exponent_digits-place.result.1 here.after.parts c.in-Err.kind c.if-at-bytes.true here.after.beginning (c.in-Err.ensures _ here.after.parts here.after.beginning here.after.agrees)

pub loop-at-preserved-then-at-bytes : goal.loop-at-preserved-then-at-bytes
loop-at-preserved-then-at-bytes g c =
    let digits = read_digits c.args.radix c.args.bytes.now c.loop-at.at c.mantissa_digits-count.result c.loop-at.state c.after_digits-state.result c.args.steps.now c.loop-at.steps c.advance.new.self c.loop-at.invariant c.mantissa_digits-count.ensures.within c.mantissa_digits-count.ensures.digits c.advance.ensures c.after_digits-state.ensures.after in
    let here = read_taken c.args.radix c.args.bytes.now (c.loop-at.at + c.mantissa_digits-count.result) c.after_exponent_digits-place.result.1 c.after_digits-state.result c.after_exponent_digits-place.result.0 c.args.steps.now c.advance.new.self c.advance-in-loop-at.new.self digits c.after_exponent_digits-place.ensures.place c.after_exponent_digits-place.ensures.within c.after_exponent_digits-place.ensures.after c.advance-in-loop-at.ensures in
    read_byte c.args.radix c.args.bytes.now c.after_exponent_digits-place.result.1 c.after_exponent_digits-place.result.0 c.in-Ok.next c.args.steps.now c.advance-in-loop-at.new.self c.tick.new.self here c.if-at-bytes.true (c.in-Ok.ensures _ here.after.parts here.after.beginning here.after.agrees) c.tick.ensures

pub loop-at-preserved : goal.loop-at-preserved
loop-at-preserved g c =
    let digits = read_digits c.args.radix c.args.bytes.now c.loop-at.at c.mantissa_digits-count.result c.loop-at.state c.after_digits-state.result c.args.steps.now c.loop-at.steps c.advance.new.self c.loop-at.invariant c.mantissa_digits-count.ensures.within c.mantissa_digits-count.ensures.digits c.advance.ensures c.after_digits-state.ensures.after in
    let here = read_taken c.args.radix c.args.bytes.now (c.loop-at.at + c.mantissa_digits-count.result) c.after_exponent_digits-place.result.1 c.after_digits-state.result c.after_exponent_digits-place.result.0 c.args.steps.now c.advance.new.self c.advance-in-loop-at.new.self digits c.after_exponent_digits-place.ensures.place c.after_exponent_digits-place.ensures.within c.after_exponent_digits-place.ensures.after c.advance-in-loop-at.ensures in
    here
