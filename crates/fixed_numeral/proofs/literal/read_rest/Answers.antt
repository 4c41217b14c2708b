use Rattle.std.proofs.Common.{arith}
use Rattle.fixed_numeral.proofs.LiteralScanLemmas.{literal_nothing, literal_more, literal_all, literal_fits_at, stuck_rest}
use Rattle.fixed_numeral.proofs.literal.read_rest.Goals as goal

pub loop-b-init : goal.loop-b-init
loop-b-init g c = record { after = literal_nothing c.args.radix c.start-state.result c.start-state.ensures; cost = omega arith }

pub literal_byte-requires-clause-counts : goal.literal_byte-requires-clause-counts
literal_byte-requires-clause-counts g c =
    let few = literal_fits_at c.args.radix c.args.bytes.now c.loop-b.b-index c.loop-b.state c.loop-b-test.true c.loop-b.invariant.after in
    omega (arith, few, c.loop-b-test.true)

pub loop-b-preserved : goal.loop-b-preserved
loop-b-preserved g c =
    let now = c.loop-b.invariant.after in
    record {
      after = literal_more c.args.radix c.args.bytes.now c.loop-b.b-index c.in-Ok.next c.loop-b-test.true (c.in-Ok.ensures _ now.parts now.beginning now.agrees);
      cost = omega (arith, c.tick.ensures, c.loop-b.invariant.cost);
    }

pub returns-in-Err-clause-end : goal.returns-in-Err-clause-end
returns-in-Err-clause-end g c =
    let now = c.loop-b.invariant.after in
    stuck_rest c.args.radix c.args.bytes.now c.loop-b.b-index now.parts c.in-Err.kind c.loop-b-test.true now.beginning (c.in-Err.ensures _ now.parts now.beginning now.agrees)

pub returns-clause-end : goal.returns-clause-end
returns-clause-end g c = literal_all c.args.radix c.args.bytes.now c.loop-b.b-index c.loop-b.state (omega arith) c.loop-b.invariant.after
