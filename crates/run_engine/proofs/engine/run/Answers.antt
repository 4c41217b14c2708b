use Rattle.std.proofs.Common.{◌≡◌, ◌++◌, ◌+◌, true, false, [], Ok, take, arith, length-append, length-take}
use Rattle.std.proofs.lemmas.Grind.{common_steps}
use Rattle.run_engine.specs.Seen.{moment}
use Rattle.line_engine.proofs.Public.{so_far_more, so_far_none, so_far_within}
use Rattle.run_engine.proofs.RunLemmas.{asked_on, come_none, ends, goes_on, ready, ready_end}
use Rattle.run_engine.proofs.engine.run.Goals as goal

pub loop-taken-init : goal.loop-taken-init
loop-taken-init g c = record {
  come = come_none (g.M.Machine.Makes c.args.machine.now) c.args.limit c.args.machine.now
      (moment (g.I.Streams.seen c.args.out.now.io) c.args.out.now.text c.args.steps.now) c.requires.text c.requires.fresh;
  asked = so_far_none c.args.limit (g.I.Streams.seen c.args.out.now.io).asked;
}

pub returns-in-Ok-eq0 : goal.returns-in-Ok-eq0
returns-in-Ok-eq0 g c =
    let Makes = g.M.Machine.Makes c.args.machine.now in
    let limit = c.args.limit in
    let a = moment (g.I.Streams.seen c.args.out.now.io) c.args.out.now.text c.args.steps.now in
    let b = g.I.Streams.seen c.loop-taken.out.io in
    let d = g.I.Streams.seen c.read_prefix.new.io in
    let held = c.loop-taken.out.text in
    let steps = c.loop-taken.steps in
    let come = c.loop-taken.invariant.come in
    let reads = c.in-Ok-eq0.ensures.reads in
    let none : c.in-Ok-eq0.field-0 ≡ 0 = grind (arith, common_steps, c.in-Ok-eq0.field-0-test) in
    ends Makes limit come.text come.spent (take limit come.bytes) [] come.bytes a (moment d held steps)
    (ready_end Makes limit c.loop-taken.taken c.in-Ok-eq0.field-0 c.read_prefix.new.chunk c.loop-taken.machine a b d held steps come c.loop-taken-test.true none reads.bytes reads.failures.same reads.sink)
    c.end_input.new.machine (moment (g.I.Streams.seen c.end_input.new.out.io) c.end_input.new.out.text c.end_input.new.steps)
    true (λ _. (reads.end none, omega (arith, come.count, c.loop-taken-test.true)))
    (so_far_within limit (c.loop-taken.taken + c.in-Ok-eq0.field-0) a.seen.asked d.asked (so_far_more limit c.loop-taken.taken c.next_room-room.result a.seen.asked b.asked d.asked (Ok c.in-Ok-eq0.field-0) c.next_room-room.ensures.chunk c.next_room-room.ensures.within c.loop-taken.invariant.asked reads.asked))
    c.end_input.result (c.end_input.ensures c.args.machine.now (take limit come.bytes) come.text come.spent come.makes)

pub returns-in-Err-feed_chunk : goal.returns-in-Err-feed_chunk
returns-in-Err-feed_chunk g c =
    let Makes = g.M.Machine.Makes c.args.machine.now in
    let limit = c.args.limit in
    let a = moment (g.I.Streams.seen c.args.out.now.io) c.args.out.now.text c.args.steps.now in
    let b = g.I.Streams.seen c.loop-taken.out.io in
    let d = g.I.Streams.seen c.read_prefix.new.io in
    let held = c.loop-taken.out.text in
    let steps = c.loop-taken.steps in
    let come = c.loop-taken.invariant.come in
    let reads = c.in-Ok.ensures.reads in
    let buf = c.read_prefix.new.chunk in
    ends Makes limit come.text come.spent (take limit come.bytes) (take c.min-within.result buf) (come.bytes ++ take c.in-Ok.count buf) a (moment d held steps)
    (ready Makes limit c.loop-taken.taken c.next_room-room.result c.in-Ok.count c.min-within.result buf c.loop-taken.machine a b d held steps come c.loop-taken-test.true c.in-Ok.ensures.bound c.next_room-room.ensures.within c.min-within.ensures reads.bytes reads.failures.same reads.sink)
    c.feed_chunk.new.machine (moment (g.I.Streams.seen c.feed_chunk.new.out.io) c.feed_chunk.new.out.text c.feed_chunk.new.steps)
    false (λ no. absurd cc)
    (so_far_within limit (c.loop-taken.taken + c.in-Ok.count) a.seen.asked d.asked (so_far_more limit c.loop-taken.taken c.next_room-room.result a.seen.asked b.asked d.asked (Ok c.in-Ok.count) c.next_room-room.ensures.chunk c.next_room-room.ensures.within c.loop-taken.invariant.asked reads.asked))
    c.in-Err-feed_chunk.end (c.in-Err-feed_chunk.ensures c.args.machine.now (take limit come.bytes) come.text come.spent come.makes)

pub loop-taken-preserved : goal.loop-taken-preserved
loop-taken-preserved g c =
    let Makes = g.M.Machine.Makes c.args.machine.now in
    let limit = c.args.limit in
    let a = moment (g.I.Streams.seen c.args.out.now.io) c.args.out.now.text c.args.steps.now in
    let b = g.I.Streams.seen c.loop-taken.out.io in
    let d = g.I.Streams.seen c.read_prefix.new.io in
    let e = g.I.Streams.seen c.feed_chunk.new.out.io in
    let held = c.loop-taken.out.text in
    let steps = c.loop-taken.steps in
    let come = c.loop-taken.invariant.come in
    let reads = c.in-Ok.ensures.reads in
    let buf = c.read_prefix.new.chunk in
    let fed = c.in-Ok-feed_chunk.ensures c.args.machine.now (take limit come.bytes) come.text come.spent come.makes in
    record {
      come = goes_on Makes limit come.text come.spent (take limit come.bytes) (take c.min-within.result buf) (come.bytes ++ take c.in-Ok.count buf) a (moment d held steps)
          (ready Makes limit c.loop-taken.taken c.next_room-room.result c.in-Ok.count c.min-within.result buf c.loop-taken.machine a b d held steps come c.loop-taken-test.true c.in-Ok.ensures.bound c.next_room-room.ensures.within c.min-within.ensures reads.bytes reads.failures.same reads.sink)
          c.feed_chunk.new.machine (moment e c.feed_chunk.new.out.text c.feed_chunk.new.steps) (c.loop-taken.taken + c.in-Ok.count) fed.0 fed.1
          (grind (arith, common_steps, come.count, length-append come.bytes (take c.in-Ok.count buf), length-take c.in-Ok.count buf, c.in-Ok.ensures.bound, c.next_room-room.ensures.within));
      asked = asked_on limit (c.loop-taken.taken + c.in-Ok.count) a.seen.asked d.asked e.asked fed.0.puts.source.asked
          (so_far_more limit c.loop-taken.taken c.next_room-room.result a.seen.asked b.asked d.asked (Ok c.in-Ok.count) c.next_room-room.ensures.chunk c.next_room-room.ensures.within c.loop-taken.invariant.asked reads.asked);
    }

pub end_input-requires-clause-known : goal.end_input-requires-clause-known
end_input-requires-clause-known g c = let come = c.loop-taken.invariant.come in (c.args.machine.now, take c.args.limit come.bytes, come.text, come.spent, come.makes)

pub feed_chunk-requires-clause-known : goal.feed_chunk-requires-clause-known
feed_chunk-requires-clause-known g c = let come = c.loop-taken.invariant.come in (c.args.machine.now, take c.args.limit come.bytes, come.text, come.spent, come.makes)
