use Rattle.std.proofs.Common.{◌++◌, take, length, arith, refl, sym, ap, ◌∙◌, subst}
use Rattle.std.proofs.KnownBytes.{Consumes-nil, Consumes-trans}
use Rattle.std.specs.Io.KnownBytes.{Consumes}
use Rattle.line_engine.proofs.AskedLemmas.{so_far_none}
use Rattle.line_engine.proofs.TakenLemmas.{short_enough}
use Rattle.line_engine.proofs.whole.Whole.fill_within.Goals as goal

pub loop-taken-init : goal.loop-taken-init
loop-taken-init g c = record {
  same = refl;
  consumed = subst (Consumes (g.S.Source.left c.args.source.now) (g.S.Source.left c.args.source.now)) (sym c.requires.empty) (Consumes-nil (g.S.Source.left c.args.source.now));
  count = sym (ap length c.requires.empty);
  bound = omega arith;
  asked = so_far_none c.args.limit (g.S.Source.asked c.args.source.now);
}

pub returns-in-Err-append-clause-err : goal.returns-in-Err-append-clause-err
returns-in-Err-append-clause-err g c =
    let inv = c.loop-taken.invariant in
    let count = c.in-Ok.count in
    let chunk = c.read_prefix.new.chunk in (
      record {
        bytes = c.loop-taken.self ++ take count chunk;
        taken = Consumes-trans (g.S.Source.left c.args.source.now) (g.S.Source.left c.loop-taken.source) (g.S.Source.left c.read_prefix.new.source) c.loop-taken.self (take count chunk) inv.consumed c.in-Ok.ensures.bytes;
        bound = short_enough c.loop-taken.self chunk c.loop-taken.taken count c.next_room-room.result c.args.limit inv.count c.in-Ok.ensures.bound c.next_room-room.ensures.within;
      },
      c.in-Ok.ensures.failures.same ∙ inv.same,
    )
