use Rattle.std.proofs.Common.{◌%◌, [], ◌∷◌, length, ap, arith, length-append}
use Rattle.fixed_pack.proofs.WordLemmas.{pushed_all, pushed_more, pushed_none}
use Rattle.fixed_pack.proofs.word.push_low.Goals as goal

pub loop-init : goal.loop-init
loop-init g c = record { text = pushed_none c.args.out.now c.args.count c.args.number; size = omega arith }

pub loop-preserved : goal.loop-preserved
loop-preserved g c =
    let inv = c.loop.invariant in
    record {
      text = pushed_more c.args.out.now c.loop.out c.push.new.self c.args.count c.args.number c.loop.counter c.loop.rest c.loop-test.true inv.text c.push.ensures;
      size = omega (arith, inv.size, ap length c.push.ensures, length-append c.loop.out (c.loop.rest % 256 ∷ []));
    }

pub returns-clause-appended : goal.returns-clause-appended
returns-clause-appended g c = pushed_all c.args.out.now c.loop.out c.args.count c.args.number c.loop.counter c.loop.rest c.loop-test.false c.loop.invariant.text
