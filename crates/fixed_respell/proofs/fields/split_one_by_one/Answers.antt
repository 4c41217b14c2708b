use Rattle.std.proofs.Common.{arith}
use Rattle.fixed_respell.specs.Lemmas.LineWordLemmas.{one_fewer}
use Rattle.fixed_respell.proofs.fields.split_one_by_one.Goals as goal

pub returns-in_default-split_once-2 : goal.returns-in_default-split_once-2
returns-in_default-split_once-2 c =
    omega (
      arith,
      c.in_default-split_once-2.ensures,
      one_fewer c.args.line.now c.in-Some.radix.now c.in-Some.rest.now c.in-Some.ensures,
      one_fewer c.in-Some.rest.now c.in-Some-split_once.source.now c.in-Some-split_once.rest.now c.in-Some-split_once.ensures,
    )

pub returns-in_default-split_once-3 : goal.returns-in_default-split_once-3
returns-in_default-split_once-3 c =
    omega (
      arith,
      c.in_default-split_once-3.ensures,
      one_fewer c.args.line.now c.in-Some.radix.now c.in-Some.rest.now c.in-Some.ensures,
      one_fewer c.in-Some.rest.now c.in-Some-split_once.source.now c.in-Some-split_once.rest.now c.in-Some-split_once.ensures,
      one_fewer c.in-Some-split_once.rest.now c.in-Some-split_once-2.target.now c.in-Some-split_once-2.rest.now c.in-Some-split_once-2.ensures,
    )
