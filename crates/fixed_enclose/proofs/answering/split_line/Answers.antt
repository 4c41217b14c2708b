use Rattle.std.proofs.Common.{arith}
use Rattle.fixed_respell.specs.Lemmas.LineWordLemmas.{one_fewer}
use Rattle.fixed_enclose.proofs.answering.split_line.Goals as goal

pub returns-in_default-split_once : goal.returns-in_default-split_once
returns-in_default-split_once c =
    omega (
      arith,
      c.in_default-split_once.ensures,
      one_fewer c.args.line.now c.in-Some.radix.now c.in-Some.rest.now c.in-Some.ensures,
    )
