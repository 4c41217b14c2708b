use Rattle.std.proofs.Common.{arith}
use Rattle.fixed_respell.specs.Lemmas.LineWordLemmas.{one_fewer}
use Rattle.fixed_constants.proofs.declaration.split_line.Goals as goal

pub returns-in_default-split_once-2 : goal.returns-in_default-split_once-2
returns-in_default-split_once-2 c =
    let first = one_fewer c.args.line.now c.in-Some.name.now c.in-Some.rest.now c.in-Some.ensures in
    let second = one_fewer c.in-Some.rest.now c.in-Some-split_once.equals.now c.in-Some-split_once.rest.now c.in-Some-split_once.ensures in
    omega (arith, c.in_default-split_once-2.ensures, first, second)
