use Rattle.std.proofs.Common.{◌^◌, ◌<◌, arith}
use Rattle.fixed_error.proofs.HalfLemmas.{none_before}
use Rattle.fixed_error.proofs.half.next_length.Goals as goal

pub returns-clause-none : goal.returns-clause-none
returns-clause-none c = λ f order below less.
    let small : c.moved_up.result < 2 ^ 64 = omega (arith, c.moved_up.type_inv) in
    none_before c.args.lengths c.moved_up.result c.args.from f small c.moved_up.ensures order below less
