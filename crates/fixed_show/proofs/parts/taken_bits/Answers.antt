use Rattle.std.proofs.Common.{◌<◌, ◌^◌, arith, subst, sym}
use Rattle.fixed_show.specs.PartText.{AreBits}
use Rattle.fixed_show.proofs.PartLemmas.{none_above}
use Rattle.fixed_show.proofs.parts.taken_bits.Goals as goal

pub returns-in-Some-2 : goal.returns-in-Some-2
returns-in-Some-2 c =
    let small : c.args.word < 2 ^ 64 = omega (arith, c.ranges.word) in
    subst (λ low. AreBits low c.args.format.width c.args.word 0) (sym c.in-Some.is) (none_above c.args.word c.in-Some.low (2 ^ c.args.format.width) small c.if-low-lt64.false)
