use Rattle.std.proofs.Common.{eqb, take, arith, length-take-le}
use Rattle.std.specs.Int.{w8}
use Rattle.std.proofs.lemmas.Simd.{bitmask_splat}
use Rattle.fixed_respell.proofs.MaskLemmas.{sixteen_bits}
use Rattle.fixed_respell.proofs.fields.spaces_of_sixteen.Goals as goal

pub returns-clause-mask : goal.returns-clause-mask
returns-clause-mask c = bitmask_splat w8 eqb (take 16 c.args.bytes.now) 16 32 (length-take-le 16 c.args.bytes.now c.requires) (omega arith)

pub returns-clause-below : goal.returns-clause-below
returns-clause-below c = sixteen_bits c.args.bytes.now _ c.requires (returns-clause-mask c)
