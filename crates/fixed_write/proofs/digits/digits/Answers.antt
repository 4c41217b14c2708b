use Rattle.std.proofs.Common.{ℕ, ◌^◌, ◌<◌, arith}
use Rattle.std.specs.Int.Digits.{AllBelowBase}
use Rattle.fixed_write.specs.Inner.Lanes.{pairs_of}
use Rattle.fixed_write.proofs.LaneLemmas.{bytes_of}
use Rattle.fixed_write.proofs.digits.digits.Goals as goal

small : (n : ℕ) → n < 10 ^ 16 → AllBelowBase 100 (pairs_of n)
small n h = omega arith

pub returns : goal.returns
returns c = rw c.pairs-pairs.ensures (bytes_of (pairs_of c.args.number) (small c.args.number c.requires))
