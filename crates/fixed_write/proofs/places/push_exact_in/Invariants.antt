use Rattle.std.proofs.Common.{◌-◌, ◌+◌, length}
use Rattle.fixed_write.proofs.BlockLemmas.{Exactly}
use Rattle.fixed_write.proofs.places.push_exact_in.Given as goal

abbrev pub invariant-digits : goal.invariant-digits
invariant-digits g l = Exactly g.row.BASE l.upper l.fn.value.rest l.initial.out l.out l.left

abbrev pub decreases-digits : goal.decreases-digits
decreases-digits g l = length l.initial.out + 64 - length l.out
