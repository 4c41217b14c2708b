use Rattle.std.proofs.Common.{length}
use Rattle.fixed_pack.proofs.word.+high_number.Given as goal

abbrev pub decreases-high_number : goal.decreases-high_number
decreases-high_number l = length l.bytes.now
