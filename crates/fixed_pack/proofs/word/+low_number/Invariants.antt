use Rattle.std.proofs.Common.{length}
use Rattle.fixed_pack.proofs.word.+low_number.Given as goal

abbrev pub decreases-low_number : goal.decreases-low_number
decreases-low_number l = length l.bytes.now
