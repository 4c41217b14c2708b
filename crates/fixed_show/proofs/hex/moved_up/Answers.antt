use Rattle.std.proofs.Common.{◌-◌, ◌*◌, arith}
use Rattle.fixed_show.proofs.NibbleLemmas.{moved_word}
use Rattle.fixed_show.proofs.hex.moved_up.Goals as goal

pub returns : goal.returns
returns c = rw c.from.ensures (moved_word c.args.word (64 - 4 * c.args.count) c.ranges.word.fits (omega arith))
