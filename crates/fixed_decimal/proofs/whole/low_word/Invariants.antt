use Rattle.std.proofs.Common.{◌-◌, ◌<◌, length, drop}
use Rattle.fixed_decimal.proofs.WholeLemmas.{Trailing}
use Rattle.fixed_decimal.proofs.whole.low_word.Given as goal

abbrev pub invariant-loop-rest : goal.invariant-loop-rest
invariant-loop-rest g l = Trailing (drop (length l.fn.view - 64) l.fn.view) l.rest l.low (64 < length l.fn.view) l.over l.fn.steps l.steps

abbrev pub decreases-loop-rest : goal.decreases-loop-rest
decreases-loop-rest g l = length l.rest
