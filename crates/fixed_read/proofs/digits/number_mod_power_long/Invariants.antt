use Rattle.std.proofs.Common.{◌-◌, ◌^◌, ◌<◌, length, drop}
use Rattle.fixed_read.proofs.NumberLemmas.{Trailing}
use Rattle.fixed_read.proofs.digits.number_mod_power_long.Given as goal

abbrev pub invariant-loop-rest : goal.invariant-loop-rest
invariant-loop-rest g l = Trailing l.base (2 ^ l.width) (drop (length l.fn.view - l.width) l.fn.view) l.rest l.low (l.width < length l.fn.view) l.over l.fn.steps l.steps

abbrev pub decreases-loop-rest : goal.decreases-loop-rest
decreases-loop-rest g l = length l.rest
