use Rattle.std.proofs.Common.{◌≡◌, ◌-◌, length, take}
use Rattle.fixed_respell.specs.Split.{count_of}
use Rattle.fixed_respell.proofs.split.split_once.Given as goal

-- no byte so far is the wanted one
abbrev pub invariant-loop-at : goal.invariant-loop-at
invariant-loop-at l = count_of l.wanted (take l.at l.bytes) ≡ 0

abbrev pub decreases-loop-at : goal.decreases-loop-at
decreases-loop-at l = length l.bytes - l.at
