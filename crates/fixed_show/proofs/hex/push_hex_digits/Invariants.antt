use Rattle.std.proofs.Common.{◌≡◌, ◌≤◌, ◌+◌, ◌-◌, ◌++◌, ◌⊎◌, false, length}
use Rattle.fixed_write.specs.Texts.{last_digits}
use Rattle.fixed_show.proofs.hex.push_hex_digits.Given as goal

abbrev pub invariant-loop-left : goal.invariant-loop-left
invariant-loop-left g l = record {
  text : l.out ≡ l.initial.out ++ last_digits 16 false (l.count - l.left) 0;
  size : length l.out + l.left ≡ length l.initial.out + l.count;
  within : l.left ≤ l.count;
  many : (l.left ≡ l.count) ⊎ (16 ≤ l.left);
}

abbrev pub decreases-loop-left : goal.decreases-loop-left
decreases-loop-left g l = l.left
