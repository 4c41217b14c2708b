use Rattle.std.proofs.Common.{◌≡◌, ◌+◌, ◌-◌, ◌++◌, length}
use Rattle.fixed_pack.specs.Word.{low_bytes}
use Rattle.fixed_pack.proofs.word.push_low.Given as goal

abbrev pub invariant-loop : goal.invariant-loop
invariant-loop g l = record {
  text : l.initial.out ++ low_bytes l.count l.number ≡ l.out ++ low_bytes (l.count - l.counter) l.rest;
  size : length l.out ≡ length l.initial.out + l.counter;
}
