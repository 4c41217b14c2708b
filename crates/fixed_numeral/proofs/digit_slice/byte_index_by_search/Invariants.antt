use Rattle.std.proofs.Common.{◌≡◌, ◌≤◌, length, take}
use Rattle.fixed_numeral.specs.Digits.{digits_in}
use Rattle.fixed_numeral.proofs.digit_slice.byte_index_by_search.Given as goal

abbrev pub invariant-loop-k : goal.invariant-loop-k
invariant-loop-k l = record { within : l.seen ≤ l.i; counted : length (digits_in (take l.k l.bytes)) ≡ l.seen }
