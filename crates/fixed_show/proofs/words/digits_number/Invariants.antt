use Rattle.std.proofs.Common.{take}
use Rattle.fixed_numeral.specs.Numeral.{base}
use Rattle.fixed_show.proofs.WordLemmas.{HasNumber}
use Rattle.fixed_show.proofs.words.digits_number.Given as goal

abbrev pub invariant-loop-byte : goal.invariant-loop-byte
invariant-loop-byte l = HasNumber (base l.radix) (take l.byte-index l.bytes) l.number 18446744073709551616
