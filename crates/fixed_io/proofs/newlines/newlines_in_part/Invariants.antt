use Rattle.std.proofs.Common.{◌≡◌, take}
use Rattle.fixed_io.specs.Report.{newlines_of}
use Rattle.fixed_io.proofs.newlines.newlines_in_part.Given as goal

abbrev pub invariant-loop-byte : goal.invariant-loop-byte
invariant-loop-byte l = l.found ≡ newlines_of (take l.byte-index l.part)
