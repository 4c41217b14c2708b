use Rattle.std.proofs.Common.{◌≡◌, ◌-◌, ◌^◌, take}
use Rattle.std.specs.Prelude.{min}
use Rattle.fixed_io.specs.Report.{newlines_of}
use Rattle.fixed.proofs.product.newlines_in.Given as goal

abbrev pub invariant-loop-byte : goal.invariant-loop-byte
invariant-loop-byte l = l.count ≡ min (newlines_of (take l.byte-index l.bytes)) (2 ^ 64 - 1)
