use Rattle.std.proofs.Common.{◌≡◌, ◌<◌, ◌≤◌, ℕ, take, get_or}
use Rattle.fixed_c.specs.Numbers.{format_of}
use Rattle.fixed_c.specs.Rows.{ConvertsRow, refused_of}
use Rattle.fixed_c.specs.declared.number.FixedNumber.{FixedNumber}
use Rattle.fixed_c.proofs.rows.convert_each.Given as goal

abbrev pub invariant-loop-i : goal.invariant-loop-i
invariant-loop-i l = record {
  each : (d : FixedNumber) (k : ℕ) → k < l.i → ConvertsRow l.bits (format_of l.conversion.source.is_signed l.conversion.source.width l.conversion.source.frac) (format_of l.conversion.target.is_signed l.conversion.target.width l.conversion.target.frac) l.conversion.policy l.conversion.mode k (get_or l.out k d) (get_or l.codes k 0);
  counted : l.refused ≡ refused_of (take l.i l.codes);
  few : l.refused ≤ l.i;
}
