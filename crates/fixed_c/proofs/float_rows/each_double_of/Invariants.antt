use Rattle.std.proofs.Common.{◌≡◌, ◌<◌, ◌≤◌, ℕ, take, get_or}
use Rattle.fixed_c.specs.Floats.{DoubleRow}
use Rattle.fixed_c.specs.Numbers.{format_of}
use Rattle.fixed_c.specs.Rows.{refused_of}
use Rattle.fixed_c.proofs.float_rows.each_double_of.Given as goal

abbrev pub invariant-loop-i : goal.invariant-loop-i
invariant-loop-i l = record {
  each : (d : ℕ) (k : ℕ) → k < l.i → DoubleRow l.bits (format_of l.format.is_signed l.format.width l.format.frac) k (get_or l.out k d) (get_or l.codes k 0);
  counted : l.refused ≡ refused_of (take l.i l.codes);
  few : l.refused ≤ l.i;
}
