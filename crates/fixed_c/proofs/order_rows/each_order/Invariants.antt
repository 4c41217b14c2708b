use Rattle.std.proofs.Common.{◌≡◌, ◌<◌, ◌≤◌, ℕ, take, get_or, ℤ}
use Rattle.fixed_c.specs.Items.{ComparesRow}
use Rattle.fixed_c.specs.Numbers.{format_of}
use Rattle.fixed_c.specs.Rows.{refused_of}
use Rattle.fixed_c.proofs.order_rows.each_order.Given as goal

abbrev pub invariant-loop-i : goal.invariant-loop-i
invariant-loop-i l = record {
  each : (d : ℤ) (k : ℕ) → k < l.i → ComparesRow l.a (format_of l.f.is_signed l.f.width l.f.frac) l.b (format_of l.g.is_signed l.g.width l.g.frac) k (get_or l.orders k d) (get_or l.codes k 0);
  counted : l.refused ≡ refused_of (take l.i l.codes);
  few : l.refused ≤ l.i;
}
