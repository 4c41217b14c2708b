use Rattle.std.proofs.Common.{◌≡◌, ◌<◌, ◌≤◌, ℕ, pos, take, get_or}
use Rattle.fixed_c.specs.Decimals.{PrintsDecimal}
use Rattle.fixed_c.specs.Rows.{refused_of, row_at}
use Rattle.fixed_c.proofs.decimal_rows.print_each.Given as goal

abbrev pub invariant-loop-i : goal.invariant-loop-i
invariant-loop-i l = record {
  each : (k : ℕ) → k < l.i → PrintsDecimal l.places (get_or l.bits k (pos 0)) (row_at l.fn.rows l.size k) (row_at l.rows l.size k) (get_or l.codes k 0);
  rest : (k : ℕ) → l.i ≤ k → row_at l.rows l.size k ≡ row_at l.fn.rows l.size k;
  counted : l.refused ≡ refused_of (take l.i l.codes);
  few : l.refused ≤ l.i;
}
