use Rattle.std.proofs.Common.{◌≡◌, ◌<◌, ◌≤◌, ℕ, pos, take, get_or}
use Rattle.fixed_c.specs.Numbers.{format_of}
use Rattle.fixed_c.specs.Items.{PrintsPlaces}
use Rattle.fixed_c.specs.Rows.{refused_of, row_at}
use Rattle.fixed_c.proofs.place_rows.each_places.Given as goal

abbrev pub invariant-loop-i : goal.invariant-loop-i
invariant-loop-i l = record {
  each : (k : ℕ) → k < l.i → PrintsPlaces (format_of l.printing.format.is_signed l.printing.format.width l.printing.format.frac) l.printing.places l.printing.mode (get_or l.bits k (pos 0)) (row_at l.fn.rows l.size k) (row_at l.rows l.size k) (get_or l.codes k 0);
  rest : (k : ℕ) → l.i ≤ k → row_at l.rows l.size k ≡ row_at l.fn.rows l.size k;
  counted : l.refused ≡ refused_of (take l.i l.codes);
  few : l.refused ≤ l.i;
}
