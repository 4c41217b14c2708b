use Rattle.std.proofs.Common.{◌≡◌, ◌<◌, ◌≤◌, ℕ, take, get_or}
use Rattle.fixed_c.specs.Inner.Decimals.{ReadsDecimalAsked}
use Rattle.fixed_c.specs.Rows.{refused_of}
use Rattle.fixed_c.specs.declared.number.FixedNumber.{FixedNumber}
use Rattle.fixed_c.proofs.decimal_rows.asked_decimals.Given as goal

abbrev pub invariant-loop-i : goal.invariant-loop-i
invariant-loop-i l = record {
  each : (d : FixedNumber) (k : ℕ) → k < l.i → ReadsDecimalAsked l.rows l.size l.asked k (get_or l.out k d) (get_or l.codes k 0);
  counted : l.refused ≡ refused_of (take l.i l.codes);
  few : l.refused ≤ l.i;
}
