use Rattle.std.proofs.Common.{◌≡◌, ◌<◌, ◌≤◌, ℕ, take, get_or}
use Rattle.fixed_float.specs.declared.layout.FloatLayout.TheVariants.{Binary64}
use Rattle.fixed_c.specs.Inner.Floats.{ReadsFloatAsked}
use Rattle.fixed_c.specs.Rows.{refused_of}
use Rattle.fixed_c.specs.declared.number.FixedNumber.{FixedNumber}
use Rattle.fixed_c.proofs.float_rows.asked_doubles.Given as goal

abbrev pub invariant-loop-i : goal.invariant-loop-i
invariant-loop-i l = record {
  each : (d : FixedNumber) (k : ℕ) → k < l.i → ReadsFloatAsked Binary64 l.floats l.asked k (get_or l.out k d) (get_or l.codes k 0);
  counted : l.refused ≡ refused_of (take l.i l.codes);
  few : l.refused ≤ l.i;
}
