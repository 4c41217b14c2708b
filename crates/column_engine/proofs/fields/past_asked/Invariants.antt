use Rattle.std.proofs.Common.{◌≡◌, ◌≤◌, ◌<◌, ◌-◌, ◌^◌, ℕ, drop}
use Rattle.column_engine.specs.Answers.{is_asked}
use Rattle.column_engine.proofs.fields.past_asked.Given as goal

abbrev pub invariant-spans : goal.invariant-spans
invariant-spans l = (k : ℕ) → l.past ≤ k → k < 2 ^ 64 - 1 → is_asked l.asked k ≡ is_asked (drop l.at l.asked) k
