-- When a device may report a failure.
use Rattle.std.specs.Prelude.{◌≡◌, ℕ, ◌+◌, ◌-◌, ◌^◌, ◌≤◌, min, Result, OnOk, OnErr}

-- a count of failures rose, or is at its last value
abbrev pub HasFailed : ℕ → ℕ → Type 0
HasFailed before now = min (before + 1) (2 ^ 64 - 1) ≤ now

-- the count does not fall; it is unchanged after `Ok`; after `Err` it has risen or is at its last value
pub record FailsOnlyCounted {T E : Type 0} (before now : ℕ) (result : Result T E) : Type 0 where
  pub later : before ≤ now
  pub same : OnOk result (now ≡ before)
  pub failed : OnErr result (HasFailed before now)
