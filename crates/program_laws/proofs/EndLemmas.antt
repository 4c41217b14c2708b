-- Two runs end alike if they took the same input and the same numbers of their reads and writes failed.
use Rattle.std.proofs.Common.{◌≡◌, ◌-◌, ◌^◌, ◌<◌, ℕ, Bool, true, false, refl}
use Rattle.std.proofs.lemmas.Bool.{false≢true, true≢false}
use Rattle.line_engine.specs.Run.{HasFailures}
use Rattle.line_engine.specs.declared.status.Status.{Status}
use Rattle.line_engine.specs.declared.status.Status.TheVariants.{Done, Faults, Usage, ReadFault, WriteFault, NoMemory, TooLong}
use Rattle.line_engine.proofs.Public.{not_failed}

-- what a status says of the input: it was answered, with a fault or without one, or is longer than the limit
abbrev pub Part : (Bool → Type 0) → Type 0 → Status → Type 0
Part Answers Past Done = Answers false
Part Answers Past Faults = Answers true
Part Answers Past Usage = ⊥
Part Answers Past ReadFault = Unit {0}
Part Answers Past WriteFault = Unit {0}
Part Answers Past NoMemory = Unit {0}
Part Answers Past TooLong = Past

module _ (P Q : Bool → Type 0) (Past Past' : Type 0) (flag_one : (f g : Bool) → P f → Q g → f ≡ g)
    (not_past : (f : Bool) → P f → Past' → ⊥) (past_not : (f : Bool) → Past → Q f → ⊥)
    (read read' write write' : ℕ) (can_read : read < 2 ^ 64 - 1) (can_write : write < 2 ^ 64 - 1) where
  -- a read or a write did not fail if its count of failures did not change
  calm_read : read' ≡ read → HasFailures read read' write write' ReadFault → ⊥
  calm_read same f = not_failed read read' can_read same f.0

  calm_write : write' ≡ write → HasFailures read read' write write' WriteFault → ⊥
  calm_write same f = not_failed write write' can_write same f.1

  pub end_one : (s t : Status) → (s ≡ NoMemory → ⊥) → (t ≡ NoMemory → ⊥) → Part P Past s → HasFailures read read' write write' s → Part Q Past' t
      → HasFailures read read' write write' t → s ≡ t
  end_one Done Done no_s no_t x f y g = refl
  end_one Faults Faults no_s no_t x f y g = refl
  end_one ReadFault ReadFault no_s no_t x f y g = refl
  end_one WriteFault WriteFault no_s no_t x f y g = refl
  end_one TooLong TooLong no_s no_t x f y g = refl
  end_one Usage t no_s no_t x f y g = absurd x
  end_one NoMemory t no_s no_t x f y g = absurd (no_s refl)
  end_one s Usage no_s no_t x f y g = absurd y
  end_one s NoMemory no_s no_t x f y g = absurd (no_t refl)
  end_one Done Faults no_s no_t x f y g = absurd (false≢true (flag_one false true x y))
  end_one Faults Done no_s no_t x f y g = absurd (true≢false (flag_one true false x y))
  end_one Done TooLong no_s no_t x f y g = absurd (not_past false x y)
  end_one Faults TooLong no_s no_t x f y g = absurd (not_past true x y)
  end_one TooLong Done no_s no_t x f y g = absurd (past_not false x y)
  end_one TooLong Faults no_s no_t x f y g = absurd (past_not true x y)
  end_one ReadFault WriteFault no_s no_t x f y g = absurd (calm_read g.0 f)
  end_one ReadFault t no_s no_t x f y g = absurd (calm_read g.source f)
  end_one WriteFault ReadFault no_s no_t x f y g = absurd (calm_read f.0 g)
  end_one WriteFault t no_s no_t x f y g = absurd (calm_write g.sink f)
  end_one s ReadFault no_s no_t x f y g = absurd (calm_read f.source g)
  end_one s WriteFault no_s no_t x f y g = absurd (calm_write f.sink g)
