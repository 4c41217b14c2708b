-- A line that a machine packs.
use Rattle.std.specs.Prelude.{◌≡◌, ℕ, List, Result, Ok, Err}
use Rattle.run_engine.specs.declared.machine.Halt.{Halt}
use Rattle.run_engine.specs.declared.machine.Halt.TheVariants.{WriteFault, NoMemory, Stopped}
use Rattle.fixed_pack.specs.Packed.{Appends, IsRefusal}

-- the bytes that the line becomes are appended; or nothing is: the line is refused, or there is no memory for it
abbrev pub EndsLine : {C : Type 0} → (List ℕ → List ℕ → Type 0) → (List ℕ → C → Type 0) → List ℕ → ℕ → List ℕ → List ℕ
    → ℕ → List ℕ → Result (Unit {0}) (Halt C) → Type 0
EndsLine P F line number before after count kept (Ok _) = Appends (P line) before after
EndsLine P F line number before after count kept (Err WriteFault) = ⊥
EndsLine P F line number before after count kept (Err NoMemory) = after ≡ before
EndsLine P F line number before after count kept (Err (Stopped cause)) =
    IsRefusal F line number (record { number = count; cause = cause }) kept × (after ≡ before)
