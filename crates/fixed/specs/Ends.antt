-- How runs end.
use Rattle.std.specs.Prelude.{ℕ, Bool, List, codes, false, true}
use Rattle.line_engine.specs.declared.status.Status.{Status}
use Rattle.line_engine.specs.declared.status.Status.TheVariants as status
use Rattle.run_engine.specs.declared.engine.End.{End}
use Rattle.run_engine.specs.declared.engine.End.TheVariants.{Done, Faults, NoMemory, ReadFault, Stopped, TooLong}
use Rattle.run_engine.specs.declared.engine.End.TheVariants.{WriteFault}

-- whether nothing more can be written after a run with this status
abbrev pub is_last : Status → Bool
is_last status.Done = false
is_last status.Faults = false
is_last status.Usage = false
is_last status.ReadFault = false
is_last status.WriteFault = true
is_last status.NoMemory = true
is_last status.TooLong = false

-- the status of a run with this end: a machine that stopped refused something
abbrev pub status_of : {T : Type 0} → End T → Status
status_of Done = status.Done
status_of Faults = status.Faults
status_of ReadFault = status.ReadFault
status_of WriteFault = status.WriteFault
status_of TooLong = status.TooLong
status_of NoMemory = status.NoMemory
status_of (Stopped why) = status.Faults

-- the message of an end without a refusal
abbrev pub end_text : {T : Type 0} → End T → List ℕ
end_text ReadFault = codes "a read failed"
end_text WriteFault = codes "a write failed"
end_text NoMemory = codes "there is no memory"
end_text TooLong = codes "the input is longer than the limit"
end_text Done = codes "the input is longer than the limit"
end_text Faults = codes "the input is longer than the limit"
end_text (Stopped why) = codes "the input is longer than the limit"
