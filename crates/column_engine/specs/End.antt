-- The status for each end of a run over records.
use Rattle.std.specs.Prelude.{◌==◌, ℕ, if◌then◌else◌}
use Rattle.column_engine.specs.declared.end.Stop.{Stop}
use Rattle.column_engine.specs.declared.end.Stop.TheVariants as stop
use Rattle.line_engine.specs.declared.status.Status.{Status}
use Rattle.line_engine.specs.declared.status.Status.TheVariants as status

-- the status of a run over a text with this end and this many refused fields; input that cannot be read as requested
-- counts as a failed read
abbrev pub end_status : Stop → ℕ → Status
end_status stop.Done refused = if refused == 0 then status.Done else status.Faults
end_status stop.ReadFault refused = status.ReadFault
end_status stop.Unclosed refused = status.ReadFault
end_status (stop.NoColumn count) refused = status.ReadFault
end_status stop.NoName refused = status.ReadFault
end_status stop.WriteFault refused = status.WriteFault
end_status stop.NoMemory refused = status.NoMemory
end_status stop.TooLong refused = status.TooLong
