-- The visible state of a source and a sink in memory.
use Rattle.std.specs.Prelude.{◌≡◌, ℕ, ◌+◌, ◌-◌, ◌^◌, min, List, length, take, drop}
use Rattle.line_engine.specs.Asked.{Asked}
use Rattle.line_engine.specs.declared.memory.MemorySource.{MemorySource}
use Rattle.line_engine.specs.declared.memory.MemorySink.{MemorySink}

-- the bytes that are left
abbrev pub bytes_left : MemorySource → List ℕ
bytes_left source = drop source.at source.bytes.items

-- what its reads have requested
abbrev pub asked_of : MemorySource → Asked
asked_of source = record { given = source.at; furthest = source.furthest; longest = source.longest }

-- the bytes that were written
abbrev pub bytes_written : MemorySink → List ℕ
bytes_written sink = take sink.len sink.room.items

-- how many bytes of room are left
abbrev pub room_left : MemorySink → ℕ
room_left sink = length sink.room.items - sink.len

-- one more, up to the last value of u64
abbrev pub next_count : ℕ → ℕ
next_count n = min (n + 1) (2 ^ 64 - 1)

-- the source fails and moves bytes by the same rules as before
pub record KeepsSourceRules (old new : MemorySource) : Type 0 where
  pub failing : new.failing.items ≡ old.failing.items
  pub most : new.most ≡ old.most

-- the sink fails and moves bytes by the same rules as before, and has as much room in total
pub record KeepsSinkRules (old new : MemorySink) : Type 0 where
  pub failing : new.failing.items ≡ old.failing.items
  pub most : new.most ≡ old.most
  pub room : length new.room.items ≡ length old.room.items
