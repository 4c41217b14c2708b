-- The bytes left to a reader that skips a byte order mark, and those that an output contains.
use Rattle.std.specs.Prelude.{◌==◌, ◌&&◌, ℕ, Bool, List, [], ◌∷◌, None, Option, Some, drop, false, option_map, true}
use Rattle.std.specs.Io.KnownBytes.{prepend_known}
pub use Rattle.csv.specs.Reading.{strip_bom}
use Rattle.command_line.specs.declared.device.Limited.{Limited}
use Rattle.command_line.specs.declared.device.Output.{Output}
use Rattle.command_line.specs.declared.device.Output.TheVariants.{File, Nowhere, Standard}
use Rattle.command_line.specs.declared.device.Skipped.{Skipped}
use Rattle.command_line.specs.declared.device.Unmarked.{Unmarked}

-- whether the bytes are a proper prefix of a byte order mark
abbrev pub is_part_of_mark : List ℕ → Bool
is_part_of_mark [] = true
is_part_of_mark (a ∷ []) = a == 0xEF
is_part_of_mark (a ∷ b ∷ []) = (a == 0xEF) && (b == 0xBB)
is_part_of_mark (a ∷ b ∷ c ∷ bytes) = false

-- whether the bytes are a byte order mark
abbrev pub is_mark : List ℕ → Bool
is_mark [] = false
is_mark (a ∷ []) = false
is_mark (a ∷ b ∷ []) = false
is_mark (a ∷ b ∷ c ∷ []) = (a == 0xEF) && (b == 0xBB) && (c == 0xBF)
is_mark (a ∷ b ∷ c ∷ d ∷ bytes) = false

-- the byte that a read gave, if any
abbrev pub byte_of : Option ℕ → List ℕ
byte_of None = []
byte_of (Some byte) = byte ∷ []

-- the bytes to come, after this many of the first bytes were handed on or, for `None`, while these are still being read
abbrev pub left_after : Option ℕ → List ℕ → Option (List ℕ) → Option (List ℕ)
left_after None head left = option_map strip_bom (prepend_known head left)
left_after (Some given) head left = prepend_known (drop given head) left

-- the bytes of a text to come, without a byte order mark at its start
abbrev pub left_after_mark : {R : Type 0} → (R → Option (List ℕ)) → Unmarked R → Option (List ℕ)
left_after_mark left u = left_after u.given u.head (left u.reader)

-- the bytes to come, without those that are still to be skipped
abbrev pub left_after_skip : {R : Type 0} → (R → Option (List ℕ)) → Skipped R → Option (List ℕ)
left_after_skip left s = option_map (drop s.left) (left s.reader)

-- the bytes to come of a reader with a limit, by the byte past the limit that was taken, if any
abbrev pub left_past : Option ℕ → Option (List ℕ) → Option (List ℕ)
left_past None left = left
left_past (Some byte) left = prepend_known (byte ∷ []) left

abbrev pub left_within : {R : Type 0} → (R → Option (List ℕ)) → Limited R → Option (List ℕ)
left_within left l = left_past l.past (left l.reader)

-- what an output contains: what standard output or the file does
abbrev pub written_to : {S F : Type 0} → (S → Option (List ℕ)) → (F → Option (List ℕ)) → Output S F
    → Option (List ℕ)
written_to standard file (Standard out) = standard out
written_to standard file (File out) = file out
written_to standard file Nowhere = Some []
