-- The longest text and the longest record, in bytes.
use Rattle.std.specs.Prelude.{◌^◌, ℕ}

-- of a text, or of the lines passed over before its records
abbrev pub longest_text : ℕ
longest_text = 2 ^ 63

-- of a record, with its quotes and without its end
abbrev pub longest_record : ℕ
longest_record = 1048576
