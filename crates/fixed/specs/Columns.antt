-- The meaning of the operands and options of `fixed column`.
use Rattle.std.specs.Prelude.{◌≡◌, ◌≢◌, ◌==◌, ◌&&◌, ◌||◌, ◌⊎◌, ◌+◌, ◌-◌, ◌^◌, ◌<◌, ◌≤◌, ℕ, Bool, true, false, not}
use Rattle.std.specs.Prelude.{List, [], ◌∷◌, ◌++◌, None, Option, Some, chars, codes, decimal, length, string_bytes}
use Rattle.std.specs.Prelude.{if◌then◌else◌, is_some, unwrap_or}
use Rattle.std.specs.Char.{is_ascii_alphanumeric, is_ascii_whitespace}
use Rattle.std.specs.List.{list_all, list_any, slice_split}
use Rattle.column_engine.specs.End.{end_status}
use Rattle.column_engine.specs.Run.{HasFailures, counts_of, first_state}
use Rattle.column_engine.specs.Skip.{HasRunAfter}
use Rattle.column_engine.specs.declared.columns.Column.{Column}
use Rattle.column_engine.specs.declared.columns.Column.TheVariants.{At, Named}
use Rattle.column_engine.specs.declared.columns.Destination.{Destination}
use Rattle.column_engine.specs.declared.columns.Destination.TheVariants.{InPlace, NewColumn}
use Rattle.column_engine.specs.declared.columns.Range.{Range}
use Rattle.column_engine.specs.declared.end.ColumnEnd.{ColumnEnd}
use Rattle.column_engine.specs.declared.end.Stop.{Stop}
use Rattle.column_engine.specs.declared.end.Stop.TheVariants as stop
use Rattle.command_line.specs.Words.{has_flag, keyword_at, value_of, word_at}
use Rattle.command_line.specs.declared.given.Given.{Given}
use Rattle.fixed_amounts.specs.declared.settings.AmountSettings.{AmountSettings}
use Rattle.fixed_command.specs.Asked.{IsNamed}
use Rattle.fixed_amounts.specs.Reply.{IsReply}
use Rattle.fixed_command.specs.Convert.{IsLineReply, without_return}
use Rattle.fixed_command.specs.Fields.{IsFieldReply, has_amount_point, has_point, kept_of}
use Rattle.fixed_command.specs.declared.column.ColumnConversion.{ColumnConversion}
use Rattle.fixed_command.specs.declared.convert.Settings.{Settings}
use Rattle.fixed_command.specs.declared.field.Empty.{Empty}
use Rattle.fixed_command.specs.declared.field.Empty.TheVariants.{Kept, Refused, Zero}
use Rattle.fixed_command.specs.declared.field.FieldForm.{FieldForm}
use Rattle.fixed_numeral.specs.declared.radix.Radix.TheVariants.{Dec}
use Rattle.line_engine.specs.AnswerText.{AnswerText}
use Rattle.line_engine.specs.Memory.{next_count}
use Rattle.line_engine.specs.declared.status.Status.{Status}
use Rattle.line_engine.specs.declared.status.Status.TheVariants as status
use Rattle.fixed.specs.Amounts.{IsAmountAsked, IsBySource, IsNoTarget, NamesNoDecimal}
use Rattle.fixed.specs.Convert.{IsConversionAsked}
use Rattle.fixed.specs.Reports.{form_named}
use Rattle.fixed.specs.Settings.{IsCountWord}
use Rattle.fixed.specs.declared.commands.column_words.Table.{Table}
use Rattle.fixed.specs.declared.inputs.Job.{Job}
use Rattle.fixed.specs.declared.inputs.Job.TheVariants as job

-- a delimiter: one byte other than a quote and a line end, or a tab by its name
abbrev pub IsDelimiterWord : List ℕ → ℕ → Type 0
IsDelimiterWord word byte = ((word ≡ byte ∷ []) × (byte ≢ 34) × (byte ≢ 13) × (byte ≢ 10))
    ⊎ ((byte ≡ 9) × ((word ≡ codes "tab") ⊎ (word ≡ 92 ∷ 116 ∷ [])))

-- whether a byte is one that no numeral has, or a point: not a letter, digit, sign or `@`
abbrev pub is_separator : ℕ → Bool
is_separator byte = not (is_ascii_alphanumeric byte) && not (byte == 43 || byte == 45 || byte == 64)

-- the decimal separator: one such byte, but not a blank
pub record IsDecimalWord (word : List ℕ) (byte : ℕ) : Type 0 where
  pub text : word ≡ byte ∷ []
  pub separator : is_separator byte ≡ true
  pub no_blank : is_ascii_whitespace byte ≡ false

-- the thousands separator: one character of such bytes, other than the decimal separator
pub record IsThousandsWord (decimal : ℕ) (word : List ℕ) : Type 0 where
  pub one : (length (chars word) == 1) ≡ true
  pub separators : list_all is_separator word ≡ true
  pub other : list_any (λ byte. byte == decimal) word ≡ false

-- the thousands separator, between groups (the first value) or anywhere (the second); none without a value; both values
-- are invalid
abbrev pub IsThousandsAsked : ℕ → Option (List ℕ) → Option (List ℕ) → List ℕ → Bool → Type 0
IsThousandsAsked decimal None None bytes groups = (bytes ≡ []) × (groups ≡ false)
IsThousandsAsked decimal (Some word) None bytes groups = (bytes ≡ word) × IsThousandsWord decimal word × (groups ≡ true)
IsThousandsAsked decimal None (Some word) bytes groups = (bytes ≡ word) × IsThousandsWord decimal word
    × (groups ≡ false)
IsThousandsAsked decimal (Some word) (Some other) bytes groups = ⊥

-- the decimal separator of an answer: the byte of its own value, else that of the fields
abbrev pub IsMarkAsked : Option (List ℕ) → Option (List ℕ) → ℕ → Type 0
IsMarkAsked (Some word) decimal byte = IsDecimalWord word byte
IsMarkAsked None decimal byte = IsDecimalWord (unwrap_or decimal (codes ".")) byte

-- the value for each treatment of empty fields
abbrev pub empty_text : Empty → List ℕ
empty_text Refused = codes "fault"
empty_text Kept = codes "keep"
empty_text Zero = codes "0"

-- how fields spell numerals
pub record IsFormAsked (given : Given) (form : FieldForm) : Type 0 where
  pub trimmed : form.is_trimmed ≡ has_flag given (codes "trim")
  pub decimal : IsDecimalWord (unwrap_or (value_of given (codes "decimal")) (codes ".")) form.decimal
  pub mark : IsMarkAsked (value_of given (codes "decimal-out")) (value_of given (codes "decimal")) form.mark
  pub thousands : IsThousandsAsked form.decimal (value_of given (codes "thousands"))
      (value_of given (codes "thousands-anywhere")) form.thousands.now form.has_groups
  pub empty : IsNamed Empty empty_text Refused (value_of given (codes "empty")) form.empty

-- one column, by its number from 1
pub record IsOneWord (word : List ℕ) (range : Range) : Type 0 where
  pub one : range.from ≡ range.to
  pub fits : range.to + 1 < 2 ^ 64
  pub text : word ≡ decimal (range.to + 1)

-- the first and the last column of a range, by their numbers
pub record IsSpan (first last : List ℕ) (range : Range) : Type 0 where
  pub ordered : range.from ≤ range.to
  pub fits : range.to + 1 < 2 ^ 64
  pub first_is : first ≡ decimal (range.from + 1)
  pub last_is : last ≡ decimal (range.to + 1)

-- one column, or the first and the last of a range with a hyphen between them
abbrev pub IsRangeWord : List ℕ → Range → Type 0
IsRangeWord word range = IsOneWord word range
    ⊎ ((first : List ℕ) × (last : List ℕ) × (word ≡ first ++ 45 ∷ last) × IsSpan first last range)

-- a column of this name or, if no column has it, this range, if any
abbrev pub IsByName : List ℕ → Option Range → Column → Type 0
IsByName word range (Named name or) = (string_bytes name ≡ word) × (or ≡ range)
IsByName word range (At at) = ⊥

-- the range that the word is by `Is`, if it is one
abbrev pub IsRangeIf : (List ℕ → Range → Type 0) → List ℕ → Option Range → Type 0
IsRangeIf Is word None = (range : Range) → Is word range → ⊥
IsRangeIf Is word (Some range) = Is word range

-- a column: if operands may be names, the name with the range that it is if no column has the name; else the range
abbrev pub IsColumnWord : (List ℕ → Range → Type 0) → Bool → List ℕ → Column → Type 0
IsColumnWord Is true word (Named name range) = (string_bytes name ≡ word) × IsRangeIf Is word range
IsColumnWord Is true word (At range) = ⊥
IsColumnWord Is false word (Named name range) = ⊥
IsColumnWord Is false word (At range) = Is word range

-- the columns of a list of operands
abbrev pub AreColumnWords : Bool → List (List ℕ) → List Column → Type 0
AreColumnWords header [] [] = Unit {0}
AreColumnWords header [] (column ∷ columns) = ⊥
AreColumnWords header (word ∷ words) [] = ⊥
AreColumnWords header (word ∷ words) (column ∷ columns) = IsColumnWord IsRangeWord header word column
    × AreColumnWords header words columns

-- the columns of an operand: only one with a new column, and then a name has no comma; else those of its parts between
-- commas
abbrev pub AreColumnsOf : Bool → Bool → List ℕ → List Column → Type 0
AreColumnsOf true header word columns = (column : Column) × (columns ≡ column ∷ [])
    × IsColumnWord IsOneWord (header && not (list_any (λ b. b == 44) word)) word column
AreColumnsOf false header word columns = AreColumnWords header (slice_split (λ b. b == 44) word) columns

-- the requested columns, and the index of the next operand: every column with `--all`, else those of the first operand
abbrev pub AreColumnsBy : Bool → Option (List ℕ) → Bool → Bool → List Column → ℕ → Type 0
AreColumnsBy true first into header columns next = (columns ≡ At (record { from = 0; to = 2 ^ 64 - 1 }) ∷ [])
    × (next ≡ 0)
AreColumnsBy false None into header columns next = ⊥
AreColumnsBy false (Some word) into header columns next = AreColumnsOf into header word columns × (next ≡ 1)

abbrev pub AreColumnsAsked : Given → List Column → ℕ → Type 0
AreColumnsAsked given = AreColumnsBy (has_flag given (codes "all")) (word_at given 0)
    (is_some (value_of given (codes "into"))) (has_flag given (codes "header"))

-- where the answers go: to their fields or, without `--all`, into a new column whose name has at most 1024 bytes
abbrev pub IsDestinationBy : Bool → Option (List ℕ) → Destination → Type 0
IsDestinationBy all None destination = destination ≡ InPlace
IsDestinationBy all (Some name) destination = (destination ≡ NewColumn name) × (length name ≤ 1024) × (all ≡ false)

abbrev pub IsDestinationAsked : Given → Destination → Type 0
IsDestinationAsked given = IsDestinationBy (has_flag given (codes "all")) (value_of given (codes "into"))

-- ---- the job
-- how records and fields are read and written
pub record IsTableAsked (given : Given) (table : Table) : Type 0 where
  pub form : IsFormAsked given table.form
  pub skipped : IsCountWord (unwrap_or (value_of given (codes "skip")) (codes "0")) table.skipped
  pub destination : IsDestinationAsked given table.destination
  pub header : table.has_header ≡ has_flag given (codes "header")
  pub kept : table.is_kept ≡ has_flag given (codes "keep")
  pub delimiter : IsDelimiterWord (unwrap_or (value_of given (codes "delimiter")) (codes ",")) table.delimiter

-- the table of a conversion by any rule
abbrev pub table_in : {R : Type 0} → ColumnConversion R → Table
table_in conversion = record {
  form = conversion.form;
  skipped = conversion.skipped;
  destination = conversion.destination;
  has_header = conversion.has_header;
  is_kept = conversion.is_kept;
  delimiter = conversion.delimiter;
}

-- these columns are converted into amounts of this decimal format, which has no target; `source` is the index of the
-- format, and `files` that of the first file
pub record AreAmountColumnsAsked (given : Given) (format : ℕ) (columns : List Column) (source : ℕ) (asked : Job)
    (files : ℕ) : Type 0 where
  pub target : IsNoTarget (keyword_at given (next_count source))
  pub conversion : ColumnConversion AmountSettings
  pub settings : IsAmountAsked given format conversion.rule
  pub columns_are : conversion.columns.items ≡ columns
  pub table : IsTableAsked given (table_in conversion)
  pub job_is : asked ≡ job.AmountColumns conversion
  pub files_is : files ≡ next_count source

-- the same for a conversion into a binary format
pub record AreBinaryColumnsAsked (given : Given) (columns : List Column) (source : ℕ) (asked : Job) (files : ℕ)
    : Type 0 where
  pub target : NamesNoDecimal (keyword_at given (next_count source))
  pub conversion : ColumnConversion Settings
  pub settings : IsConversionAsked given source conversion.rule files
  pub columns_are : conversion.columns.items ≡ columns
  pub table : IsTableAsked given (table_in conversion)
  pub job_is : asked ≡ job.Column conversion (form_named (value_of given (codes "report")))

-- the same for the format that the operand at index `source` names
abbrev pub IsColumnJobBy : Given → List Column → ℕ → Job → ℕ → Type 0
IsColumnJobBy given columns source asked files = IsBySource (word_at given source)
    (λ format. AreAmountColumnsAsked given format columns source asked files)
    (AreBinaryColumnsAsked given columns source asked files)

-- the job for each input, the index of the format, and that of the first file
pub record IsColumnJobAsked (given : Given) (asked : Job) (source files : ℕ) : Type 0 where
  pub columns : List Column
  pub are_columns : AreColumnsAsked given columns source
  pub job_by : IsColumnJobBy given columns source asked files

-- ---- the run
-- whether a read failed
abbrev pub is_read_fault : Stop → Bool
is_read_fault stop.Done = false
is_read_fault stop.ReadFault = true
is_read_fault stop.WriteFault = false
is_read_fault stop.NoMemory = false
is_read_fault stop.TooLong = false
is_read_fault stop.Unclosed = false
is_read_fault (stop.NoColumn count) = false
is_read_fault stop.NoName = false

-- the status of a run with this end, by whether its reader had more bytes than the limit: then the read that failed
-- was the one past it
abbrev pub columns_status : Bool → ColumnEnd → Status
columns_status exceeded end = if exceeded && is_read_fault end.stop then status.TooLong
    else end_status end.stop end.refused

-- the end of a run with its rejects, by whether a write of these failed
abbrev pub stopped_if : Bool → ColumnEnd → ColumnEnd
stopped_if false end = end
stopped_if true end = record end { stop = stop.WriteFault }

-- a run over columns with this end, by the meaning `A` of the reply to a field and by whether a reply may have a point:
-- from what its reader holds to what its writer contains. Without memory nothing was read or written.
pub record FieldsBetween {R : Type 0} (A : List ℕ → AnswerText → Type 0) (conversion : ColumnConversion R)
    (point : Bool) (end : ColumnEnd) (held old new : Option (List ℕ)) : Type 0 where
  pub left : Option (List ℕ)
  pub run : (end.stop ≡ stop.NoMemory) ⊎ HasRunAfter conversion.skipped end.stop A
      (kept_of conversion.is_kept conversion.form.mark point) conversion.delimiter conversion.columns.items
      (first_state conversion.has_header conversion.destination conversion.columns.items) (counts_of end) held left
      old new
  pub read_failures : ℕ
  pub write_failures : ℕ
  pub failures : HasFailures 0 read_failures 0 write_failures end.stop
  pub memory : end.stop ≡ stop.NoMemory → (left ≡ held) × (new ≡ old)

-- the status of such a run with its rejects, by whether a write of these failed
abbrev pub FieldsEnd : {R : Type 0} → (List ℕ → AnswerText → Type 0) → ColumnConversion R → Bool → Bool → Status
    → Option (List ℕ) → Option (List ℕ) → Option (List ℕ) → Type 0
FieldsEnd A conversion point failed result held old new = (end : ColumnEnd) × (exceeded : Bool)
    × (result ≡ columns_status exceeded (stopped_if failed end))
    × FieldsBetween A conversion point end held old new

-- the same for a conversion into a binary format, and into a decimal one
abbrev pub BinaryColumnsEnd : Bool → ColumnConversion Settings → Status → Option (List ℕ) → Option (List ℕ)
    → Option (List ℕ) → Type 0
BinaryColumnsEnd failed conversion = FieldsEnd (IsFieldReply conversion.form conversion.rule.radix
    (IsLineReply conversion.rule)) conversion (has_point conversion.rule.print) failed

abbrev pub AmountColumnsEnd : Bool → ColumnConversion AmountSettings → Status → Option (List ℕ) → Option (List ℕ)
    → Option (List ℕ) → Type 0
AmountColumnsEnd failed conversion = FieldsEnd (IsFieldReply conversion.form Dec
    (λ line. IsReply conversion.rule (without_return line))) conversion (has_amount_point conversion.rule.print) failed
