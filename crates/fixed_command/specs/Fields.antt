-- The output for a converted field, spelled as people spell fields.
use Rattle.std.specs.Prelude.{◌≡◌, ◌==◌, ◌&&◌, ◌||◌, ◌+◌, ℕ, zero, suc, List, [], ◌∷◌, Bool, true, false, not, codes}
use Rattle.std.specs.Prelude.{None, Option, Some, drop, flat_map, if◌then◌else◌, length, map, nat_le}
use Rattle.std.specs.Char.{is_ascii_digit, is_ascii_hexdigit}
use Rattle.std.specs.List.{list_any, starts_with}
use Rattle.column_engine.specs.declared.columns.Keeping.{Keeping}
use Rattle.fixed_amounts.specs.declared.settings.AmountPrint.{AmountPrint}
use Rattle.fixed_amounts.specs.declared.settings.AmountPrint.TheVariants as amounts
use Rattle.fixed_numeral.specs.Numeral.{base}
use Rattle.fixed_numeral.specs.declared.radix.Radix.{Radix}
use Rattle.fixed_respell.specs.Language.{fault_answer}
use Rattle.line_engine.specs.AnswerText.{AnswerText}
use Rattle.fixed_command.specs.Convert.{without_return}
use Rattle.fixed_command.specs.Layout.{trimmed}
use Rattle.fixed_command.specs.Outcome.{IsOutcome}
use Rattle.fixed_command.specs.declared.convert.Settings.{Settings}
use Rattle.fixed_command.specs.declared.field.Empty.{Empty}
use Rattle.fixed_command.specs.declared.field.Empty.TheVariants.{Kept, Refused, Zero}
use Rattle.fixed_command.specs.declared.field.FieldForm.{FieldForm}
use Rattle.fixed_command.specs.declared.outcome.Outcome.{Outcome}
use Rattle.fixed_command.specs.declared.outcome.Outcome.TheVariants as outcomes
use Rattle.fixed_command.specs.declared.print.Print.{Print}
use Rattle.fixed_command.specs.declared.print.Print.TheVariants.{All, Bits, Hex, Places, Readmemh, Text, Value}

-- a field without the blanks around it, if they are passed over
abbrev pub bare : FieldForm → List ℕ → List ℕ
bare form field = if form.is_trimmed then trimmed field else field

-- a byte of a field as it is read: the decimal separator and the point change places
abbrev pub swapped : ℕ → ℕ → ℕ
swapped decimal byte = if byte == decimal then 46 else (if byte == 46 then decimal else byte)

-- what is read for a byte of a field: nothing for a byte that separates thousands
abbrev pub read_for : List ℕ → ℕ → ℕ → List ℕ
read_for thousands decimal byte = if list_any (λ b. b == byte) thousands then [] else swapped decimal byte ∷ []

-- the numeral, or the register word, of a field
abbrev pub field_numeral : FieldForm → List ℕ → List ℕ
field_numeral form field = flat_map (read_for form.thousands.now form.decimal) (bare form field)

-- ---- groups of thousands
-- whether a byte is a digit of radix 16 or of radix 10
abbrev pub is_digit : Bool → ℕ → Bool
is_digit hex byte = if hex then is_ascii_hexdigit byte else is_ascii_digit byte

-- how many digits the bytes begin with
unfoldable pub digits_of : Bool → List ℕ → ℕ
digits_of hex [] = 0
digits_of hex (byte ∷ bytes) = if is_digit hex byte then 1 + digits_of hex bytes else 0

-- the bytes after a sign, if there is one
abbrev pub after_sign : List ℕ → List ℕ
after_sign [] = []
after_sign (byte ∷ bytes) = if (byte == 43) || (byte == 45) then bytes else byte ∷ bytes

-- whether one of the bytes belongs to the separator
abbrev pub has_part : List ℕ → List ℕ → Bool
has_part separator bytes = list_any (λ byte. list_any (λ b. b == byte) separator) bytes

-- whether the bytes after a group of digits are fewer than `n` separators, with three digits after each, and then bytes
-- that belong to no separator
unfoldable pub are_groups : ℕ → Bool → List ℕ → List ℕ → Bool
are_groups zero hex separator bytes = false
are_groups (suc n) hex separator bytes = if starts_with (λ a b. a == b) bytes separator
    then (digits_of hex (drop (length separator) bytes) == 3)
    && are_groups n hex separator (drop 3 (drop (length separator) bytes))
    else not (has_part separator bytes)

-- the same with any number of separators
abbrev pub is_after_group : Bool → List ℕ → List ℕ → Bool
is_after_group hex separator bytes = are_groups (suc (length bytes)) hex separator bytes

-- whether the whole digits of a number are grouped: one to three digits, then three after each separator
abbrev pub is_grouped : Bool → List ℕ → List ℕ → Bool
is_grouped hex separator number = (nat_le 1 (digits_of hex number) && nat_le (digits_of hex number) 3)
    && is_after_group hex separator (drop (digits_of hex number) number)

-- whether separators must stand between groups of thousands and the field has one elsewhere
abbrev pub is_misplaced : FieldForm → Radix → List ℕ → Bool
is_misplaced form radix bytes = (form.has_groups && has_part form.thousands.now bytes)
    && not (is_grouped (base radix == 16) form.thousands.now (after_sign bytes))

abbrev pub misplaced_message : List ℕ
misplaced_message = codes "misplaced thousands separator"

-- ---- the reply to a field, in a radix, by the meaning `A` of the reply to a line
-- the reply to an empty field: nothing, which leaves it as it was; that to an empty line; or that to a zero
abbrev pub IsEmptyReply : Empty → (List ℕ → AnswerText → Type 0) → AnswerText → Type 0
IsEmptyReply Kept A reply = reply ≡ record { text = []; fault = false }
IsEmptyReply Refused A reply = A [] reply
IsEmptyReply Zero A reply = A (48 ∷ []) reply

-- the reply to a non-empty field: a refusal if a separator is misplaced, else that to its numeral as a line
abbrev pub IsReadReply : Bool → FieldForm → (List ℕ → AnswerText → Type 0) → List ℕ → AnswerText → Type 0
IsReadReply true form A field reply = reply ≡ fault_answer misplaced_message
IsReadReply false form A field reply = A (field_numeral form field) reply

-- the reply to a field, by whether it is empty
abbrev pub IsFieldReplyBy : Bool → FieldForm → Radix → (List ℕ → AnswerText → Type 0) → List ℕ → AnswerText → Type 0
IsFieldReplyBy true form radix A field reply = IsEmptyReply form.empty A reply
IsFieldReplyBy false form radix A field reply = IsReadReply (is_misplaced form radix (bare form field)) form A field
    reply

-- the reply to a field, with a point in its number
abbrev pub IsPointReply : FieldForm → Radix → (List ℕ → AnswerText → Type 0) → List ℕ → AnswerText → Type 0
IsPointReply form radix A field reply = IsFieldReplyBy (length (bare form field) == 0) form radix A field reply

-- a byte of a number as it is written: the mark in place of the point
abbrev pub marked : ℕ → ℕ → ℕ
marked mark byte = if byte == 46 then mark else byte

-- a reply with this mark in place of the point of its number; a refusal stays as it is
abbrev pub in_mark : ℕ → AnswerText → AnswerText
in_mark mark reply = if reply.fault then reply else record { text = map (marked mark) reply.text; fault = false }

-- the reply to a field
abbrev pub IsFieldReply : FieldForm → Radix → (List ℕ → AnswerText → Type 0) → List ℕ → AnswerText → Type 0
IsFieldReply form radix A field reply = (point : AnswerText) × IsPointReply form radix A field point
    × (reply ≡ in_mark form.mark point)

-- whether a part of an amount has a point
abbrev pub has_amount_point : AmountPrint → Bool
has_amount_point amounts.Text = true
has_amount_point amounts.Units = false
has_amount_point amounts.Hex = false
has_amount_point amounts.HexDigits = false
has_amount_point amounts.All = true

-- whether a part of an answer has a number with a point
abbrev pub has_point : Print → Bool
has_point Text = true
has_point (Places count mode) = true
has_point Bits = false
has_point Hex = false
has_point Readmemh = false
has_point Value = true
has_point All = true

-- what is kept of a field: refused fields, if requested; and quotes, if what is written has a point that another mark
-- replaces
abbrev pub kept_of : Bool → ℕ → Bool → Keeping
kept_of refused mark point = record { refused = refused; quotes = not (mark == 46) && point }

-- ---- the outcome of a field

-- the outcome of a line
abbrev pub IsReadOutcome : Settings → List ℕ → Option Outcome → Type 0
IsReadOutcome s line found = (outcome : Outcome) × (found ≡ Some outcome) × IsOutcome outcome s (without_return line)

-- the outcome of an empty field: none if the field stays, else that of an empty line or of a zero
abbrev pub IsEmptyOutcome : Empty → Settings → Option Outcome → Type 0
IsEmptyOutcome Kept s found = found ≡ None
IsEmptyOutcome Refused s found = IsReadOutcome s [] found
IsEmptyOutcome Zero s found = IsReadOutcome s (48 ∷ []) found

-- the outcome of a non-empty field: refused if a separator is misplaced, else that of its numeral as a line
abbrev pub IsNumeralOutcome : Bool → FieldForm → Settings → List ℕ → Option Outcome → Type 0
IsNumeralOutcome true form s field found = found ≡ Some outcomes.Refused
IsNumeralOutcome false form s field found = IsReadOutcome s (field_numeral form field) found

abbrev pub IsFieldOutcomeBy : Bool → FieldForm → Settings → List ℕ → Option Outcome → Type 0
IsFieldOutcomeBy true form s field found = IsEmptyOutcome form.empty s found
IsFieldOutcomeBy false form s field found = IsNumeralOutcome (is_misplaced form s.radix (bare form field)) form s field
    found

-- the outcome of a field
abbrev pub IsFieldOutcome : FieldForm → Settings → List ℕ → Option Outcome → Type 0
IsFieldOutcome form s field found = IsFieldOutcomeBy (length (bare form field) == 0) form s field found
