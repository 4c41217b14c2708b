-- The answer to an input that is a list of numerals.
use Rattle.std.specs.Prelude.{◌≡◌, ◌⊎◌, ◌+◌, ◌-◌, ◌==◌, ℕ, ℤ, Bool, true, false, List, [], ◌∷◌, ◌++◌, codes}
use Rattle.std.specs.Prelude.{None, Option, Some, decimal, get_or, if◌then◌else◌, length, map, take}
use Rattle.fixed_bits.specs.Formats.{IsFormat}
use Rattle.fixed_command.specs.Layout.{LineLayout, is_skipped, without_blanks}
use Rattle.fixed_numeral.specs.Messages.{message_of}
use Rattle.fixed_numeral.specs.declared.error.ParseErrorKind.{ParseErrorKind}
use Rattle.fixed_show.specs.ShowBlock.{IsReadAs, IsUnread}
use Rattle.line_engine.specs.AnswerText.{AnswerText}
use Rattle.line_engine.specs.Lines.{lines}
use Rattle.fixed_arrays.specs.Table.{array_text}
use Rattle.fixed_arrays.specs.declared.text.Frame.{Frame}
use Rattle.fixed_arrays.specs.declared.fault.ArrayFault.{ArrayFault}
use Rattle.fixed_arrays.specs.declared.fault.ArrayFault.TheVariants.{Empty, NoMemory, Refused}
use Rattle.fixed_arrays.specs.declared.rule.ArrayRule.{ArrayRule}
use Rattle.fixed_arrays.specs.declared.rule.Numerals.{Numerals}

-- a line without one carriage return at its end
abbrev pub without_return : List ℕ → List ℕ
without_return line = if get_or line (length line - 1) 0 == 13 then take (length line - 1) line else line

-- the line without one carriage return at its end is a numeral, and these are its bits
pub record IsElement (n : Numerals) (line : List ℕ) (bits : ℤ) : Type 0 where
  pub overflowed : Bool
  pub read : IsReadAs n.mode n.radix (without_return line) n.format n.policy bits overflowed

-- the line is refused, and `kind` says why
abbrev pub IsRefusedElement : Numerals → List ℕ → ParseErrorKind → Type 0
IsRefusedElement n line kind = IsUnread n.mode n.radix (without_return line) n.format n.policy kind

-- the line of a numeral: a skipped line has none
abbrev pub numeral_in : Option LineLayout → List ℕ → Option (List ℕ)
numeral_in None line = Some line
numeral_in (Some l) line = if is_skipped l line then None else Some (without_blanks l line)

abbrev pub numerals_in : Option LineLayout → List (List ℕ) → List (Option (List ℕ))
numerals_in l lines = map (numeral_in l) lines

-- these are the numbers of the numerals of these lines, one for each and in order
abbrev pub AreElements : Numerals → List (Option (List ℕ)) → List ℤ → Type 0
AreElements n [] [] = Unit {0}
AreElements n [] (bits ∷ numbers) = ⊥
AreElements n (None ∷ lines) numbers = AreElements n lines numbers
AreElements n (Some line ∷ lines) [] = ⊥
AreElements n (Some line ∷ lines) (bits ∷ numbers) = IsElement n line bits × AreElements n lines numbers

-- the first refused line of these lines, numbered from `k` on, is line `p`, and `kind` says why
abbrev pub RefusedFrom : ℕ → Numerals → List (Option (List ℕ)) → ℕ → ParseErrorKind → Type 0
RefusedFrom k n [] p kind = ⊥
RefusedFrom k n (None ∷ lines) p kind = RefusedFrom (k + 1) n lines p kind
RefusedFrom k n (Some line ∷ lines) p kind = (IsRefusedElement n line kind × (p ≡ k))
    ⊎ ((bits : ℤ) × IsElement n line bits × RefusedFrom (k + 1) n lines p kind)

-- why a list is not an array; without a numeral it is empty
abbrev pub HasFault : Numerals → List (Option (List ℕ)) → ArrayFault → Type 0
HasFault n all Empty = AreElements n all []
HasFault n all (Refused place kind) = RefusedFrom 1 n all place kind
HasFault n all NoMemory = ⊥

-- the line written for a fault
abbrev pub fault_line : ArrayFault → List ℕ
fault_line Empty = codes "error: line 1: no numeral\n"
fault_line (Refused place kind) = codes "error: line "
    ++ (decimal place ++ (codes ": " ++ (message_of kind ++ 10 ∷ [])))
fault_line NoMemory = []

-- the frame in which a rule writes a list
abbrev pub frame_of : ArrayRule → Frame
frame_of r = record { form = r.form; name = r.name; guard = r.guard; format = r.numerals.format }

-- the answer is the array of the input's numbers
pub record IsArray (r : ArrayRule) (input : List ℕ) (answer : AnswerText) : Type 0 where
  pub format : IsFormat r.numerals.format.width r.numerals.format.frac
  pub numbers : List ℤ
  pub some : ¬ (numbers ≡ [])
  pub elements : AreElements r.numerals (numerals_in r.layout.now (lines input)) numbers
  pub text : answer.text ≡ array_text (frame_of r) numbers
  pub fault : answer.fault ≡ false

-- the answer is the line of the input's first fault
pub record IsRefusal (r : ArrayRule) (input : List ℕ) (answer : AnswerText) : Type 0 where
  pub why : ArrayFault
  pub is : HasFault r.numerals (numerals_in r.layout.now (lines input)) why
  pub text : answer.text ≡ fault_line why
  pub fault : answer.fault ≡ true

abbrev pub IsArrayAnswer : ArrayRule → List ℕ → AnswerText → Type 0
IsArrayAnswer r input answer = IsArray r input answer ⊎ IsRefusal r input answer
