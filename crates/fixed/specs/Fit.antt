-- The meaning of the operands and options of `fixed fit`.
use Rattle.std.specs.Prelude.{◌≡◌, ◌≢◌, ◌^◌, ◌≤◌, ◌==◌, ℕ, suc, zero, Bool, true, false, List, [], ◌∷◌, ◌++◌}
use Rattle.std.specs.Prelude.{None, Option, Some, codes, decimal, drop, get_or, is_some, map, option_map, take}
use Rattle.std.specs.Str.{bytes_eq}
use Rattle.std.specs.Str.Parse.{IsNumeral as IsNumber, digits_value}
use Rattle.command_line.specs.Words.{has_flag, keyword_at, value_of}
use Rattle.command_line.specs.declared.given.Given.{Given}
use Rattle.fixed_command.specs.Asked.{IsNamed}
use Rattle.fixed_fit.specs.declared.question.Fractions.{Fractions}
use Rattle.fixed_fit.specs.declared.question.Fractions.TheVariants.{Beyond, Whole}
use Rattle.fixed_fit.specs.declared.question.Widths.{Widths}
use Rattle.fixed_fit.specs.declared.question.Widths.TheVariants.{Any, One, Types}
use Rattle.fixed_numeral.specs.Numeral.{IsNumeral}
use Rattle.fixed_numeral.specs.declared.radix.Radix.{Radix}
use Rattle.fixed_numeral.specs.declared.radix.Radix.TheVariants.{Bin, Dec, Hex, Oct}
use Rattle.fixed_respell.specs.Words.{radix_text}
use Rattle.fixed_write.specs.Texts.{last_digits}
use Rattle.fixed.specs.Lines.{IsKindAsked, IsLayoutIfAsked, has_layout}
use Rattle.fixed.specs.declared.commands.fit.FitTask.{FitTask}

-- the widths to try: any width with `--any`, which requires an error and excludes a width; else the given width; else
-- those of the types
abbrev pub widths_asked : Bool → Bool → Bool → Option Widths
widths_asked true true false = Some Any
widths_asked true true true = None
widths_asked true false width = None
widths_asked false error true = Some One
widths_asked false error false = Some Types

-- the value is a number of whole bits, at most `width`
pub record IsWholeWord (width : ℕ) (word : List ℕ) (least : ℕ) : Type 0 where
  pub most : least ≤ width
  pub text : word ≡ decimal least

-- the fraction lengths that a format of this width may have: up to 64 with `--beyond`, else those that leave the given
-- whole bits, or those up to the width if none are given; not both options
abbrev pub IsFractionsAsked : ℕ → Option (List ℕ) → Bool → Fractions → Type 0
IsFractionsAsked width None beyond (Whole least) = (beyond ≡ false) × (least ≡ 0)
IsFractionsAsked width None beyond Beyond = beyond ≡ true
IsFractionsAsked width (Some word) beyond (Whole least) = (beyond ≡ false) × IsWholeWord width word least
IsFractionsAsked width (Some word) beyond Beyond = ⊥

-- 2^-k in decimal: with k digits after the point, those of 5^k
abbrev pub half_power : ℕ → List ℕ
half_power zero = codes "1"
half_power (suc k) = codes "0." ++ last_digits 10 false (suc k) (5 ^ suc k)

-- the word is decimal digits of a number up to 1,000
pub record IsPower (word : List ℕ) : Type 0 where
  pub digits : IsNumber 10 word
  pub most : digits_value 10 word ≤ 1000

-- 2^-k as a numeral of a radix, for the digits of k
abbrev pub power_text : Radix → List ℕ → List ℕ
power_text Dec digits = half_power (digits_value 10 digits)
power_text Bin digits = codes "1p-" ++ digits
power_text Oct digits = codes "1p-" ++ digits
power_text Hex digits = codes "1p-" ++ digits

-- the numeral of a power, if the word is such a k
abbrev pub IsPowerWord : Radix → List ℕ → List ℕ → Type 0
IsPowerWord radix word numeral = IsPower word × (numeral ≡ power_text radix word)

-- a value that begins with `2^-` is a power; any other is itself a numeral, without a minus
abbrev pub IsErrorBy : Bool → Radix → List ℕ → List ℕ → Type 0
IsErrorBy true radix word numeral = IsPowerWord radix (drop 3 word) numeral
IsErrorBy false radix word numeral = (get_or word 0 0 ≢ 45) × IsNumeral radix word × (numeral ≡ word)

abbrev pub IsErrorNumeral : Radix → List ℕ → List ℕ → Type 0
IsErrorNumeral radix word = IsErrorBy (bytes_eq (take 3 word) (codes "2^-")) radix word

-- the error that the value gives, or none without a value
abbrev pub IsErrorAsked : Radix → Option (List ℕ) → Option (List ℕ) → Type 0
IsErrorAsked radix None None = Unit {0}
IsErrorAsked radix None (Some numeral) = ⊥
IsErrorAsked radix (Some word) None = ⊥
IsErrorAsked radix (Some word) (Some numeral) = IsErrorNumeral radix word numeral

-- whether a word begins with a hyphen before another byte
abbrev pub has_hyphen : List ℕ → Bool
has_hyphen [] = false
has_hyphen (first ∷ []) = false
has_hyphen (first ∷ second ∷ bytes) = first == 45

abbrev pub IsNoHyphenWord : Option (List ℕ) → Type 0
IsNoHyphenWord None = Unit {0}
IsNoHyphenWord (Some word) = has_hyphen word ≡ false

-- no operand before `--` does
abbrev pub HasNoHyphen : Given → Type 0
HasNoHyphen given = (place : ℕ) → IsNoHyphenWord (keyword_at given place)

-- the question about each list
pub record IsFitAsked (given : Given) (task : FitTask) : Type 0 where
  pub kind : IsKindAsked (has_flag given (codes "signed")) (is_some (value_of given (codes "error")))
      (value_of given (codes "width")) task.question.kind
  pub layout : IsLayoutIfAsked given task.layout
  pub radix : IsNamed Radix radix_text Dec (value_of given (codes "radix")) task.question.radix
  pub fractions : IsFractionsAsked task.question.kind.width (value_of given (codes "whole"))
      (has_flag given (codes "beyond")) task.question.fractions
  pub reason : task.question.is_reason_asked ≡ has_flag given (codes "why")
  pub range : task.question.is_range ≡ has_flag given (codes "range")
  pub error : IsErrorAsked task.question.radix (value_of given (codes "error"))
      (option_map (λ text. text.items) task.error)
  pub widths : widths_asked (has_flag given (codes "any")) (is_some (value_of given (codes "error")))
      (is_some (value_of given (codes "width"))) ≡ Some task.widths

-- a list of two lines, the only operands
abbrev pub AreEnds : List (List ℕ) → List ℕ → Type 0
AreEnds [] list = ⊥
AreEnds (low ∷ []) list = ⊥
AreEnds (low ∷ high ∷ []) list = list ≡ (low ++ 10 ∷ []) ++ (high ++ 10 ∷ [])
AreEnds (low ∷ high ∷ word ∷ words) list = ⊥

-- the list of the two ends of a range: no option is given that has a meaning only for an input
pub record IsRangeAsked (given : Given) (list : List ℕ) : Type 0 where
  pub layout : has_layout given ≡ false
  pub limit : value_of given (codes "limit") ≡ None
  pub ends : AreEnds (map (λ s. s.now) given.words.items) list
