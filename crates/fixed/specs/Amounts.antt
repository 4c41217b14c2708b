-- What the words of a command ask for whose source is a decimal format.
use Rattle.std.specs.Prelude.{◌≡◌, ◌⊎◌, ℕ, Bool, false, None, Option, Some, List, codes}
use Rattle.command_line.specs.Words.{has_flag, keyword_at, value_of}
use Rattle.command_line.specs.declared.given.Given.{Given}
use Rattle.fixed_amounts.specs.Names.{IsDecimalName}
use Rattle.fixed_amounts.specs.Reading.{words as unit_words}
use Rattle.fixed_amounts.specs.declared.facts.AmountQuestion.{AmountQuestion}
use Rattle.fixed_amounts.specs.declared.facts.AmountQuestion.TheVariants as question
use Rattle.fixed_amounts.specs.declared.settings.AmountPrint.{AmountPrint}
use Rattle.fixed_amounts.specs.declared.settings.AmountPrint.TheVariants as amount
use Rattle.fixed_amounts.specs.declared.settings.AmountSettings.{AmountSettings}
use Rattle.fixed_amounts.specs.declared.settings.AmountSpelling.{AmountSpelling}
use Rattle.fixed_amounts.specs.declared.fault.AmountFault.{AmountFault}
use Rattle.fixed_amounts.specs.declared.settings.AmountSpelling.TheVariants as spelling
use Rattle.fixed_bits.specs.declared.format.Policy.{Policy}
use Rattle.fixed_bits.specs.declared.format.Policy.TheVariants.{Checked}
use Rattle.fixed_bits.specs.declared.mode.ReadMode.{ReadMode}
use Rattle.fixed_bits.specs.declared.mode.ReadMode.TheVariants.{NearestEven}
use Rattle.fixed_command.specs.Amounts.{HasAmountsRun}
use Rattle.fixed_command.specs.Asked.{IsNamed, IsPrintNamed, spelling_text}
use Rattle.fixed_command.specs.Layout.{LineLayout}
use Rattle.fixed_command.specs.Limits.{limit_of}
use Rattle.fixed_command.specs.declared.amounts.AmountLines.{AmountLines}
use Rattle.fixed_command.specs.declared.print.Print.{Print}
use Rattle.fixed_command.specs.declared.print.Print.TheVariants.{All, Bits, Hex, Places, Readmemh, Text, Value}
use Rattle.fixed_command.specs.declared.spelling.Spelling.{Spelling}
use Rattle.fixed_command.specs.declared.spelling.Spelling.TheVariants.{Numeral, Word}
use Rattle.fixed_pack.specs.declared.amounts.PackAmounts.{PackAmounts}
use Rattle.fixed_pack.specs.declared.bits.PackBits.{PackBits}
use Rattle.fixed_pack.specs.declared.endian.Endian.{Endian}
use Rattle.fixed_pack.specs.declared.endian.Endian.TheVariants.{Little}
use Rattle.fixed_respell.specs.Words.{mode_text, policy_text}
use Rattle.fixed_respell.specs.declared.refusal.Refusal.{Refusal}
use Rattle.line_engine.specs.Program.{Outside}
use Rattle.line_engine.specs.declared.status.Status.{Status}
use Rattle.line_engine.specs.declared.status.Status.TheVariants.{NoMemory}
use Rattle.run_engine.specs.declared.refusals.Refusals.{Refusals}
use Rattle.fixed.specs.Convert.{HasNoWordOption}
use Rattle.fixed.specs.Inputs.{EndsBetween, RunsBetween}
use Rattle.fixed.specs.Lines.{IsLayoutAsked, is_like_format}
use Rattle.fixed.specs.Pack.{AreBitsAsked}
use Rattle.fixed.specs.Settings.{endian_text, pack_input_text}
use Rattle.fixed.specs.declared.inputs.Job.{Job}
use Rattle.fixed.specs.declared.inputs.Job.TheVariants as job
use Rattle.fixed.specs.declared.settings.PackInput.{PackInput}
use Rattle.fixed.specs.declared.settings.PackInput.TheVariants.{Numerals}

-- what of an amount is written for a part of an answer: its text is its exact value
abbrev pub amount_print : Print → AmountPrint
amount_print Text = amount.Text
amount_print (Places count mode) = amount.Text
amount_print Bits = amount.Units
amount_print Hex = amount.Hex
amount_print Readmemh = amount.HexDigits
amount_print Value = amount.Text
amount_print All = amount.All

-- how a line says an amount: the bits are the count of units
abbrev pub amount_spelling : Spelling → AmountSpelling
amount_spelling Numeral = spelling.Numeral
amount_spelling Word = spelling.Units

-- decimals are in radix 10
abbrev pub IsRadixTen : Option (List ℕ) → Type 0
IsRadixTen None = Unit {0}
IsRadixTen (Some word) = word ≡ codes "10"

-- no option is there that means nothing for a decimal format
pub record HasNoBinaryOption (given : Given) : Type 0 where
  pub radix : IsRadixTen (value_of given (codes "radix"))
  pub target_mode : value_of given (codes "target-mode") ≡ None
  pub places : value_of given (codes "places") ≡ None
  pub places_mode : value_of given (codes "places-mode") ≡ None
  pub words : has_flag given (codes "words") ≡ false
  pub report : value_of given (codes "report") ≡ None

-- the options name these settings
pub record IsAmountAsked (given : Given) (format : ℕ) (s : AmountSettings) : Type 0 where
  pub binary : HasNoBinaryOption given
  pub is_format : s.format ≡ format
  pub spells : Spelling
  pub is_spelling : IsNamed Spelling spelling_text Numeral (value_of given (codes "from")) spells
  pub spelling_is : s.spelling ≡ amount_spelling spells
  pub policy : IsNamed Policy policy_text Checked (value_of given (codes "policy")) s.policy
  pub mode : IsNamed ReadMode mode_text NearestEven (value_of given (codes "mode")) s.mode
  pub prints : Print
  pub is_print : IsPrintNamed (value_of given (codes "print")) prints
  pub print_is : s.print ≡ amount_print prints

-- and this question about a numeral
pub record IsNumeralAsked (given : Given) (format : ℕ) (q : AmountQuestion) : Type 0 where
  pub radix : IsRadixTen (value_of given (codes "radix"))
  pub policy : Policy
  pub is_policy : IsNamed Policy policy_text Checked (value_of given (codes "policy")) policy
  pub mode : ReadMode
  pub is_mode : IsNamed ReadMode mode_text NearestEven (value_of given (codes "mode")) mode
  pub question_is : q ≡ question.Numeral format policy mode

-- and this about a count of units
pub record AreUnitsAsked (given : Given) (format : ℕ) (q : AmountQuestion) : Type 0 where
  pub radix : IsRadixTen (value_of given (codes "radix"))
  pub field : value_of given (codes "field") ≡ None
  pub swap : has_flag given (codes "swap") ≡ false
  pub question_is : q ≡ question.Units format

-- ---- the decimal format of a word
abbrev pub IsDecimalAsked : Option (List ℕ) → ℕ → Type 0
IsDecimalAsked None format = ⊥
IsDecimalAsked (Some word) format = IsDecimalName word format

abbrev pub NamesNoDecimal : Option (List ℕ) → Type 0
NamesNoDecimal word = (format : ℕ) → ¬ IsDecimalAsked word format

-- what is requested if the word names a decimal format, and what if it names none
abbrev pub IsBySource : Option (List ℕ) → (ℕ → Type 0) → Type 0 → Type 0
IsBySource word Amount Binary = ((format : ℕ) × IsDecimalAsked word format × Amount format)
    ⊎ (NamesNoDecimal word × Binary)

-- the word is no target: it has not the shape of a format, and names no decimal format
abbrev pub IsUnlikeFormat : Option (List ℕ) → Type 0
IsUnlikeFormat None = Unit {0}
IsUnlikeFormat (Some word) = is_like_format word ≡ false

pub record IsNoTarget (word : Option (List ℕ)) : Type 0 where
  pub binary : IsUnlikeFormat word
  pub decimal : NamesNoDecimal word

-- ---- lines
-- the job for lines that spell amounts: there is no target, and no option for words
pub record AreAmountLinesAsked (given : Given) (format : ℕ) (asked : Job) : Type 0 where
  pub target : IsNoTarget (keyword_at given 1)
  pub alone : HasNoWordOption given
  pub settings : AmountSettings
  pub are_settings : IsAmountAsked given format settings
  pub layout : LineLayout
  pub is_layout : IsLayoutAsked given layout
  pub job_is : asked ≡ job.Amounts (record { settings = settings; layout = layout })

-- a run over lines that spell amounts; without memory nothing was read or written
pub record RunsAmounts (limit : ℕ) (lines : AmountLines) (status : Status) (before after : Outside) : Type 0 where
  pub run : ¬ (status ≡ NoMemory) → (refusals : Refusals (Refusal AmountFault))
      × HasAmountsRun limit lines before after status refusals
  pub memory : status ≡ NoMemory → after ≡ before

-- the lines of an input within a limit, by whether a write of their rejects failed
abbrev pub AmountsEndBetween : Bool → Option ℕ → AmountLines → Status → Option (List ℕ) → Option (List ℕ)
    → Option (List ℕ) → Type 0
AmountsEndBetween failed limit lines = EndsBetween (λ status. RunsBetween (RunsAmounts (limit_of limit) lines status))
    failed

-- ---- packing
-- lines are packed so
pub record IsAmountPackAsked (given : Given) (format : ℕ) (p : PackAmounts) : Type 0 where
  pub input : IsNamed PackInput pack_input_text Numerals (value_of given (codes "from")) Numerals
  pub radix : IsRadixTen (value_of given (codes "radix"))
  pub report : value_of given (codes "report") ≡ None
  pub format_is : p.format ≡ format
  pub policy : IsNamed Policy policy_text Checked (value_of given (codes "policy")) p.policy
  pub mode : IsNamed ReadMode mode_text NearestEven (value_of given (codes "mode")) p.mode
  pub endian : IsNamed Endian endian_text Little (value_of given (codes "endian")) p.endian

-- words of bits are packed so: each is a count of units
abbrev pub AreUnitBitsAsked : Given → PackBits → Type 0
AreUnitBitsAsked given p = IsRadixTen (value_of given (codes "radix")) × AreBitsAsked given unit_words p
