-- Refused operands and options of `fixed pack`.
use Rattle.std.proofs.Common.{◌≡◌, ◌==◌, ◌∙◌, ℕ, List, None, Option, Some, ap, get_or, if◌then◌else◌, inl, inr, refl, subst, sym}
use Rattle.std.specs.Prelude.{codes}
use Rattle.command_line.specs.Words.{value_of, word_at}
use Rattle.command_line.specs.declared.given.Given.{Given}
use Rattle.fixed_bits.specs.Formats.{FormatParts}
use Rattle.fixed_command.specs.Asked.{IsNamed}
use Rattle.fixed_float.specs.declared.layout.FloatLayout.{FloatLayout}
use Rattle.fixed_float.specs.declared.layout.FloatLayout.TheVariants.{Binary32, Binary64}
use Rattle.fixed_pack.specs.declared.bits.PackBits.{PackBits}
use Rattle.fixed_pack.specs.declared.float_words.FloatWords.{FloatWords}
use Rattle.fixed_pack.specs.declared.pack.PackSettings.{PackSettings}
use Rattle.fixed.specs.Amounts.{IsDecimalAsked, NamesNoDecimal}
use Rattle.fixed.specs.Lines.{IsFormatAsked}
use Rattle.fixed.specs.Pack.{AreBitsAsked}
use Rattle.fixed.specs.Packing.{AreFloatsPacked, AreNumeralsPacked, IsAmountPack, IsAmountPackBy, IsBinaryPack, IsBinaryPackBy, IsLinesJob, IsPackAsked}
use Rattle.fixed.specs.Settings.{pack_input_text}
use Rattle.fixed.specs.declared.commands.pack.LinesRule.{LinesRule}
use Rattle.fixed.specs.declared.inputs.Job.{Job}
use Rattle.fixed.specs.declared.settings.PackInput.{PackInput}
use Rattle.fixed.specs.declared.settings.PackInput.TheVariants.{Bits, Floats, Numerals}
use Rattle.fixed.proofs.LawLemmas.{lines_one}
use Rattle.fixed.proofs.QuestionLemmas.{decimal_one}

input_at : List ℕ → PackInput
input_at word = if get_or word 0 0 == 116 then Numerals else if get_or word 0 0 == 98 then Bits else if get_or word 1 0 == 54 then Floats Binary64 else Floats Binary32

input_back : (a : PackInput) → input_at (pack_input_text a) ≡ a
unfolding input_at
input_back Numerals = refl
input_back Bits = refl
input_back (Floats Binary64) = refl
input_back (Floats Binary32) = refl

-- the option names one kind of input
input_one : (value : Option (List ℕ)) (a b : PackInput) → IsNamed PackInput pack_input_text Numerals value a → IsNamed PackInput pack_input_text Numerals value b → a ≡ b
input_one None a b x y = x ∙ sym y
input_one (Some word) a b x y = sym (input_back a) ∙ (ap input_at (sym x ∙ y) ∙ input_back b)

-- the job for a binary format is the one for this format and this kind of input
binary_by : (given : Given) (format : FormatParts) (input : PackInput) (job : Job) → IsFormatAsked (word_at given 0) format
    → IsNamed PackInput pack_input_text Numerals (value_of given (codes "from")) input → IsBinaryPack given job → IsBinaryPackBy input given format job
binary_by given format input job is from asked =
    subst (λ (i : PackInput). IsBinaryPackBy i given format job) (input_one (value_of given (codes "from")) asked.input input asked.is_input from)
    (subst (λ (f : FormatParts). IsBinaryPackBy asked.input given f job) (lines_one.format (word_at given 0) asked.format format asked.is_format is) asked.is_job)

-- numerals are packed, and their settings are invalid
pub numerals_refused : (given : Given) (format : FormatParts) (job : Job) → IsFormatAsked (word_at given 0) format → IsNamed PackInput pack_input_text Numerals (value_of given (codes "from")) Numerals
    → ((p : PackSettings) → ¬ AreNumeralsPacked given format p) → ¬ IsBinaryPack given job
numerals_refused given format job is from none asked = refused (binary_by given format Numerals job is from asked)
  where
    refused : ¬ IsBinaryPackBy Numerals given format job
    refused (p, are, lines) = none p are

-- numerals are packed, and no job packs lines
pub numeral_lines_refused : (given : Given) (format : FormatParts) (job : Job) → IsFormatAsked (word_at given 0) format → IsNamed PackInput pack_input_text Numerals (value_of given (codes "from")) Numerals
    → ((by : LinesRule) (j : Job) → ¬ IsLinesJob given by j) → ¬ IsBinaryPack given job
numeral_lines_refused given format job is from none asked = refused (binary_by given format Numerals job is from asked)
  where
    refused : ¬ IsBinaryPackBy Numerals given format job
    refused (p, are, lines) = none _ job lines

-- words of bits are packed, and their settings are invalid
pub bits_refused : (given : Given) (format : FormatParts) (job : Job) → IsFormatAsked (word_at given 0) format → IsNamed PackInput pack_input_text Numerals (value_of given (codes "from")) Bits
    → ((p : PackBits) → ¬ AreBitsAsked given format p) → ¬ IsBinaryPack given job
bits_refused given format job is from none asked = refused (binary_by given format Bits job is from asked)
  where
    refused : ¬ IsBinaryPackBy Bits given format job
    refused (p, are, lines) = none p are

-- words of bits are packed, and no job packs lines
pub bit_lines_refused : (given : Given) (format : FormatParts) (job : Job) → IsFormatAsked (word_at given 0) format → IsNamed PackInput pack_input_text Numerals (value_of given (codes "from")) Bits
    → ((by : LinesRule) (j : Job) → ¬ IsLinesJob given by j) → ¬ IsBinaryPack given job
bit_lines_refused given format job is from none asked = refused (binary_by given format Bits job is from asked)
  where
    refused : ¬ IsBinaryPackBy Bits given format job
    refused (p, are, lines) = none _ job lines

-- floats are packed, and their settings are invalid
pub floats_refused : (given : Given) (format : FormatParts) (layout : FloatLayout) (job : Job) → IsFormatAsked (word_at given 0) format → IsNamed PackInput pack_input_text Numerals (value_of given (codes "from")) (Floats layout)
    → ((f : FloatWords) → ¬ AreFloatsPacked given format layout f) → ¬ IsBinaryPack given job
floats_refused given format layout job is from none asked = refused (binary_by given format (Floats layout) job is from asked)
  where
    refused : ¬ IsBinaryPackBy (Floats layout) given format job
    refused (f, are, is_job) = none f are

-- no job packs lines, so no amount is packed
pub amount_lines_refused : (given : Given) (format : ℕ) (job : Job) → ((by : LinesRule) (j : Job) → ¬ IsLinesJob given by j) → ¬ IsAmountPack given format job
amount_lines_refused given format job none asked = refused asked.input asked.is_job
  where
    refused : (input : PackInput) → ¬ IsAmountPackBy input given format job
    refused Numerals (p, are, lines) = none _ job lines
    refused Bits (p, are, lines) = none _ job lines
    refused (Floats layout) x = x

-- the first operand names a decimal format, and no job for it is valid
pub decimal_refused : (given : Given) (format : ℕ) (job : Job) → IsDecimalAsked (word_at given 0) format → ¬ IsAmountPack given format job → ¬ IsPackAsked given job
decimal_refused given format job is none (inl (f, by, asked)) =
    none (subst (λ (n : ℕ). IsAmountPack given n job) (decimal_one (word_at given 0) f format by is) asked)
decimal_refused given format job is none (inr (names, asked)) = names format is

-- the first operand names no decimal format, and no job for a binary format is valid
pub binary_pack_refused : (given : Given) (job : Job) → NamesNoDecimal (word_at given 0) → ¬ IsBinaryPack given job → ¬ IsPackAsked given job
binary_pack_refused given job names none (inl (f, by, asked)) = names f by
binary_pack_refused given job names none (inr (no_name, asked)) = none asked
