-- Operands and options have at most one meaning.
use Rattle.std.specs.Prelude.{◌≡◌, ◌≤◌, ℕ, Bool, List, [], ◌∷◌, Option, string_bytes}
use Rattle.column_engine.specs.declared.columns.Column.{Column}
use Rattle.column_engine.specs.declared.columns.Column.TheVariants.{At, Named}
use Rattle.column_engine.specs.declared.columns.Destination.{Destination}
use Rattle.column_engine.specs.declared.columns.Range.{Range}
use Rattle.command_line.specs.declared.given.Given.{Given}
use Rattle.fixed_arrays.specs.declared.form.ArrayForm.{ArrayForm}
use Rattle.fixed_arrays.specs.declared.rule.Numerals.{Numerals}
use Rattle.fixed_bits.specs.Formats.{FormatParts}
use Rattle.fixed_command.specs.Layout.{LineLayout}
use Rattle.fixed_command.specs.declared.field.FieldForm.{FieldForm}
use Rattle.fixed_command.specs.declared.print.Print.{Print}
use Rattle.fixed_constants.specs.declared.form.Form.{Form}
use Rattle.fixed_fields.specs.declared.list.Field.{Field}
use Rattle.fixed_fit.specs.declared.question.Fractions.{Fractions}
use Rattle.fixed_numeral.specs.declared.radix.Radix.{Radix}
use Rattle.fixed_pack.specs.declared.endian.Endian.{Endian}
use Rattle.fixed_show.specs.declared.parts.Part.{Part}
use Rattle.fixed_words.specs.declared.rule.WordRule.{WordRule}
use Rattle.fixed.specs.Columns.{AreColumnsAsked, IsDelimiterWord, IsDestinationAsked, IsFormAsked, IsRangeWord}
use Rattle.fixed.specs.Constants.{IsArrayAsked, IsFormAsked as IsConstantsAsked, IsGuardAsked, IsNameAsked}
use Rattle.fixed.specs.Constants.{IsNumeralsAsked}
use Rattle.fixed.specs.Fit.{IsErrorAsked, IsFractionsAsked}
use Rattle.fixed.specs.Lines.{IsFormatAsked, IsKindAsked, IsLayoutAsked, IsPartAsked, IsTargetAsked}
use Rattle.fixed.specs.Questions.{AreNames}
use Rattle.fixed.specs.Settings.{IsCountWord, IsExcerptAsked, IsLimitAsked, IsPrintAsked, endian_text}
use Rattle.fixed.specs.Words.{IsWordRuleAsked}
use Rattle.fixed.specs.declared.commands.unpack_words.Excerpt.{Excerpt}

-- at most one element has the property
abbrev pub IsOne : (A : Type 0) → (A → Type 0) → Type 0
IsOne A Is = (a b : A) → Is a → Is b → a ≡ b

-- distinct elements have distinct words
abbrev pub AreApart : (A : Type 0) → (A → List ℕ) → Type 0
AreApart A word = (a b : A) → word a ≡ word b → a ≡ b

-- the same form of a field
pub record IsSameForm (a b : FieldForm) : Type 0 where
  pub trimmed : a.is_trimmed ≡ b.is_trimmed
  pub decimal : a.decimal ≡ b.decimal
  pub mark : a.mark ≡ b.mark
  pub thousands : a.thousands.now ≡ b.thousands.now
  pub groups : a.has_groups ≡ b.has_groups
  pub empty : a.empty ≡ b.empty

-- the same column
abbrev pub IsSameColumn : Column → Column → Type 0
IsSameColumn (At a) (At b) = a ≡ b
IsSameColumn (At a) (Named name range) = ⊥
IsSameColumn (Named name range) (At b) = ⊥
IsSameColumn (Named name range) (Named other span) = (string_bytes name ≡ string_bytes other) × (range ≡ span)

abbrev pub AreSameColumns : List Column → List Column → Type 0
AreSameColumns [] [] = Unit {0}
AreSameColumns [] (b ∷ bs) = ⊥
AreSameColumns (a ∷ us) [] = ⊥
AreSameColumns (a ∷ us) (b ∷ bs) = IsSameColumn a b × AreSameColumns us bs

-- the same separators, the same token, and the same refused words that stay
pub record IsSameWordRule (a b : WordRule) : Type 0 where
  pub separators : a.separators.now ≡ b.separators.now
  pub token : a.token ≡ b.token
  pub leaves : a.leaves ≡ b.leaves

-- the laws for `fixed column`
pub record ColumnsAreTheOnes : Type 0 where
  pub delimiter : (word : List ℕ) → IsOne ℕ (IsDelimiterWord word)
  pub skip : (word : List ℕ) → IsOne ℕ (IsCountWord word)
  pub form : (given : Given) (a b : FieldForm) → IsFormAsked given a → IsFormAsked given b → IsSameForm a b
  pub range : (word : List ℕ) → IsOne Range (IsRangeWord word)
  pub columns : (given : Given) (us bs : List Column) (m n : ℕ) → AreColumnsAsked given us m
      → AreColumnsAsked given bs n → AreSameColumns us bs × (m ≡ n)
  pub destination : (given : Given) → IsOne Destination (IsDestinationAsked given)

-- the laws for `fixed constants`
pub record ConstantsAreTheOnes : Type 0 where
  pub form : (word : Option (List ℕ)) (a b : Form) (m n : ℕ) → IsConstantsAsked word a m → IsConstantsAsked word b n
      → (a ≡ b) × (m ≡ n)
  pub array : (word : Option (List ℕ)) → IsOne ArrayForm (IsArrayAsked word)
  pub guard : (header : Bool) (word : Option (List ℕ)) → IsOne (List ℕ) (IsGuardAsked header word)
  pub name : (form : ArrayForm) (guard : List ℕ) (word : Option (List ℕ))
      → IsOne (List ℕ) (IsNameAsked form guard word)
  pub numerals : (given : Given) (word : List ℕ) → IsOne Numerals (IsNumeralsAsked given word)

-- the laws for formats, targets, parts and fields of words, layouts of lines, words of texts, and widths
pub record LinesAreTheOnes : Type 0 where
  pub format : (word : Option (List ℕ)) → IsOne FormatParts (IsFormatAsked word)
  pub target : (word : Option (List ℕ)) (source : FormatParts) (place : ℕ) (a b : FormatParts) (m n : ℕ)
      → IsTargetAsked word source place a m → IsTargetAsked word source place b n → (a ≡ b) × (m ≡ n)
  pub part : (format : FormatParts) (given : Given) → IsOne (Option Part) (IsPartAsked format given)
  pub fields : (words : List (List ℕ)) → IsOne (List Field) (AreNames words)
  pub layout : (given : Given) → IsOne LineLayout (IsLayoutAsked given)
  pub words : (given : Given) (a b : WordRule) → IsWordRuleAsked given a → IsWordRuleAsked given b → IsSameWordRule a b
  pub kind : (signed bounded : Bool) (word : Option (List ℕ)) → IsOne FormatParts (IsKindAsked signed bounded word)

-- the laws for the printed part, an order of bytes, the words that are read, a limit, an error, and fraction lengths
pub record SettingsAreTheOnes : Type 0 where
  pub print : (part places mode : Option (List ℕ)) → IsOne Print (IsPrintAsked part places mode)
  pub endian : AreApart Endian endian_text
  pub excerpt : (given : Given) → IsOne Excerpt (IsExcerptAsked given)
  pub limit : (word : Option (List ℕ)) → IsOne (Option ℕ) (IsLimitAsked word)
  pub error : (radix : Radix) (word : Option (List ℕ)) → IsOne (Option (List ℕ)) (IsErrorAsked radix word)
  pub fractions : (width : ℕ) (word : Option (List ℕ)) (beyond : Bool)
      → width ≤ 64 → IsOne Fractions (IsFractionsAsked width word beyond)
