-- The results of the calls for the names of formats.
use Rattle.std.specs.Prelude.{◌≡◌, ℕ, List}
use Rattle.fixed_bits.specs.Formats.{FormatParts}
use Rattle.fixed_names.specs.Names.{IsName}
use Rattle.fixed_respell.specs.Words.{format_text}
use Rattle.fixed_c.specs.Arguments.{NamesFormat}
use Rattle.fixed_c.specs.Numbers.{flag_of}
use Rattle.fixed_c.specs.Outcome.{Never, Unless}
use Rattle.fixed_c.specs.declared.arguments.FixedFormat.{FixedFormat}
use Rattle.fixed_c.specs.declared.refusal.Refusal.{Refusal}
use Rattle.fixed_c.specs.declared.refusal.Refusal.TheVariants.{BadFormat, BadWord}

-- the word names some format
abbrev pub NamesSomeFormat : List ℕ → Type 0
NamesSomeFormat word = (f : FormatParts) × IsName word f

-- the word names the given format, whose flag is 1 if it is signed
pub record IsFormatNamed (word : List ℕ) (given : FixedFormat) : Type 0 where
  pub format : FormatParts
  pub word_is : IsName word format
  pub is_signed : given.is_signed ≡ flag_of format.signed
  pub width : given.width ≡ format.width
  pub frac : given.frac ≡ format.frac

-- the word of a format, as the programs write it
pub record IsFormatText (word : List ℕ) (f : FormatParts) : Type 0 where
  pub format : NamesFormat f
  pub text : word ≡ format_text f

-- the refusals of the two calls
abbrev pub WordIsRefused : List ℕ → Refusal → Type 0
WordIsRefused word = Unless (NamesSomeFormat word) BadWord Never

abbrev pub FormatIsRefused : FormatParts → Refusal → Type 0
FormatIsRefused f = Unless (NamesFormat f) BadFormat Never
