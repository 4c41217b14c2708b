-- The value of an option names at most one thing.
use Rattle.std.specs.Prelude.{◌≡◌, ℕ, List, Option}
use Rattle.fixed_bits.specs.declared.format.Policy.{Policy}
use Rattle.fixed_bits.specs.declared.mode.ReadMode.{ReadMode}
use Rattle.fixed_numeral.specs.declared.radix.Radix.{Radix}
use Rattle.fixed_respell.specs.Words.{mode_text, policy_text, radix_text}
use Rattle.fixed_command.specs.Asked.{IsNamed, IsPrintNamed, spelling_text}
use Rattle.fixed_command.specs.declared.print.Print.{Print}
use Rattle.fixed_command.specs.declared.spelling.Spelling.{Spelling}

-- by these texts a value names at most one element, also if the option is left out
abbrev pub NamedIsTheOne : (A : Type 0) → (A → List ℕ) → Type 0
NamedIsTheOne A text = (plain : A) (value : Option (List ℕ)) (a b : A) → IsNamed A text plain value a
    → IsNamed A text plain value b → a ≡ b

abbrev pub PrintNamedIsTheOne : Type 0
PrintNamedIsTheOne = (value : Option (List ℕ)) (a b : Print) → IsPrintNamed value a → IsPrintNamed value b → a ≡ b

-- the law for each option
pub record NamesAreTheOnes : Type 0 where
  pub radix : NamedIsTheOne Radix radix_text
  pub policy : NamedIsTheOne Policy policy_text
  pub mode : NamedIsTheOne ReadMode mode_text
  pub spelling : NamedIsTheOne Spelling spelling_text
  pub print : PrintNamedIsTheOne
