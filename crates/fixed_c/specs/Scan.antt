-- The result of a call that finds the numeral at the start of a text.
use Rattle.std.specs.Prelude.{◌≡◌, ℕ, List}
use Rattle.fixed_numeral.specs.Cause.{HasCause}
use Rattle.fixed_numeral.specs.Leading.{HasNoLeading, IsLeadingNumeral}
use Rattle.fixed_numeral.specs.Numeral.{base}
use Rattle.fixed_numeral.specs.declared.error.ParseErrorKind.{ParseErrorKind}
use Rattle.fixed_numeral.specs.declared.radix.Radix.{Radix}
use Rattle.fixed_c.specs.Arguments.{NamesRadix}
use Rattle.fixed_c.specs.Outcome.{ForKind, Unless}
use Rattle.fixed_c.specs.declared.refusal.Refusal.{Refusal}
use Rattle.fixed_c.specs.declared.refusal.Refusal.TheVariants.{BadRadix}

-- the longest prefix that is a numeral has `count` bytes
abbrev pub IsLeadingIn : List ℕ → ℕ → ℕ → Type 0
IsLeadingIn text radix count = (r : Radix) × (radix ≡ base r) × IsLeadingNumeral r text count

-- no prefix is a numeral, and `kind` says why the text is not
abbrev pub HasNoLeadingIn : List ℕ → ℕ → ParseErrorKind → Type 0
HasNoLeadingIn text radix kind = (r : Radix) × (radix ≡ base r) × HasNoLeading r text × HasCause r text kind

-- the refusal of a call with these arguments
abbrev pub ScanIsRefused : List ℕ → ℕ → Refusal → Type 0
ScanIsRefused text radix = Unless (NamesRadix radix) BadRadix (ForKind (HasNoLeadingIn text radix))
