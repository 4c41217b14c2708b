-- Lemmas for the proofs of dependent crates.
use Rattle.std.specs.Prelude.{◌≡◌, ℕ, ◌+◌, ◌*◌, ◌^◌, ◌<◌, List, ◌++◌, length, take, drop}
use Rattle.std.specs.Int.Digits.{number_from_digits, AllBelowBase}
use Rattle.fixed_numeral.specs.declared.radix.Radix.{Radix}
use Rattle.fixed_numeral.specs.Laws.{PartsAreDetermined, OneCause, LiteralIsDetermined, OneLiteralCause, MessageIsShort}
use Rattle.fixed_numeral.specs.Literal.{without_underscores}
use Rattle.fixed_numeral.specs.Numeral.{Parts}
use Rattle.fixed_numeral.specs.Place.{NoTrailingZero}
use Rattle.fixed_numeral.specs.Value.{magnitude}
use Rattle.fixed_numeral.proofs.LawLemmas
use Rattle.fixed_numeral.proofs.LiteralScanLemmas
use Rattle.fixed_numeral.proofs.MessageLemmas
use Rattle.fixed_numeral.proofs.NumeralLemmas
use Rattle.fixed_numeral.proofs.PlaceLemmas
use Rattle.fixed_numeral.proofs.SpelledLemmas
use Rattle.fixed_numeral.proofs.ValueLemmas

-- ---- numerals and literals
pub parts_unique : PartsAreDetermined
parts_unique = NumeralLemmas.parts_unique

pub one_cause : OneCause
one_cause = LawLemmas.one_cause

pub one_literal : LiteralIsDetermined
one_literal = LawLemmas.one_literal

pub one_literal_cause : OneLiteralCause
one_literal_cause = LawLemmas.one_literal_cause

pub without_append : (xs ys : List ℕ) → without_underscores (xs ++ ys) ≡ without_underscores xs ++ without_underscores ys
without_append = LiteralScanLemmas.without_append

pub magnitude_pos : (r : Radix) (p : Parts) → 0 < (magnitude r p).den
magnitude_pos = ValueLemmas.magnitude_pos

-- ---- lists of digits
pub below_split : (b : ℕ) (core : List ℕ) (q : ℕ) → AllBelowBase b core → AllBelowBase b (take q core) × AllBelowBase b (drop q core)
below_split = PlaceLemmas.below_split

pub trailing_back : (core : List ℕ) (p : ℕ) → NoTrailingZero core → NoTrailingZero (drop p core)
trailing_back = PlaceLemmas.trailing_back

pub number_append : (b : ℕ) (xs ys : List ℕ) → number_from_digits b (xs ++ ys) ≡ number_from_digits b xs * b ^ length ys + number_from_digits b ys
number_append = SpelledLemmas.number_append

-- ---- powers
pub pow-mul : (b k j : ℕ) → (b ^ k) ^ j ≡ b ^ (k * j)
pow-mul = SpelledLemmas.pow-mul

-- ---- messages
pub message_short : MessageIsShort
message_short = MessageLemmas.message_short
