-- What a call that reads an amount returns, from the options of the call.
use Rattle.std.proofs.Common.{◌≡◌, ◌↔◌, inl, inr, subst, ℕ, ℤ, Bool, List, Result, Ok, Err, IsTrue, true}
use Rattle.std.specs.Prelude.{MatchResult}
use Rattle.fixed_bits.specs.Images.{IsImage, IsOutOfRangeBy}
use Rattle.fixed_bits.specs.Numbers.{IsNumber}
use Rattle.fixed_bits.specs.Ranges.{IsOutOfRange}
use Rattle.fixed_bits.specs.declared.format.Policy.{Policy}
use Rattle.fixed_bits.specs.declared.format.Policy.TheVariants.{Checked}
use Rattle.fixed_bits.specs.declared.mode.ReadMode.{ReadMode}
use Rattle.fixed_decimal.specs.Decimals.{IsDecimalReading, IsReadDecimal}
use Rattle.fixed_decimal.specs.declared.number.DecimalNumber.{DecimalNumber}
use Rattle.fixed_numeral.specs.Numeral.{Parts, HasNumeral}
use Rattle.fixed_numeral.specs.declared.radix.Radix.TheVariants.{Dec}
use Rattle.fixed_c.specs.Decimals.{DecimalIsRefused, DecimalNotRead, DecimalOverflows, HasUnits, IsDecimalRead, NamesDecimal, ReadsDecimalRow}
use Rattle.fixed_c.specs.Floats.{NamesBoth}
use Rattle.fixed_c.specs.Inner.Asked.{RefusesRow}
use Rattle.fixed_c.specs.Inner.Decimals.{AreDecimalNamed, IsDecimalNotReadAsAsked, IsDecimalReadAsAsked, IsDecimalUnnamed, ReadsDecimalAsked}
use Rattle.fixed_c.specs.Numbers.{flag_of}
use Rattle.fixed_c.specs.Rows.{text_of_row}
use Rattle.fixed_c.specs.declared.decimals.DecimalAsked.{DecimalAsked}
use Rattle.fixed_c.specs.declared.number.FixedNumber.{FixedNumber}
use Rattle.fixed_c.specs.declared.refusal.Refusal.{Refusal}

-- ---- the read number, brought into 64 bits
module _ (text : List ℕ) (places : ℕ) (p : Policy) (m : ReadMode) (found : DecimalNumber) (parts : Parts) (has : HasNumeral Dec text parts) (is : IsDecimalReading m parts found) (format : found.format ≡ places) where
  units_are : HasUnits text places m is.number
  units_are = record { parts = parts; has = has; read = subst (λ n. IsReadDecimal m parts n is.number) format is.read }

  pub decimal_read : (n : FixedNumber) (image : ℤ) (out : Bool) → NamesDecimal places
      → ((v : ℤ) → IsNumber found.number v → IsImage p true 64 v image) → ((v : ℤ) → IsNumber found.number v → IsTrue out ↔ IsOutOfRangeBy p true 64 v)
      → image ≡ n.bits → n.overflowed ≡ flag_of out → IsDecimalRead text places n p m
  decimal_read n image out named images range bits_are flag_is = record {
    format = named;
    number = is.number;
    has = units_are;
    brought = record { image = image; image_is = images is.number is.holds; bits_are = bits_are; overflowed = out; flag_is = flag_is; overflowed_is = range is.number is.holds };
  }

  pub decimal_out : ((v : ℤ) → IsNumber found.number v → (p ≡ Checked) × IsOutOfRange true 64 v) → DecimalOverflows text places p m
  decimal_out out =
      let why = out is.number is.holds in
      record { number = is.number; has = units_are; out = record { checked = why.0; out = why.1 } }

-- ---- an invalid option refuses the reading
pub decimal_unnamed : (text : List ℕ) (places policy mode : ℕ) (refusal : Refusal) → IsDecimalUnnamed places policy mode refusal → DecimalIsRefused text places policy mode refusal
decimal_unnamed text places policy mode refusal (inl a) = inl a
decimal_unnamed text places policy mode refusal (inr (a, inl b)) = inr (a, inl b)
decimal_unnamed text places policy mode refusal (inr (a, inr (b, inl d))) = inr (a, inr (b, inl d))
decimal_unnamed text places policy mode refusal (inr (a, inr (b, inr (d, none)))) = absurd none

module _ (text : List ℕ) (places policy mode : ℕ) (asked : DecimalAsked) (named : AreDecimalNamed places policy mode asked) where
  pub decimal_refused : (refusal : Refusal) → IsDecimalNotReadAsAsked text asked refusal → DecimalIsRefused text places policy mode refusal
  decimal_refused refusal why =
      inr (
        named.format_named,
        inr (
          (asked.policy, named.policy_is),
          inr (
            (asked.mode, named.mode_is),
            record {
              the_policy = asked.policy;
              the_mode = asked.mode;
              policy_is = named.policy_is;
              mode_is = named.mode_is;
              holds = subst (λ (n : ℕ). DecimalNotRead text n asked.policy asked.mode refusal) named.format_is why;
            },
          ),
        ),
      )

  pub is_decimal_read : (n : FixedNumber) → IsDecimalReadAsAsked text asked n → NamesBoth policy mode (IsDecimalRead text places n)
  is_decimal_read n is = record {
    the_policy = asked.policy;
    the_mode = asked.mode;
    policy_is = named.policy_is;
    mode_is = named.mode_is;
    holds = subst (λ (k : ℕ). IsDecimalRead text k n asked.policy asked.mode) named.format_is is;
  }

  pub decimal_answered : (answer : Result FixedNumber Refusal) → MatchResult answer (IsDecimalReadAsAsked text asked) (IsDecimalNotReadAsAsked text asked)
      → MatchResult answer (λ n. NamesBoth policy mode (IsDecimalRead text places n)) (DecimalIsRefused text places policy mode)
  decimal_answered (Ok n) is = is_decimal_read n is
  decimal_answered (Err refusal) why = decimal_refused refusal why

-- ---- rows
pub decimal_row_asked : (rows : List ℕ) (size places policy mode : ℕ) (asked : DecimalAsked) → AreDecimalNamed places policy mode asked
    → (i : ℕ) (n : FixedNumber) (code : ℕ) → ReadsDecimalAsked rows size asked i n code → ReadsDecimalRow rows size places policy mode i n code
decimal_row_asked rows size places policy mode asked named i n code (inl is) = inl (is.0, is_decimal_read (text_of_row rows size i) places policy mode asked named n is.1)
decimal_row_asked rows size places policy mode asked named i n code (inr is) = inr (is.0, is.1, decimal_refused (text_of_row rows size i) places policy mode asked named is.0 is.2, is.3)

pub decimal_row_refused : (rows : List ℕ) (size places policy mode : ℕ) (refusal : Refusal) → IsDecimalUnnamed places policy mode refusal
    → (i : ℕ) (n : FixedNumber) (code : ℕ) → RefusesRow refusal i n code → ReadsDecimalRow rows size places policy mode i n code
decimal_row_refused rows size places policy mode refusal why i n code is = inr (refusal, is.0, decimal_unnamed (text_of_row rows size i) places policy mode refusal why, is.1)
