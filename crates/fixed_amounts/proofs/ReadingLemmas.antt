-- The amount that a numeral reads as, or its refusal.
use Rattle.std.proofs.Common.{◌≡◌, ◌↔◌, ℕ, ℤ, Bool, true, IsTrue, List, inr, subst}
use Rattle.fixed_bits.specs.Images.{IsImage, IsOutOfRangeBy}
use Rattle.fixed_bits.specs.Numbers.{IsNumber}
use Rattle.fixed_bits.specs.Ranges.{IsOutOfRange}
use Rattle.fixed_bits.specs.declared.format.Policy.{Policy}
use Rattle.fixed_bits.specs.declared.format.Policy.TheVariants.{Checked}
use Rattle.fixed_bits.specs.declared.mode.ReadMode.{ReadMode}
use Rattle.fixed_decimal.specs.Decimals.{IsDecimalReading, IsReadDecimal}
use Rattle.fixed_decimal.specs.declared.number.DecimalNumber.{DecimalNumber}
use Rattle.fixed_numeral.specs.Numeral.{HasNumeral, Parts}
use Rattle.fixed_numeral.specs.declared.error.ParseErrorKind.{ParseErrorKind}
use Rattle.fixed_numeral.specs.declared.error.ParseErrorKind.TheVariants.{Overflow}
use Rattle.fixed_numeral.specs.declared.radix.Radix.TheVariants.{Dec}
use Rattle.fixed_amounts.specs.Reading.{IsReadAs, IsUnread}

module _ (mode : ReadMode) (bytes : List ℕ) (n : ℕ) (policy : Policy) (p : Parts) (found : DecimalNumber) where
  pub read_as : (units : ℤ) (out : Bool) → HasNumeral Dec bytes p → IsDecimalReading mode p found → found.format ≡ n
      → ((v : ℤ) → IsNumber found.number v → IsImage policy true 64 v units)
      → ((v : ℤ) → IsNumber found.number v → IsTrue out ↔ IsOutOfRangeBy policy true 64 v)
      → IsReadAs mode bytes n policy units out
  read_as units out has r same image flag = record {
    parts = p;
    numeral = has;
    number = r.number;
    read = subst (λ k. IsReadDecimal mode p k r.number) same r.read;
    image = image r.number r.holds;
    flag = flag r.number r.holds;
  }

  pub unread : (kind : ParseErrorKind) → HasNumeral Dec bytes p → IsDecimalReading mode p found → found.format ≡ n
      → kind ≡ Overflow → ((v : ℤ) → IsNumber found.number v → (policy ≡ Checked) × IsOutOfRange true 64 v)
      → IsUnread mode bytes n policy kind
  unread kind has r same is out = inr (
    is,
    (out r.number r.holds).0,
    record {
      parts = p;
      numeral = has;
      number = r.number;
      read = subst (λ k. IsReadDecimal mode p k r.number) same r.read;
      out = (out r.number r.holds).1;
    },
  )
