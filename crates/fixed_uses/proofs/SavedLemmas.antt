-- The text of a number in range reads back as that number.
use Rattle.std.proofs.Common.{◌≡◌, ℕ, ℤ, true, List, Ok, Err, ap, subst, arith}
use Rattle.std.specs.Prelude.{Result, IfOk}
use Rattle.std.proofs.lemmas.Bool.{false≢true}
use Rattle.fixed_bits.specs.Ranges.{IsInRange}
use Rattle.fixed_bits.specs.declared.mode.ReadMode.TheVariants.{NearestEven}
use Rattle.fixed_bits.proofs.Public.{in_wide}
use Rattle.fixed_laws.specs.Plain.{PlainTextReadsBack, ReadsAs}
use Rattle.fixed_laws.specs.Radices.{decimal_radix}
use Rattle.fixed_numeral.specs.declared.error.ParseErrorKind.{ParseErrorKind}
use Rattle.fixed_read.proofs.Public.{read_unique}
use Rattle.fixed_write.specs.Styled.{IsStyledText, plain_style}
use Rattle.fixed_write.specs.declared.style.Notation.TheVariants.{Dec}
use Rattle.fixed_write.specs.declared.style.Style.{Style}
use Rattle.fixed_uses.specs.Gain.{IsGain}

loaded : (text : List ℕ) (number : ℤ) → ReadsAs decimal_radix text 16 number → IsInRange true 32 number → (answer : Result ℤ ParseErrorKind) → IsGain text answer → answer ≡ Ok number
loaded text number back range (Ok x) a = ap (λ (v : ℤ). Ok v) (read_unique NearestEven decimal_radix back.0 16 x number (a.read back.0 back.1) back.2)
loaded text number back range (Err k) a =
    absurd (false≢true (a.fits.1 (record { parts = back.0; has = back.1; number = number; read = back.2; in_range = range })))

pub saved_text : {E : Type 0} → PlainTextReadsBack → (number value : ℤ) (style : Style) → value ≡ number → style ≡ plain_style Dec → IsInRange true 32 number
    → (r : Result (List ℕ) E) → IfOk r (λ text. IsStyledText style value 16 text) → IfOk r (λ text. (answer : Result ℤ ParseErrorKind) → IsGain text answer → answer ≡ Ok number)
saved_text law number value style e p range (Ok text) s =
    let plain : IsStyledText (plain_style Dec) value 16 text = subst (λ (q : Style). IsStyledText q value 16 text) p s in
    let shown : IsStyledText (plain_style Dec) number 16 text = subst (λ (z : ℤ). IsStyledText (plain_style Dec) z 16 text) e plain in
    loaded text number (law Dec number 16 text (in_wide true 32 number (omega arith) range) (omega arith) shown) range
saved_text law number value style e p range (Err k) s = tt
