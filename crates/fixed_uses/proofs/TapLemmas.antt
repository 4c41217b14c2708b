-- A number rounded to the nearest is at most half a step away.
use Rattle.std.proofs.Common.{◌≡◌, ℕ, ℤ, true, List, Ok, Err, refl}
use Rattle.std.specs.Prelude.{Option, Result, IfSome}
use Rattle.std.specs.Result.{result_ok}
use Rattle.fixed_bits.specs.declared.mode.ReadMode.TheVariants.{NearestEven}
use Rattle.fixed_numeral.specs.declared.error.ParseErrorKind.{ParseErrorKind}
use Rattle.fixed_numeral.specs.declared.radix.Radix.TheVariants.{Dec}
use Rattle.fixed_point.specs.Readings.{IsPlainReading}
use Rattle.fixed_uses.specs.Taps.{IsTap}

tap_is : (frac width : ℕ) (text : List ℕ) (x : ℤ) → IsPlainReading {A = ℤ} (λ x. x) NearestEven Dec text frac true width (Ok x) → IsTap frac text x
tap_is frac width text x a =
    let some = a.fits.0 refl in
    let read = a.read some.parts some.has in
    record { parts = some.parts; spelled = some.has; steps = read.ulps; near = read.rounded.near; tap_is = read.value }

pub some_tap : (frac width : ℕ) (text : List ℕ) (answer : Result ℤ ParseErrorKind) (tap : Option ℤ) → IsPlainReading {A = ℤ} (λ x. x) NearestEven Dec text frac true width answer → tap ≡ result_ok answer → IfSome tap (IsTap frac text)
some_tap frac width text (Ok x) tap a e = rw e (tap_is frac width text x a)
some_tap frac width text (Err k) tap a e = rw e tt
