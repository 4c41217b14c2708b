-- The results of calls that read floats, and that return the doubles of bits.
use Rattle.std.specs.Prelude.{◌≡◌, ℕ, ℤ, List, length, pos, slice_index, slice_index_or}
use Rattle.fixed_bits.specs.Formats.{FormatParts}
use Rattle.fixed_bits.specs.declared.format.Policy.{Policy}
use Rattle.fixed_bits.specs.declared.mode.ReadMode.{ReadMode}
use Rattle.fixed_float.specs.Floats.{IsFinite, IsReadFloat}
use Rattle.fixed_float.specs.Nearest.{IsNearestFloat}
use Rattle.fixed_float.specs.declared.layout.FloatLayout.{FloatLayout}
use Rattle.fixed_float.specs.declared.layout.FloatLayout.TheVariants.{Binary64}
use Rattle.fixed_numeral.specs.declared.error.ParseErrorKind.TheVariants.{Overflow}
use Rattle.fixed_c.specs.Arguments.{NamesFormat, NamesMode, NamesPolicy}
use Rattle.fixed_c.specs.Codes.{mode_code, policy_code}
use Rattle.fixed_c.specs.Convert.{PrintIsRefused}
use Rattle.fixed_c.specs.Numbers.{AreBitsOf, IsBrought, IsNotBrought}
use Rattle.fixed_c.specs.Outcome.{EndsWith, ForKind, Unless}
use Rattle.fixed_c.specs.Rows.{no_number}
use Rattle.fixed_c.specs.declared.number.FixedNumber.{FixedNumber}
use Rattle.fixed_c.specs.declared.refusal.Refusal.{Refusal}
use Rattle.fixed_c.specs.declared.refusal.Refusal.TheVariants.{BadFormat, BadPolicy, BadMode, NotFinite}

-- ---- reading
-- the two numbers name a policy and a mode, and these satisfy `Holds`
pub record NamesBoth (policy mode : ℕ) (Holds : Policy → ReadMode → Type 0) : Type 0 where
  pub the_policy : Policy
  pub the_mode : ReadMode
  pub policy_is : policy ≡ policy_code the_policy
  pub mode_is : mode ≡ mode_code the_mode
  pub holds : Holds the_policy the_mode

-- the format is valid, the float is finite, and the result is the image of its rounded number in the format
pub record IsFloatRead (layout : FloatLayout) (float : ℕ) (f : FormatParts) (n : FixedNumber) (p : Policy)
    (m : ReadMode) : Type 0 where
  pub format : NamesFormat f
  pub finite : IsFinite layout float
  pub number : ℤ
  pub read : IsReadFloat m layout float f.frac number
  pub brought : IsBrought f p number n.bits n.overflowed

-- the rounded number of a float has no image in the format
pub record FloatOverflows (layout : FloatLayout) (float : ℕ) (f : FormatParts) (p : Policy)
    (m : ReadMode) : Type 0 where
  pub number : ℤ
  pub read : IsReadFloat m layout float f.frac number
  pub out : IsNotBrought f p number

-- the refusal of a float, by the requested reading
abbrev pub FloatNotRead : FloatLayout → ℕ → FormatParts → Policy → ReadMode → Refusal → Type 0
FloatNotRead layout float f p m =
    Unless (IsFinite layout float) NotFinite (ForKind (λ kind. (kind ≡ Overflow) × FloatOverflows layout float f p m))

-- the refusal of a call with these arguments
abbrev pub FloatIsRefused : FloatLayout → ℕ → FormatParts → ℕ → ℕ → Refusal → Type 0
FloatIsRefused layout float f policy mode =
    Unless (NamesFormat f) BadFormat
    (Unless (NamesPolicy policy) BadPolicy
    (Unless (NamesMode mode) BadMode
    (λ refusal. NamesBoth policy mode (λ p m. FloatNotRead layout float f p m refusal))))

-- ---- doubles
-- the format is valid, and this is the double nearest to the value of the bits
pub record IsDoubleOf (f : FormatParts) (bits : ℤ) (double : ℕ) : Type 0 where
  pub format : NamesFormat f
  pub number : ℤ
  pub bits_are : AreBitsOf f bits number
  pub nearest : IsNearestFloat Binary64 number f.frac double

-- ---- rows
-- the single call that reads, for a float of a row
abbrev pub ReadsFloatRow : FloatLayout → List ℕ → FormatParts → ℕ → ℕ → ℕ → FixedNumber → ℕ → Type 0
ReadsFloatRow layout floats f policy mode i number code = EndsWith
    (λ n. NamesBoth policy mode (IsFloatRead layout (slice_index floats i) f n))
    (FloatIsRefused layout (slice_index floats i) f policy mode) no_number number code

-- the single call that returns a double, for the bits of a row
abbrev pub DoubleRow : List ℤ → FormatParts → ℕ → ℕ → ℕ → Type 0
DoubleRow bits f i double code = EndsWith (IsDoubleOf f (slice_index_or bits i (pos 0)))
    (PrintIsRefused f (slice_index_or bits i (pos 0))) 0 double code

-- there are as many floats as numbers and codes
pub record HaveFloats (floats : List ℕ) (numbers : List FixedNumber) (codes : List ℕ) : Type 0 where
  pub given : length floats ≡ length codes
  pub same : length numbers ≡ length codes

-- there are as many bits as doubles and codes
pub record HaveDoubles (bits : List ℤ) (doubles codes : List ℕ) : Type 0 where
  pub given : length bits ≡ length codes
  pub same : length doubles ≡ length codes
