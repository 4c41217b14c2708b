-- What a call that reads a float returns, from the options of the call.
use Rattle.std.proofs.Common.{◌≡◌, ◌↔◌, inl, inr, subst, ℕ, ℤ, Bool, List, Result, Ok, Err, IsOk, IsTrue}
use Rattle.std.specs.Prelude.{MatchResult, slice_index}
use Rattle.fixed_bits.specs.Formats.{FormatParts}
use Rattle.fixed_bits.specs.Images.{IsImage, IsOutOfRangeBy}
use Rattle.fixed_bits.specs.Numbers.{IsNumber}
use Rattle.fixed_bits.specs.Ranges.{IsOutOfRange}
use Rattle.fixed_bits.specs.declared.format.Policy.{Policy}
use Rattle.fixed_bits.specs.declared.format.Policy.TheVariants.{Checked}
use Rattle.fixed_bits.specs.declared.mode.ReadMode.{ReadMode}
use Rattle.fixed_float.specs.Floats.{IsFinite, IsFloatReading, IsReadFloat}
use Rattle.fixed_float.specs.declared.layout.FloatLayout.{FloatLayout}
use Rattle.fixed_read.specs.Reading.{number_in}
use Rattle.fixed_read.specs.declared.read_number.ReadNumber.{ReadNumber}
use Rattle.fixed_c.specs.Arguments.{NamesFormat}
use Rattle.fixed_c.specs.Floats.{FloatIsRefused, FloatNotRead, FloatOverflows, IsFloatRead, NamesBoth, ReadsFloatRow}
use Rattle.fixed_c.specs.Numbers.{flag_of, has_bits}
use Rattle.fixed_c.specs.Inner.Asked.{RefusesRow}
use Rattle.fixed_c.specs.Inner.Floats.{AreFloatNamed, IsFloatNotReadAsAsked, IsFloatReadAsAsked, IsFloatUnnamed, ReadsFloatAsked}
use Rattle.fixed_c.specs.declared.floats.FloatAsked.{FloatAsked}
use Rattle.fixed_c.specs.declared.number.FixedNumber.{FixedNumber}
use Rattle.fixed_c.specs.declared.refusal.Refusal.{Refusal}

pub not_ok : {A B : Type 0} (r : Result A B) (e : B) → r ≡ Err e → IsOk r → ⊥
not_ok r e is ok = let none = rw is at ok in absurd (cc)

-- ---- the read number, brought into the format
abbrev OfNumber : ReadNumber → (FormatParts → ℤ → Type 0) → Type 0
OfNumber found P = (v : ℤ) → IsNumber (number_in found) v → P found.format v

module _ (layout : FloatLayout) (float : ℕ) (f : FormatParts) (p : Policy) (m : ReadMode) (found : ReadNumber) (is : IsFloatReading m layout float found) (format : found.format ≡ f) where
  read_is : IsReadFloat m layout float f.frac is.number
  read_is = subst (λ (g : FormatParts). IsReadFloat m layout float g.frac is.number) format is.read

  pub float_read : (n : FixedNumber) (image : ℤ) (out : Bool) → NamesFormat f → IsFinite layout float
      → OfNumber found (λ g v. IsImage p g.signed g.width v image) → OfNumber found (λ g v. IsTrue out ↔ IsOutOfRangeBy p g.signed g.width v)
      → has_bits f.signed n.bits image → n.overflowed ≡ flag_of out → IsFloatRead layout float f n p m
  float_read n image out named finite images range bits_are flag_is = record {
    format = named;
    finite = finite;
    number = is.number;
    read = read_is;
    brought = record {
      image = image;
      image_is = subst (λ (g : FormatParts). IsImage p g.signed g.width is.number image) format (images is.number is.holds);
      bits_are = bits_are;
      overflowed = out;
      flag_is = flag_is;
      overflowed_is = subst (λ (g : FormatParts). IsTrue out ↔ IsOutOfRangeBy p g.signed g.width is.number) format (range is.number is.holds);
    };
  }

  pub float_out : OfNumber found (λ g v. (p ≡ Checked) × IsOutOfRange g.signed g.width v) → FloatOverflows layout float f p m
  float_out out =
      let why : (p ≡ Checked) × IsOutOfRange f.signed f.width is.number = subst (λ (g : FormatParts). (p ≡ Checked) × IsOutOfRange g.signed g.width is.number) format (out is.number is.holds) in
      record { number = is.number; read = read_is; out = record { checked = why.0; out = why.1 } }

-- ---- an invalid option refuses the reading
pub float_unnamed : (layout : FloatLayout) (float : ℕ) (f : FormatParts) (policy mode : ℕ) (refusal : Refusal) → IsFloatUnnamed f policy mode refusal → FloatIsRefused layout float f policy mode refusal
float_unnamed layout float f policy mode refusal (inl a) = inl a
float_unnamed layout float f policy mode refusal (inr (a, inl b)) = inr (a, inl b)
float_unnamed layout float f policy mode refusal (inr (a, inr (b, inl d))) = inr (a, inr (b, inl d))
float_unnamed layout float f policy mode refusal (inr (a, inr (b, inr (d, none)))) = absurd none

module _ (layout : FloatLayout) (float : ℕ) (f : FormatParts) (policy mode : ℕ) (asked : FloatAsked) (named : AreFloatNamed f policy mode asked) where
  pub float_refused : (refusal : Refusal) → IsFloatNotReadAsAsked layout float asked refusal → FloatIsRefused layout float f policy mode refusal
  float_refused refusal why =
      inr (
        named.format_named,
        inr (
          (asked.policy, named.policy_is),
          inr (
            (asked.mode, named.mode_is),
            record {
              the_policy = asked.policy;
              the_mode = asked.mode;
              policy_is = named.policy_is;
              mode_is = named.mode_is;
              holds = subst (λ (g : FormatParts). FloatNotRead layout float g asked.policy asked.mode refusal) named.format_is why;
            },
          ),
        ),
      )

  pub is_float_read : (n : FixedNumber) → IsFloatReadAsAsked layout float asked n → NamesBoth policy mode (IsFloatRead layout float f n)
  is_float_read n is = record {
    the_policy = asked.policy;
    the_mode = asked.mode;
    policy_is = named.policy_is;
    mode_is = named.mode_is;
    holds = subst (λ (g : FormatParts). IsFloatRead layout float g n asked.policy asked.mode) named.format_is is;
  }

  pub float_answered : (answer : Result FixedNumber Refusal) → MatchResult answer (IsFloatReadAsAsked layout float asked) (IsFloatNotReadAsAsked layout float asked)
      → MatchResult answer (λ n. NamesBoth policy mode (IsFloatRead layout float f n)) (FloatIsRefused layout float f policy mode)
  float_answered (Ok n) is = is_float_read n is
  float_answered (Err refusal) why = float_refused refusal why

-- ---- rows
pub float_row_asked : (layout : FloatLayout) (floats : List ℕ) (f : FormatParts) (policy mode : ℕ) (asked : FloatAsked) → AreFloatNamed f policy mode asked
    → (i : ℕ) (n : FixedNumber) (code : ℕ) → ReadsFloatAsked layout floats asked i n code → ReadsFloatRow layout floats f policy mode i n code
float_row_asked layout floats f policy mode asked named i n code (inl is) = inl (is.0, is_float_read layout (slice_index floats i) f policy mode asked named n is.1)
float_row_asked layout floats f policy mode asked named i n code (inr is) = inr (is.0, is.1, float_refused layout (slice_index floats i) f policy mode asked named is.0 is.2, is.3)

pub float_row_refused : (layout : FloatLayout) (floats : List ℕ) (f : FormatParts) (policy mode : ℕ) (refusal : Refusal) → IsFloatUnnamed f policy mode refusal
    → (i : ℕ) (n : FixedNumber) (code : ℕ) → RefusesRow refusal i n code → ReadsFloatRow layout floats f policy mode i n code
float_row_refused layout floats f policy mode refusal why i n code is = inr (refusal, is.0, float_unnamed layout (slice_index floats i) f policy mode refusal why, is.1)
