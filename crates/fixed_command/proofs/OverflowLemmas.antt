-- The explanation of a number that a format does not hold.
use Rattle.std.proofs.Common.{◌≡◌, ◌∙◌, ◌++◌, ◌^◌, ℕ, ℤ, List, Bool, true, false, ap, append_assoc, arith, inl, inr, neg_ℤ, pos, refl, subst, sym, ◌-ℤ◌, ◌≤ℤ◌}
use Rattle.std.proofs.lemmas.Int.{ints}
use Rattle.std.specs.Prelude.{◌<ℤ◌}
use Rattle.std.specs.Int.{is_negative}
use Rattle.fixed_bits.specs.Formats.{FormatParts}
use Rattle.fixed_bits.specs.Numbers.{IsNumber, with_sign}
use Rattle.fixed_bits.specs.Ranges.{IsOutOfRange, IsWide}
use Rattle.fixed_bits.specs.declared.format.Policy.TheVariants.{Checked}
use Rattle.fixed_bits.specs.declared.mode.ReadMode.{ReadMode}
use Rattle.fixed_bits.specs.declared.number.Number.{Number}
use Rattle.fixed_convert.specs.Rounded.{IsMovedIn, IsNotReformatted, IsReformatted}
use Rattle.fixed_numeral.specs.Messages.{message_of}
use Rattle.fixed_numeral.specs.Numeral.{Parts}
use Rattle.fixed_numeral.specs.declared.error.ParseErrorKind.TheVariants.{Overflow}
use Rattle.fixed_numeral.specs.declared.radix.Radix.{Radix}
use Rattle.fixed_read.proofs.Public.{read_unique}
use Rattle.fixed_read.specs.Reading.{IsReading, IsReadNumber, number_in}
use Rattle.fixed_read.specs.declared.read_number.ReadNumber.{ReadNumber}
use Rattle.fixed_command.specs.Convert.{IsNoSource, IsSource}
use Rattle.fixed_command.specs.Explained.{IsPastSource}
use Rattle.fixed_command.specs.Lemmas.MovedLemmas.{moved_same, source_or_not}
use Rattle.fixed_command.specs.declared.convert.Settings.{Settings}

-- a number out of the 64-bit range for its sign is not wide
not_wide : (negative : Bool) (ulps : ℕ) → IsOutOfRange negative 64 (with_sign negative ulps) → IsWide (with_sign negative ulps) → ⊥
not_wide true ulps (inl below) wide =
    let v : neg_ℤ (pos ulps) <ℤ neg_ℤ (pos (2 ^ 63)) = below in
    let w : neg_ℤ (pos (2 ^ 63)) ≤ℤ neg_ℤ (pos ulps) = wide.low in
    omega (arith, ints)
not_wide true ulps (inr above) wide =
    let v : (pos (2 ^ 63) -ℤ pos 1) <ℤ neg_ℤ (pos ulps) = above in
    omega (arith, ints)
not_wide false ulps (inl below) wide =
    let v : pos ulps <ℤ pos 0 = below in
    omega (arith, ints)
not_wide false ulps (inr above) wide =
    let v : (pos (2 ^ 64) -ℤ pos 1) <ℤ pos ulps = above in
    let w : pos ulps <ℤ pos (2 ^ 64) = wide.high in
    omega (arith, ints)

-- the number that a numeral is read as is the number found
pub read_found : (mode : ReadMode) (r : Radix) (parts : Parts) (found : ReadNumber) (f : FormatParts) (n : Number) (v : ℤ) → found.format ≡ f → n ≡ number_in found
    → IsReading mode r parts found → IsReadNumber mode r parts f.frac v → IsNumber n v
read_found mode r parts found f n v at is reading read =
    let same : reading.number ≡ v = read_unique mode r parts f.frac reading.number v (subst (λ (g : FormatParts). IsReadNumber mode r parts g.frac reading.number) at reading.read) read in
    subst (λ m. IsNumber m v) (sym is) (subst (λ x. IsNumber (number_in found) x) same reading.holds)

-- the Checked image of a moved number is the number itself
pub moved_found : (mode : ReadMode) (b : ℤ) (f g : ℕ) (target : FormatParts) (image : ℤ) (out : Bool) (v : ℤ) → target.frac ≡ g → IsReformatted mode Checked target b f image out
    → IsMovedIn mode b f g v → image ≡ v
moved_found mode b f g target image out v at is moved =
    is.image_is.same ∙ moved_same mode b f g is.moved v (subst (λ h. IsMovedIn mode b f h is.moved) at is.is_moved) moved

-- a moved number that 64 bits do not hold is not wide
pub moved_lost : (mode : ReadMode) (b : ℤ) (f g : ℕ) (target : FormatParts) (v : ℤ) → target.signed ≡ is_negative b → target.width ≡ 64 → target.frac ≡ g
    → IsNotReformatted mode Checked target b f → IsMovedIn mode b f g v → IsWide v → ⊥
moved_lost mode b f g target v sign width at is moved wide =
    let same : is.moved ≡ v = moved_same mode b f g is.moved v (subst (λ h. IsMovedIn mode b f h is.moved) at is.is_moved) moved in
    let out : IsOutOfRange (is_negative b) 64 v = subst (λ x. IsOutOfRange (is_negative b) 64 x) same (subst (λ n. IsOutOfRange (is_negative b) n is.moved) width (subst (λ s. IsOutOfRange s target.width is.moved) sign is.out)) in
    not_wide (is_negative b) moved.ulps (subst (λ x. IsOutOfRange (is_negative b) 64 x) moved.value out) (subst IsWide moved.value wide)

-- a numeral read past the source's range gives no number of the source
past_source : (s : Settings) (numeral : List ℕ) (number : ℤ) → IsPastSource s numeral number → IsNoSource s.spelling s numeral (message_of Overflow)
past_source s numeral number past = subst (λ w. IsNoSource w s numeral (message_of Overflow)) (sym past.spelling) (
  Overflow,
  inr (refl, past.checked, record { parts = past.parts; has = past.has; number = number; read = past.read; out_of_range = past.out }),
  refl,
)

pub not_past : (s : Settings) (numeral : List ℕ) (number bits : ℤ) (out : Bool) → IsSource s.spelling s numeral bits out → IsPastSource s numeral number → ⊥
not_past s numeral number bits out is past = source_or_not s.spelling s numeral (message_of Overflow) bits out is (past_source s numeral number past)

-- four texts, one after another
pub joined : (a b c d first second third last : List ℕ) → first ≡ a → second ≡ first ++ b → third ≡ second ++ c → last ≡ third ++ d → last ≡ a ++ (b ++ (c ++ d))
joined a b c d first second third last w x y z =
    let all : last ≡ ((a ++ b) ++ c) ++ d = z ∙ ap (λ t. t ++ d) (y ∙ ap (λ t. t ++ c) (x ∙ ap (λ t. t ++ b) w)) in
    all ∙ simp append_assoc
