-- Bits moved in a mode.
use Rattle.std.proofs.Common.{◌≡◌, ◌∙◌, ◌↔◌, ℕ, ℤ, Bool, IsTrue, true, false, pos, negsuc, zero, suc, ◌+◌, ◌-◌, ◌*◌, ◌/◌, ◌^◌, ◌<◌, ◌≤◌, unsigned_abs, refl, sym, ap, subst, arith, div-add-mod', mul-le-mul_left, pow-suc}
use Rattle.std.specs.Int.{is_negative}
use Rattle.std.proofs.lemmas.Bool.Decides.{same_from_decides}
use Rattle.std.proofs.lemmas.Int.{ints}
use Rattle.std.proofs.lemmas.Nat.{pow_pos, pow-add}
use Rattle.fixed_bits.proofs.Integers.{plus_times}
use Rattle.fixed_bits.specs.Down.{IsDown, down}
use Rattle.fixed_bits.specs.Images.{IsImage, IsOutOfRangeBy}
use Rattle.fixed_bits.specs.Numbers.{with_sign}
use Rattle.fixed_bits.specs.Rounded.{IsRounded}
use Rattle.fixed_bits.specs.declared.format.Policy.TheVariants.{Checked}
use Rattle.fixed_bits.specs.declared.mode.ReadMode.{ReadMode}
use Rattle.fixed_bits.specs.declared.mode.ReadMode.TheVariants.{Floor}
use Rattle.fixed_bits.proofs.Public.{down_is, grown, has_none, image_one, not_negative, rounded_exact, rounded_exists, rounded_same, rounded_unique}
use Rattle.fixed_convert.specs.Moved.{shifted}
use Rattle.fixed_convert.specs.Rounded.{FloorIsDown, IsMovedIn, MovedInIsTheOne, ReformattedIsTheOne}

moved_by : (mode : ReadMode) (b v : ℤ) (f g q : ℕ) (negative : Bool) → is_negative b ≡ negative → IsRounded mode negative (unsigned_abs b * 2 ^ g) (2 ^ f) q → v ≡ with_sign negative q → IsMovedIn mode b f g v
moved_by mode b v f g q negative e rounded value = record {
  ulps = q;
  rounded = subst (λ (n : Bool). IsRounded mode n (unsigned_abs b * 2 ^ g) (2 ^ f) q) (sym e) rounded;
  value = value ∙ ap (λ (n : Bool). with_sign n q) (sym e);
}

-- ---- to an equal or longer fraction length
powers_joined : (a f g : ℕ) → f ≤ g → a * 2 ^ (g - f) * 2 ^ f ≡ a * 2 ^ g
powers_joined a f g h =
    let i : (g - f) + f ≡ g = omega arith in
    let e : 2 ^ (g - f) * 2 ^ f ≡ 2 ^ g = sym (pow-add 2 (g - f) f) ∙ ap (λ k. 2 ^ k) i in
    omega (arith, ap (λ x. a * x) e)

moved_longer : (mode : ReadMode) (b : ℤ) (f g : ℕ) → f ≤ g → IsMovedIn mode b f g (shifted b (g - f))
moved_longer mode (pos a) f g h =
    moved_by mode (pos a) (shifted (pos a) (g - f)) f g (a * 2 ^ (g - f)) false (not_negative a)
    (subst (λ (x : ℕ). IsRounded mode false x (2 ^ f) (a * 2 ^ (g - f))) (powers_joined a f g h) (rounded_exact mode false (a * 2 ^ (g - f)) (2 ^ f) (pow_pos f))) (omega (arith, ints))
moved_longer mode (negsuc a) f g h =
    moved_by mode (negsuc a) (shifted (negsuc a) (g - f)) f g (suc a * 2 ^ (g - f)) true refl
    (subst (λ (x : ℕ). IsRounded mode true x (2 ^ f) (suc a * 2 ^ (g - f))) (powers_joined (suc a) f g h) (rounded_exact mode true (suc a * 2 ^ (g - f)) (2 ^ f) (pow_pos f))) (omega (arith, ints))

-- moving in any mode to an equal or longer fraction length is moving down
pub moved_exact : (mode : ReadMode) (b : ℤ) (f g : ℕ) → f ≤ g → IsMovedIn mode b f g (down b f g)
moved_exact mode b f g h = subst (λ (v : ℤ). IsMovedIn mode b f g v) (grown b f g h) (moved_longer mode b f g h)

-- ---- to an equal or shorter fraction length
pub moved_shorter : (mode : ReadMode) (b v : ℤ) (f g q : ℕ) → g ≤ f → IsRounded mode (is_negative b) (unsigned_abs b) (2 ^ (f - g)) q
    → v ≡ with_sign (is_negative b) q → IsMovedIn mode b f g v
moved_shorter mode b v f g q h rounded value =
    let e : unsigned_abs b * 2 ^ f ≡ unsigned_abs b * 2 ^ g * 2 ^ (f - g) = sym (powers_joined (unsigned_abs b) g f h) ∙ omega arith in
    record { ulps = q; rounded = rounded_same mode (is_negative b) (unsigned_abs b) (2 ^ (f - g)) (unsigned_abs b * 2 ^ g) (2 ^ f) q (pow_pos (f - g)) (pow_pos f) e rounded; value = value }

nothing_rounded : (mode : ReadMode) (negative : Bool) (u : ℕ) → 0 < u → IsRounded mode negative 0 u 0
nothing_rounded mode negative u h =
    let e : 0 * u ≡ 0 = omega arith in
    subst (λ (k : ℕ). IsRounded mode negative k u 0) e (rounded_exact mode negative 0 u h)

-- by sign and magnitude; zero may have either sign
pub moved_parts : (mode : ReadMode) (negative : Bool) (m f g q : ℕ) → g ≤ f → IsRounded mode negative m (2 ^ (f - g)) q → IsMovedIn mode (with_sign negative m) f g (with_sign negative q)
moved_parts mode false m f g q h rounded = moved_shorter mode (pos m) (pos q) f g q h (rw (not_negative m) rounded) (rw (not_negative m) refl)
moved_parts mode true (suc m) f g q h rounded = moved_shorter mode (negsuc m) (with_sign true q) f g q h rounded refl
moved_parts mode true zero f g q h rounded =
    let unit = pow_pos (f - g) in
    let none : q ≡ 0 = rounded_unique mode true 0 (2 ^ (f - g)) q 0 unit rounded (nothing_rounded mode true (2 ^ (f - g)) unit) in
    let zero_is : IsMovedIn mode (pos 0) f g (pos 0) = moved_shorter mode (pos 0) (pos 0) f g 0 h (rw (not_negative 0) (nothing_rounded mode false (2 ^ (f - g)) unit)) refl in
    subst (λ (k : ℕ). IsMovedIn mode (pos 0) f g (with_sign true k)) (sym none) zero_is

-- a magnitude of 64 bits shifted down by at least one bit is below 2^63
pub half_at_most : (m bits : ℕ) → 0 < bits → m < 2 ^ 64 → m / 2 ^ bits < 2 ^ 63
half_at_most m zero some few = absurd (omega arith)
half_at_most m (suc bits) some few =
    let one : 1 ≤ 2 ^ bits = pow_pos bits in
    let more : m / 2 ^ suc bits * 1 ≤ m / 2 ^ suc bits * 2 ^ bits = mul-le-mul_left (m / 2 ^ suc bits) one in
    let sum = div-add-mod' m (2 ^ suc bits) in
    let double = ap (λ x. m / 2 ^ suc bits * x) (pow-suc 2 bits) in
    omega (arith, more, sum, double)

-- ---- laws
moved_one : (mode : ReadMode) (b : ℤ) (f g : ℕ) (v w : ℤ) → IsMovedIn mode b f g v → IsMovedIn mode b f g w → v ≡ w
moved_one mode b f g v w x y =
    let same : x.ulps ≡ y.ulps = rounded_unique mode (is_negative b) (unsigned_abs b * 2 ^ g) (2 ^ f) x.ulps y.ulps (pow_pos f) x.rounded y.rounded in
    x.value ∙ ap (with_sign (is_negative b)) same ∙ sym y.value

pub moved_in_is_the_one : MovedInIsTheOne
moved_in_is_the_one mode b f g =
    let some = rounded_exists mode (is_negative b) (unsigned_abs b * 2 ^ g) (2 ^ f) (pow_pos f) in
    let v = with_sign (is_negative b) some.0 in
    let is : IsMovedIn mode b f g v = record { ulps = some.0; rounded = some.1; value = refl } in
    (v, is, λ w h. moved_one mode b f g w v h is)

pub reformatted_is_the_one : ReformattedIsTheOne
reformatted_is_the_one mode policy target b f c o format x = (
  λ d u y.
      let m : x.moved ≡ y.moved = moved_one mode b f target.frac x.moved y.moved x.is_moved y.is_moved in
      let Image : ℤ → Type 0 = λ v. IsImage policy target.signed target.width v c in
      let Verdict : ℤ → Type 0 = λ v. IsTrue o ↔ IsOutOfRangeBy policy target.signed target.width v in (
        image_one policy target.signed target.width y.moved c d format.is_width (subst Image m x.image_is) y.image_is,
        same_from_decides o u (subst Verdict m x.verdict) y.verdict,
      ),
  λ none.
      let m : x.moved ≡ none.moved = moved_one mode b f target.frac x.moved none.moved x.is_moved none.is_moved in
      let image : IsImage Checked target.signed target.width x.moved c = subst (λ p. IsImage p target.signed target.width x.moved c) none.checked x.image_is in
      has_none target.signed target.width none.moved c none.out (subst (λ v. IsImage Checked target.signed target.width v c) m image),
)

floor_at : (b d : ℤ) (f g : ℕ) → IsDown b f g d → IsMovedIn Floor b f g d
floor_at (pos a) (pos q) f g h =
    let low = h.at_most in let high = h.above in
    moved_by Floor (pos a) (pos q) f g q false (not_negative a) (record { at_most = omega (arith, ints); next = omega (arith, ints) }) refl
floor_at (pos a) (negsuc q) f g h = let high = h.above in let unit = pow_pos f in absurd (omega (arith, ints, plus_times (negsuc q) (pos 1) (2 ^ f)))
floor_at (negsuc a) (pos q) f g h = let low = h.at_most in let unit = pow_pos g in absurd (omega (arith, ints))
floor_at (negsuc a) (negsuc q) f g h =
    let low = h.at_most in let high = h.above in let next = plus_times (negsuc q) (pos 1) (2 ^ f) in
    moved_by Floor (negsuc a) (negsuc q) f g (suc q) true refl (record { at_least = omega (arith, ints); before = omega (arith, ints, next) }) refl

pub floor_is_down : FloorIsDown
floor_is_down b f g = floor_at b (down b f g) f g (down_is b f g)
