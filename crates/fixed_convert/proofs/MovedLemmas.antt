-- Moving down to a shorter or a longer fraction length, and the laws of conversions.
use Rattle.std.proofs.Common.{◌≡◌, ℕ, ◌+◌, ◌-◌, ◌^◌, ◌≤◌, ℤ, pos, ◌*ℤ◌, arith, refl, sym, ap, ◌∙◌}
use Rattle.std.proofs.lemmas.Int.{ints}
use Rattle.std.proofs.lemmas.Nat.{pow_pos, pow-add}
use Rattle.fixed_bits.specs.Down.{IsDown, down}
use Rattle.fixed_bits.proofs.Integers.{next_times, times_times}
use Rattle.fixed_bits.proofs.Public
use Rattle.fixed_bits.proofs.Public.{images_agree, down_one, grown}
use Rattle.fixed_convert.specs.Moved.{shifted}
use Rattle.fixed_convert.specs.Laws.{IsExact, FinerIsExact, ConversionIsUndone}

pub shortened : (b : ℤ) (f g : ℕ) (d : ℤ) → g ≤ f → IsDown b (f - g) 0 d → shifted d 0 ≡ down b f g
shortened b f g d l h =
    let e : shifted d 0 ≡ d = omega (arith, ints) in
    e ∙ Public.shortened b f g d l h

pub grown_is : (b : ℤ) (f g : ℕ) → f ≤ g → IsDown b f g (shifted b (g - f))
grown_is b f g l = rw (grown b f g l) ((down_one b f g (down b f g)).1 refl)

pub shortened_is : (b : ℤ) (f g : ℕ) (d : ℤ) → g ≤ f → IsDown b (f - g) 0 d → IsDown b f g (shifted d 0)
shortened_is b f g d l h = rw (shortened b f g d l h) ((down_one b f g (down b f g)).1 refl)

-- ---- laws
pub finer : FinerIsExact
finer b f g l =
    let e : (g - f) + f ≡ g = omega arith in
    ap (λ z. z *ℤ pos (2 ^ f)) (sym (grown b f g l)) ∙ times_times b (2 ^ (g - f)) (2 ^ f) ∙ ap (λ i. b *ℤ pos i) (sym (pow-add 2 (g - f) f) ∙ ap (λ i. 2 ^ i) e)

back : (b : ℤ) (f g : ℕ) → IsExact b f g → down (down b f g) g f ≡ b
back b f g e = sym ((down_one (down b f g) g f b).0 (record {
  at_most = omega (arith, ints, e);
  above = rw next_times (omega (arith, ints, e, pow_pos g));
}))

pub undone : ConversionIsUndone
undone p q s t m n f g b c e u w h x k i j =
    let same : c ≡ down b f g = (images_agree p t n (down b f g) c w k).0 i in
    let home : down c g f ≡ b = ap (λ z. down z g f) same ∙ back b f g x in
    (images_agree q s m (down c g f) e u (rw home h)).0 j ∙ home
