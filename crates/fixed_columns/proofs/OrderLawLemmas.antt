-- What the order of cells means for values and formats.
use Rattle.std.proofs.Common.{◌≡◌, ◌<◌, ◌⊎◌, ℕ, Bool, true, false, refl, sym, ap, ◌∙◌, inl, inr}
use Rattle.std.specs.Cmp.{nat_cmp_is, ranked, tied_itself, bool_cmp_total}
use Rattle.std.specs.declared.cmp.Ordering.{Ordering}
use Rattle.std.specs.declared.cmp.Ordering.TheVariants.{Less, Equal, Greater}
use Rattle.std.specs.Ordering.{bool_cmp, nat_cmp, ordering_then}
use Rattle.std.proofs.lemmas.Map.Lookups.{exact_unsigned}
use Rattle.fixed_bits.specs.Formats.{FormatParts}
use Rattle.fixed_bits.specs.Order.{IsBefore}
use Rattle.fixed_convert.specs.Order.{order_of}
use Rattle.fixed_columns.specs.Cells.{CellParts, cell_order, format_order}
use Rattle.fixed_columns.specs.Laws.{EqualIsSame, FormatOrderIsBefore, OrderIsOfValues, TiesAreOfFormats}
use Rattle.fixed_columns.specs.Lemmas.OrderLemmas.{itself, same_cell, same_sign}

pub equal_same : EqualIsSame
equal_same a b =
    let O : CellParts → Ordering = λ c. cell_order a c in
    (same_cell a b, λ e. sym (ap O e) ∙ itself a)

then_first : (p q : Ordering) → ¬ (p ≡ Equal) → ordering_then p q ≡ p
then_first Less q h = refl
then_first Equal q h = absurd (h refl)
then_first Greater q h = refl

then_second : (p q : Ordering) → p ≡ Equal → ordering_then p q ≡ q
then_second p q e = ap (λ o. ordering_then o q) e

pub of_values : OrderIsOfValues
of_values a b h = then_first (order_of a.bits a.format.frac b.bits b.format.frac) (format_order a.format b.format) h

pub of_formats : TiesAreOfFormats
of_formats a b h = then_second (order_of a.bits a.format.frac b.bits b.format.frac) (format_order a.format b.format) h

-- ---- the order of formats
nat_less : (x y : ℕ) → x < y → nat_cmp x y ≡ Less
nat_less x y h = sym (nat_cmp_is x y Less h)

nat_same : (x y : ℕ) → x ≡ y → nat_cmp x y ≡ Equal
nat_same x y h = sym (nat_cmp_is x y Equal h)

less_nat : (x y : ℕ) → nat_cmp x y ≡ Less → x < y
less_nat x y e = ranked x y Less (sym e)

less_sign : (s t : Bool) → bool_cmp s t ≡ Less → (s ≡ false) × (t ≡ true)
less_sign false false e = absurd cc
less_sign false true e = (refl, refl)
less_sign true false e = absurd cc
less_sign true true e = absurd cc

sign_less : (s t : Bool) → s ≡ false → t ≡ true → bool_cmp s t ≡ Less
sign_less s t e f = rw (e, f) refl

sign_same : (s t : Bool) → s ≡ t → bool_cmp s t ≡ Equal
sign_same s t e = rw e (tied_itself bool_cmp_total t)

-- the first of three comparisons that is not equal decides
less_of_three : (p q r : Ordering) → ordering_then (ordering_then p q) r ≡ Less → (p ≡ Less) ⊎ ((p ≡ Equal) × (q ≡ Less)) ⊎ ((p ≡ Equal) × (q ≡ Equal) × (r ≡ Less))
less_of_three Less q r e = inl refl
less_of_three Equal Less r e = inr (inl (refl, refl))
less_of_three Equal Equal r e = inr (inr (refl, refl, e))
less_of_three Equal Greater r e = absurd cc
less_of_three Greater q r e = absurd cc

before_by : (f g : FormatParts) → (nat_cmp f.width g.width ≡ Less) ⊎ ((nat_cmp f.width g.width ≡ Equal) × (bool_cmp f.signed g.signed ≡ Less)) ⊎ ((nat_cmp f.width g.width ≡ Equal) × (bool_cmp f.signed g.signed ≡ Equal) × (nat_cmp f.frac g.frac ≡ Less)) → IsBefore f g
before_by f g (inl h) = inl (less_nat f.width g.width h)
before_by f g (inr (inl h)) = let s = less_sign f.signed g.signed h.1 in inr (inl (exact_unsigned f.width g.width h.0, s.0, s.1))
before_by f g (inr (inr h)) = inr (inr (exact_unsigned f.width g.width h.0, same_sign f.signed g.signed h.1, less_nat f.frac g.frac h.2))

by_before : (f g : FormatParts) → IsBefore f g → format_order f g ≡ Less
by_before f g (inl h) = rw (nat_less f.width g.width h) refl
by_before f g (inr (inl h)) = rw (nat_same f.width g.width h.0, sign_less f.signed g.signed h.1 h.2) refl
by_before f g (inr (inr h)) = rw (nat_same f.width g.width h.0, sign_same f.signed g.signed h.1, nat_less f.frac g.frac h.2) refl

pub is_before : FormatOrderIsBefore
is_before f g = (λ e. before_by f g (less_of_three (nat_cmp f.width g.width) (bool_cmp f.signed g.signed) (nat_cmp f.frac g.frac) e), by_before f g)
