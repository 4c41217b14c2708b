-- The order of cells is total, and it tells any two cells apart.
use Rattle.std.specs.Prelude.{◌≡◌, ℕ, ◌^◌, ℤ, Bool, true, false}
use Rattle.std.proofs.Common.{refl, sym, ap, ◌∙◌, subst, pow_pos}
use Rattle.std.specs.Bool.{Decides}
use Rattle.std.specs.Cmp.{IsTotalOrder, Equal-is, on_total, then_total, nat_cmp_total, bool_cmp_total, tied_itself}
use Rattle.std.specs.declared.cmp.Ordering.{Ordering}
use Rattle.std.specs.declared.cmp.Ordering.TheVariants.{Less, Equal, Greater}
use Rattle.std.specs.Ordering.{nat_cmp, bool_cmp, is_eq, ordering_then}
use Rattle.std.proofs.lemmas.Map.Lookups.{exact_signed, exact_unsigned}
use Rattle.fixed_bits.specs.Formats.{FormatParts}
use Rattle.fixed_convert.specs.Order.{Number, order, order_of}
use Rattle.fixed_convert.proofs.Public.{cmp_times, total}
use Rattle.fixed_columns.specs.Cells.{CellParts, cell_order, format_order}

-- ---- it is total
abbrev number_of : CellParts → Number
number_of c = record { bits = c.bits; frac = c.format.frac }

abbrev format_of : CellParts → FormatParts
format_of c = c.format

format_total : IsTotalOrder format_order
format_total = then_total (then_total (on_total (λ (f : FormatParts). f.width) nat_cmp_total)
    (on_total (λ (f : FormatParts). f.signed) bool_cmp_total)) (on_total (λ (f : FormatParts). f.frac) nat_cmp_total)

pub cell_total : IsTotalOrder cell_order
unfolding order
cell_total = then_total (on_total number_of total) (on_total format_of format_total)

-- ---- cells that it does not tell apart are one
first_equal : (p q : Ordering) → ordering_then p q ≡ Equal → p ≡ Equal
first_equal Less q e = e
first_equal Equal q e = refl
first_equal Greater q e = e

second_equal : (p q : Ordering) → ordering_then p q ≡ Equal → q ≡ Equal
second_equal Less q e = absurd cc
second_equal Equal q e = e
second_equal Greater q e = absurd cc

pub same_sign : (s t : Bool) → bool_cmp s t ≡ Equal → s ≡ t
same_sign false false e = refl
same_sign false true e = absurd cc
same_sign true false e = absurd cc
same_sign true true e = refl

pub same_format : (f g : FormatParts) → format_order f g ≡ Equal → f ≡ g
same_format f g e =
    let before = first_equal (ordering_then (nat_cmp f.width g.width) (bool_cmp f.signed g.signed))
    (nat_cmp f.frac g.frac) e in
    let width : f.width ≡ g.width = exact_unsigned f.width g.width
    (first_equal (nat_cmp f.width g.width) (bool_cmp f.signed g.signed) before) in
    let signed : f.signed ≡ g.signed = same_sign f.signed g.signed
    (second_equal (nat_cmp f.width g.width) (bool_cmp f.signed g.signed) before) in
    let frac : f.frac ≡ g.frac = exact_unsigned f.frac g.frac
    (second_equal (ordering_then (nat_cmp f.width g.width) (bool_cmp f.signed g.signed)) (nat_cmp f.frac g.frac) e)
    in
    let F : Bool → ℕ → ℕ → FormatParts = λ s w k. record { signed = s; width = w; frac = k } in
    ap (λ s. F s f.width f.frac) signed ∙ (ap (λ w. F g.signed w f.frac) width ∙ ap (λ k. F g.signed g.width k) frac)

same_bits : (b c : ℤ) (f : ℕ) → order_of b f c f ≡ Equal → b ≡ c
unfolding order_of
same_bits b c f e = exact_signed b c (cmp_times b c (2 ^ f) (pow_pos f) ∙ e)

pub same_cell : (a b : CellParts) → cell_order a b ≡ Equal → a ≡ b
same_cell a b e =
    let value = first_equal (order_of a.bits a.format.frac b.bits b.format.frac) (format_order a.format b.format) e in
    let format : a.format ≡ b.format = same_format a.format b.format
    (second_equal (order_of a.bits a.format.frac b.bits b.format.frac) (format_order a.format b.format) e) in
    let V : FormatParts → Type 0 = λ f. order_of a.bits a.format.frac b.bits f.frac ≡ Equal in
    let bits : a.bits ≡ b.bits = same_bits a.bits b.bits a.format.frac (subst V (sym format) value) in
    let C : FormatParts → ℤ → CellParts = λ f v. record { format = f; bits = v } in
    ap (λ f. C f a.bits) format ∙ ap (λ v. C b.format v) bits

pub itself : (c : CellParts) → cell_order c c ≡ Equal
itself c = tied_itself cell_total c

pub cell_decides : (a b : CellParts) → Decides (is_eq (cell_order a b)) (a ≡ b)
cell_decides a b =
    let O : CellParts → Ordering = λ c. cell_order a c in
    (λ e. same_cell a b ((Equal-is (cell_order a b)).0 e), λ e. ap is_eq (sym (ap O e) ∙ itself a))
