-- Cells of one format have the order of their bits.
use Rattle.std.proofs.Common.{◌≡◌, ℕ, ◌^◌, ℤ, pow_pos, refl, sym, subst}
use Rattle.std.specs.declared.cmp.Ordering.{Ordering}
use Rattle.std.specs.declared.cmp.Ordering.TheVariants.{Less, Equal, Greater}
use Rattle.std.specs.Ordering.{int_cmp, ordering_then}
use Rattle.fixed_bits.specs.Formats.{FormatParts}
use Rattle.fixed_convert.specs.Order.{order_of}
use Rattle.fixed_convert.proofs.Public.{cmp_times}
use Rattle.fixed_columns.specs.Cells.{CellParts, cell_order, format_order}
use Rattle.fixed_columns.specs.Lemmas.OrderLemmas.{same_format}

then_equal : (p : Ordering) → ordering_then p Equal ≡ p
then_equal Less = refl
then_equal Equal = refl
then_equal Greater = refl

value_in_format : (b c : ℤ) (f : ℕ) → order_of b f c f ≡ int_cmp b c
unfolding order_of
value_in_format b c f = sym (cmp_times b c (2 ^ f) (pow_pos f))

pub order_in_format : (a b : CellParts) → format_order a.format b.format ≡ Equal → int_cmp a.bits b.bits ≡ cell_order a b
order_in_format a b e =
    let same : a.format ≡ b.format = same_format a.format b.format e in
    let V : FormatParts → Type 0 = λ f. order_of a.bits a.format.frac b.bits f.frac ≡ int_cmp a.bits b.bits in
    let value : order_of a.bits a.format.frac b.bits b.format.frac ≡ int_cmp a.bits b.bits = subst V same (value_in_format a.bits b.bits a.format.frac) in
    sym (rw (value, e) (then_equal (int_cmp a.bits b.bits)))
