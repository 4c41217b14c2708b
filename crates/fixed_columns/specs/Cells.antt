-- Cells, their order, and lists of them.
use Rattle.std.specs.Prelude.{◌≡◌, ◌+◌, ◌<◌, ℕ, ℤ, Bool, false, List, slice_index_or, length}
use Rattle.std.specs.List.{count_by}
use Rattle.std.specs.declared.cmp.Ordering.{Ordering}
use Rattle.std.specs.Ordering.{nat_cmp, bool_cmp, is_eq, is_lt, ordering_then}
use Rattle.fixed_bits.specs.Formats.{FormatParts, IsTypeFormat}
use Rattle.fixed_bits.specs.Ranges.{IsInRange}
use Rattle.fixed_convert.specs.Order.{order_of}

-- a format, and bits of it: the value is bits / 2^frac
pub record CellParts : Type 0 where
  pub format : FormatParts
  pub bits : ℤ

-- the format is valid, and the bits are in its range
pub record IsCell (c : CellParts) : Type 0 where
  pub format : IsTypeFormat c.format.width c.format.frac
  pub in_range : IsInRange c.format.signed c.format.width c.bits

-- the cell of a sign rule, a width, a fraction length and bits
abbrev pub cell_of : Bool → ℕ → ℕ → ℤ → CellParts
cell_of signed width frac bits = record { format = record { signed = signed; width = width; frac = frac }; bits = bits }

-- by width, then unsigned before signed, then by fraction length
abbrev pub format_order : FormatParts → FormatParts → Ordering
format_order f g = ordering_then (ordering_then (nat_cmp f.width g.width) (bool_cmp f.signed g.signed))
    (nat_cmp f.frac g.frac)

-- by value, then by format
abbrev pub cell_order : CellParts → CellParts → Ordering
cell_order a b = ordering_then (order_of a.bits a.format.frac b.bits b.format.frac) (format_order a.format b.format)

-- how often a cell occurs in a list: the count of its cells that the order does not tell apart from this one
abbrev pub times : CellParts → List CellParts → ℕ
times c cells = count_by (λ x. is_eq (cell_order x c)) cells

-- each cell occurs equally often in both lists
abbrev pub HoldsAsOften : List CellParts → List CellParts → Type 0
HoldsAsOften a b = (c : CellParts) → times c b ≡ times c a

-- no cell is less than the one before it
abbrev pub IsInOrder : List CellParts → Type 0
IsInOrder cells = (k : ℕ) (d : CellParts) → k + 1 < length cells
    → is_lt (cell_order (slice_index_or cells (k + 1) d) (slice_index_or cells k d)) ≡ false
