-- The order of formats: by width, then unsigned before signed, then by fraction length.
use Rattle.std.specs.Prelude.{◌≡◌, ◌⊎◌, ◌+◌, ◌<◌, ◌==◌, ℕ, Bool, true, false, if◌then◌else◌}
use Rattle.fixed_bits.specs.Formats.{FormatParts}

-- f comes before g
abbrev pub IsBefore : FormatParts → FormatParts → Type 0
IsBefore f g = (f.width < g.width)
    ⊎ ((f.width ≡ g.width) × (f.signed ≡ false) × (g.signed ≡ true))
    ⊎ ((f.width ≡ g.width) × (f.signed ≡ g.signed) × (f.frac < g.frac))

-- the number of narrower formats: 2 * (8 + 1) for width 16, 2 * (16 + 1) more for width 32, and so on
abbrev pub rank_of_width : ℕ → ℕ
rank_of_width n = if n == 8 then 0 else (if n == 16 then 18 else (if n == 32 then 52 else 118))

-- the number of formats of width n that come before those with this sign rule
abbrev pub rank_of_sign : Bool → ℕ → ℕ
rank_of_sign true n = n + 1
rank_of_sign false n = 0

-- the index of a format among those of its width
abbrev pub rank_in_width : FormatParts → ℕ
rank_in_width f = rank_of_sign f.signed f.width + f.frac

-- the index of a format in the order, from 0, as a law says
abbrev pub rank : FormatParts → ℕ
rank f = rank_of_width f.width + rank_in_width f
