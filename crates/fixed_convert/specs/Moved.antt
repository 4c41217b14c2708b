-- Bits moved from one fraction length to another.
use Rattle.std.specs.Prelude.{◌≡◌, ℕ, ◌^◌, ◌≤◌, ◌+◌, ℤ, pos, ◌*ℤ◌, Bool, true, false, ◌⊎◌}
use Rattle.fixed_bits.specs.Ranges.{IsTypeWidth}

-- bits followed by k zero bits
abbrev pub shifted : ℤ → ℕ → ℤ
shifted b k = b *ℤ pos (2 ^ k)

-- the width of a number in bits: 1 for a truth value, else that of an integer type
abbrev pub IsNumWidth : ℕ → Type 0
IsNumWidth n = (n ≡ 1) ⊎ IsTypeWidth n

-- the target has room for the source's whole bits: the sign rules of source and target, and their counts of whole bits
abbrev pub HasRoom : Bool → Bool → ℕ → ℕ → Type 0
HasRoom true true s t = s ≤ t
HasRoom false false s t = s ≤ t
HasRoom false true s t = s + 1 ≤ t
HasRoom true false s t = ⊥
