-- Binary digits of a numeral.
use Rattle.std.specs.Prelude.{ℕ, ◌⊎◌, ◌+◌, ◌*◌, ◌^◌, ◌%◌, ◌<◌, ◌≤◌}

-- of 64 binary digits, those from digit f on are a fraction at least 2^-9 from a half
abbrev pub IsFarFromHalf : ℕ → ℕ → Type 0
IsFarFromHalf digits f = (digits * 2 ^ f % 2 ^ 64 + 2 ^ 55 < 2 ^ 63) ⊎ (2 ^ 63 + 2 ^ 55 ≤ digits * 2 ^ f % 2 ^ 64)
