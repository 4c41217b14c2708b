-- Formats of the worked examples.
use Rattle.std.specs.Prelude.{ℕ, ◌+◌, true, false}
use Rattle.fixed_bits.specs.Formats.{FormatParts}

-- the unsigned format with these counts of whole and fraction bits
abbrev pub unsigned_format : ℕ → ℕ → FormatParts
unsigned_format whole fraction = record { signed = false; width = whole + fraction; frac = fraction }

-- the signed format with these counts of whole and fraction bits
abbrev pub signed_format : ℕ → ℕ → FormatParts
signed_format whole fraction = record { signed = true; width = whole + fraction; frac = fraction }
