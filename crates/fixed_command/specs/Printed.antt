-- The printed part of an answer.
use Rattle.std.specs.Prelude.{ℕ, ℤ, List, false}
use Rattle.std.specs.Fmt.{signed_decimal}
use Rattle.fixed_bits.specs.Formats.{FormatParts}
use Rattle.fixed_write.specs.Places.{exact_text, rounded_text}
use Rattle.fixed_command.specs.Hex.{hex_digits, hex_text}
use Rattle.fixed_command.specs.declared.print.Print.{Print}
use Rattle.fixed_command.specs.declared.print.Print.TheVariants.{All, Bits, Hex, Places, Readmemh, Text, Value}

-- the part of an answer whose first word is this text and whose second word is these bits
abbrev pub printed : Print → FormatParts → List ℕ → List ℕ → ℤ → List ℕ
printed Text f answer text bits = text
printed (Places count mode) f answer text bits = rounded_text mode 10 false count bits f.frac
printed Bits f answer text bits = signed_decimal bits
printed Hex f answer text bits = hex_text f.width bits
printed Readmemh f answer text bits = hex_digits f.width bits
printed Value f answer text bits = exact_text 10 false bits f.frac
printed All f answer text bits = answer
