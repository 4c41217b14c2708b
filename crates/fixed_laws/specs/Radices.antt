-- The four radices, by names that no notation has.
use Rattle.fixed_numeral.specs.declared.radix.Radix.{Radix}
use Rattle.fixed_numeral.specs.declared.radix.Radix.TheVariants.{Bin, Oct, Dec, Hex}

abbrev pub binary : Radix
binary = Bin

abbrev pub octal : Radix
octal = Oct

abbrev pub decimal_radix : Radix
decimal_radix = Dec

abbrev pub hexadecimal : Radix
hexadecimal = Hex
