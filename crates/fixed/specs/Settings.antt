-- The meaning of the values of options.
use Rattle.std.specs.Prelude.{◌≡◌, ℕ, ◌<◌, ◌≤◌, ◌^◌, List, codes, decimal, unwrap_or}
use Rattle.std.specs.declared.option.Option.{Option}
use Rattle.std.specs.declared.option.Option.TheVariants.{None, Some}
use Rattle.command_line.specs.Words.{value_of}
use Rattle.command_line.specs.declared.given.Given.{Given}
use Rattle.fixed.specs.declared.commands.unpack_words.Excerpt.{Excerpt}
use Rattle.fixed_bits.specs.declared.mode.ReadMode.{ReadMode}
use Rattle.fixed_bits.specs.declared.mode.ReadMode.TheVariants.{NearestEven}
use Rattle.fixed_command.specs.Asked.{IsNamed, IsPrintNamed}
use Rattle.fixed_command.specs.Limits.{max_limit}
use Rattle.fixed_command.specs.declared.print.Print.{Print}
use Rattle.fixed_command.specs.declared.print.Print.TheVariants.{Places, Text}
use Rattle.fixed_float.specs.declared.layout.FloatLayout.{FloatLayout}
use Rattle.fixed_float.specs.declared.layout.FloatLayout.TheVariants.{Binary32, Binary64}
use Rattle.fixed_pack.specs.declared.endian.Endian.{Endian}
use Rattle.fixed_pack.specs.declared.endian.Endian.TheVariants.{Big, Little}
use Rattle.fixed_respell.specs.Words.{mode_text}
use Rattle.fixed.specs.declared.settings.PackInput.{PackInput}
use Rattle.fixed.specs.declared.settings.PackInput.TheVariants.{Bits, Floats, Numerals}

-- the value is a count: a decimal number below 2^64
pub record IsCountWord (word : List ℕ) (count : ℕ) : Type 0 where
  pub fits : count < 2 ^ 64
  pub text : word ≡ decimal count

-- the value is a limit: a decimal number from 1 to 4,294,967,296
pub record IsLimitWord (word : List ℕ) (limit : ℕ) : Type 0 where
  pub some : 1 ≤ limit
  pub most : limit ≤ max_limit
  pub text : word ≡ decimal limit

-- the limit of each input, if the option has this value
abbrev pub IsLimitAsked : Option (List ℕ) → Option ℕ → Type 0
IsLimitAsked None limit = limit ≡ None
IsLimitAsked (Some word) None = ⊥
IsLimitAsked (Some word) (Some limit) = IsLimitWord word limit

-- the words of an input that are read: without values none of its bytes are skipped, and no count ends them
pub record IsExcerptAsked (given : Given) (excerpt : Excerpt) : Type 0 where
  pub skip : IsCountWord (unwrap_or (value_of given (codes "skip")) (codes "0")) excerpt.skip
  pub count : IsCountWord (unwrap_or (value_of given (codes "count")) (codes "18446744073709551615")) excerpt.count

-- the value is a count of places: a decimal number of at most 64
pub record IsPlacesWord (word : List ℕ) (count : ℕ) : Type 0 where
  pub word_is : word ≡ decimal count
  pub most : count ≤ 64

-- the printed part that these values request: a part of an answer, a count of places, and the mode for places; places
-- are only for the text, and a mode is only for places
abbrev pub IsPrintAsked : Option (List ℕ) → Option (List ℕ) → Option (List ℕ) → Print → Type 0
IsPrintAsked part None None print = IsPrintNamed part print
IsPrintAsked part None (Some word) print = ⊥
IsPrintAsked part (Some word) mode_word print = IsPrintNamed part Text
    × (count : ℕ) × IsPlacesWord word count
    × (mode : ReadMode) × IsNamed ReadMode mode_text NearestEven mode_word mode × (print ≡ Places count mode)

-- the value for the floats read or written in place of text
abbrev pub floats_text : Option FloatLayout → List ℕ
floats_text None = codes "text"
floats_text (Some Binary64) = codes "f64"
floats_text (Some Binary32) = codes "f32"

-- the value for what the input of `pack` is
abbrev pub pack_input_text : PackInput → List ℕ
pack_input_text Numerals = codes "text"
pack_input_text Bits = codes "bits"
pack_input_text (Floats Binary64) = codes "f64"
pack_input_text (Floats Binary32) = codes "f32"

-- the value for an order of bytes
abbrev pub endian_text : Endian → List ℕ
endian_text Little = codes "little"
endian_text Big = codes "big"
