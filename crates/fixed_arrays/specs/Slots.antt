-- Templates: texts with slots for a list, its format and one of its numbers.
use Rattle.std.specs.Prelude.{◌-◌, ◌+◌, ◌/◌, ◌^◌, ◌==◌, ℕ, suc, ℤ, pos, negsuc, Bool, true, false}
use Rattle.std.specs.Prelude.{List, [], ◌∷◌, ◌++◌, codes}
use Rattle.std.specs.Prelude.{if◌then◌else◌, nat_lt}
use Rattle.std.specs.Fmt.{decimal}
use Rattle.fixed_bits.specs.Formats.{FormatParts}
use Rattle.fixed_constants.specs.Canonical.{literal_text}
use Rattle.fixed_constants.specs.Forms.{c_number}
use Rattle.fixed_respell.specs.Words.{format_text}
use Rattle.fixed_write.specs.Texts.{last_digits, shortest_text}
use Rattle.fixed_arrays.specs.declared.slots.Filling.{Filling}

-- the width of an element's integer type: the least of 8, 16, 32 and 64 bits that holds the format's width
unfoldable pub element_width : ℕ → ℕ
element_width width =
    if nat_lt 32 width then 64 else (if nat_lt 16 width then 32 else (if nat_lt 8 width then 16 else 8))

-- the format of that width
abbrev pub element_format : FormatParts → FormatParts
element_format f = record { signed = f.signed; width = element_width f.width; frac = f.frac }

-- what slots stand for
pub record FillingParts : Type 0 where
  pub name : List ℕ
  pub guard : List ℕ
  pub format : FormatParts
  -- the count of numbers in the list
  pub count : ℕ
  -- the name of a number, empty if it has none; its index in the list, from 0; and its bits
  pub label : List ℕ
  pub index : ℕ
  pub bits : ℤ

abbrev pub parts_of : Filling → FillingParts
parts_of v = record {
  name = v.name.now;
  guard = v.guard.now;
  format = v.format;
  count = v.count;
  label = v.label.now;
  index = v.index;
  bits = v.bits;
}

-- ---- what a slot stands for
-- the prefixes of unsigned types in C, of integer types in Rust, and of `signed` in VHDL
abbrev pub c_sign : Bool → List ℕ
c_sign true = []
c_sign false = codes "u"

abbrev pub rust_sign : Bool → List ℕ
rust_sign true = codes "i"
rust_sign false = codes "u"

abbrev pub vhdl_sign : Bool → List ℕ
vhdl_sign true = []
vhdl_sign false = codes "un"

-- the text between two numbers
abbrev pub separator : ℕ → List ℕ
separator index = if index == 0 then [] else codes ",\n"

-- the text before the value of a named number
abbrev pub label_text : List ℕ → List ℕ
label_text [] = []
label_text (b ∷ bs) = (b ∷ bs) ++ codes ", "

-- the bits as an unsigned number of this width: two's complement
abbrev pub word_of : ℕ → ℤ → ℕ
word_of width (pos n) = n
word_of width (negsuc n) = 2 ^ width - suc n

-- the digits of that number: one for every four bits in hexadecimal, one for each bit in binary
abbrev pub hex_digits : ℕ → ℤ → List ℕ
hex_digits width bits = last_digits 16 false ((width + 3) / 4) (word_of width bits)

abbrev pub binary_digits : ℕ → ℤ → List ℕ
binary_digits width bits = last_digits 2 false width (word_of width bits)

-- d: the number in C; x: in Rust; h: its bits in hexadecimal; z: in binary; any other key: its value
unfoldable pub number_slot : FillingParts → ℕ → List ℕ
number_slot v key =
    if key == 100 then c_number (element_format v.format) v.bits else
    (if key == 120 then literal_text v.bits 0 else
    (if key == 104 then hex_digits v.format.width v.bits else
    (if key == 122 then binary_digits v.format.width v.bits else shortest_text v.bits v.format.frac)))

-- c: the count of numbers; l: the last index; i: the index of this number; w: the width of an element's type; b: that
-- of the format; m: the index of the highest bit of the format; p: its fraction length
unfoldable pub count_slot : FillingParts → ℕ → List ℕ
count_slot v key =
    if key == 99 then decimal v.count else
    (if key == 108 then decimal (v.count - 1) else
    (if key == 105 then decimal v.index else
    (if key == 119 then decimal (element_width v.format.width) else
    (if key == 98 then decimal v.format.width else
    (if key == 109 then decimal (v.format.width - 1) else
    (if key == 112 then decimal v.format.frac else number_slot v key))))))

-- n: the list's name; g: the header's guard; f: the format; u, r, q: the signs of C, Rust and VHDL; a comma: the text
-- between two numbers; k: the name of this number
unfoldable pub slot : FillingParts → ℕ → List ℕ
slot v key =
    if key == 110 then v.name else
    (if key == 103 then v.guard else
    (if key == 102 then format_text v.format else
    (if key == 117 then c_sign v.format.signed else
    (if key == 114 then rust_sign v.format.signed else
    (if key == 113 then vhdl_sign v.format.signed else
    (if key == 44 then separator v.index else
    (if key == 107 then label_text v.label else count_slot v key)))))))

-- ---- a template
-- a byte after '@' is a slot, and so is the first byte if `is_slot`
unfoldable pub fill_from : Bool → FillingParts → List ℕ → List ℕ
fill_from is_slot v [] = []
fill_from true v (key ∷ more) = slot v key ++ fill_from false v more
fill_from false v (byte ∷ more) =
    elim (byte == 64) as (λ t. List ℕ) [ true ↦ fill_from true v more | false ↦ byte ∷ fill_from false v more ]

abbrev pub fill : FillingParts → List ℕ → List ℕ
fill v template = fill_from false v template
