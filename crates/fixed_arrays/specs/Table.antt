-- How a list of numbers is written: each form has an opening, a line for an element, and a closing.
use Rattle.std.specs.Prelude.{◌+◌, ℕ, ℤ, pos, List, [], ◌∷◌, ◌++◌, codes, length}
use Rattle.fixed_constants.specs.Constants.{ConstantParts}
use Rattle.fixed_arrays.specs.Slots.{FillingParts, fill}
use Rattle.fixed_arrays.specs.declared.form.ArrayForm.{ArrayForm}
use Rattle.fixed_arrays.specs.declared.form.ArrayForm.TheVariants.{C, GuardedC, Rust, Vhdl, Readmemh, Coe, Mif}
use Rattle.fixed_arrays.specs.declared.text.Frame.{Frame}

-- ---- the table
-- in C the count of numbers and the fraction length are macros
abbrev pub c_opening : List ℕ
c_opening = codes "#include <stdint.h>\n\n#define @n_COUNT @c\n#define @n_FRAC @p\n\n"
    ++ codes "/* @f */\nstatic const @uint@w_t @n[@n_COUNT] = {\n"

unfoldable pub opening : ArrayForm → List ℕ
opening C = c_opening
opening GuardedC = codes "#ifndef @g\n#define @g\n\n" ++ c_opening
opening Rust = codes "// @f\npub static @n: [@r@w; @c] = [\n"
opening Vhdl = codes "library ieee;\nuse ieee.std_logic_1164.all;\nuse ieee.numeric_std.all;\n\n-- @f\n"
    ++ (codes "package @n_package is\n    type @n_array is array (0 to @l) of @qsigned(@m downto 0);\n"
    ++ codes "    constant @n : @n_array := (\n")
opening Readmemh = codes "// @f\n"
opening Coe = codes "; @f\nmemory_initialization_radix=16;\nmemory_initialization_vector=\n"
opening Mif = codes "-- @f\nDEPTH = @c;\nWIDTH = @b;\nADDRESS_RADIX = UNS;\nDATA_RADIX = HEX;\nCONTENT\nBEGIN\n"

unfoldable pub element : ArrayForm → List ℕ
element C = codes "    @d, /* @k@v */\n"
element GuardedC = codes "    @d, /* @k@v */\n"
element Rust = codes "    @x, // @k@v\n"
element Vhdl = codes "        @i => \"@z\", -- @k@v\n"
element Readmemh = codes "@h // @k@v\n"
element Coe = codes "@,@h"
element Mif = codes "    @i : @h; -- @k@v\n"

unfoldable pub closing : ArrayForm → List ℕ
closing C = codes "};\n"
closing GuardedC = codes "};\n\n#endif\n"
closing Rust = codes "];\n"
closing Vhdl = codes "        others => (others => '0')\n    );\nend package @n_package;\n"
closing Readmemh = []
closing Coe = codes ";\n"
closing Mif = codes "END;\n"

-- ---- a list
-- what slots stand for at a number, with no slot for the count, and around the numbers
abbrev pub at_number : Frame → ℕ → List ℕ → ℤ → FillingParts
at_number r index label bits = record {
  name = r.name.now;
  guard = r.guard.now;
  format = r.format;
  count = 0;
  label = label;
  index = index;
  bits = bits;
}

abbrev pub around : Frame → ℕ → FillingParts
around r count = record {
  name = r.name.now;
  guard = r.guard.now;
  format = r.format;
  count = count;
  label = [];
  index = 0;
  bits = pos 0;
}

-- the line of a number with this name
abbrev pub element_line : Frame → ℕ → List ℕ → ℤ → List ℕ
element_line r index label bits = fill (at_number r index label bits) (element r.form)

-- the lines of numbers without names, and of named literals, from an index on
abbrev pub element_lines : Frame → ℕ → List ℤ → List ℕ
element_lines r index [] = []
element_lines r index (bits ∷ more) = element_line r index [] bits ++ element_lines r (index + 1) more

abbrev pub literal_lines : Frame → ℕ → List ConstantParts → List ℕ
literal_lines r index [] = []
literal_lines r index (c ∷ more) = element_line r index c.name c.bits ++ literal_lines r (index + 1) more

abbrev pub head : Frame → ℕ → List ℕ
head r count = fill (around r count) (opening r.form)

abbrev pub tail : Frame → ℕ → List ℕ
tail r count = fill (around r count) (closing r.form)

-- the whole lists
abbrev pub array_text : Frame → List ℤ → List ℕ
array_text r numbers = head r (length numbers) ++ (element_lines r 0 numbers ++ tail r (length numbers))

abbrev pub literals_text : Frame → List ConstantParts → List ℕ
literals_text r constants = head r (length constants) ++ (literal_lines r 0 constants ++ tail r (length constants))
