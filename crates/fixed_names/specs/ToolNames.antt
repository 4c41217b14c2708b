-- The names of formats in other tools.
use Rattle.std.specs.Prelude.{◌≡◌, ◌⊎◌, ℕ, List, ◌++◌, ℤ, pos, ◌-ℤ◌, neg_ℤ, Bool, true, false, codes, decimal}
use Rattle.std.specs.Fmt.{signed_decimal}
use Rattle.fixed_bits.specs.Formats.{FormatParts, IsFormat, whole_length}
use Rattle.fixed_names.specs.declared.tool_names.ToolForm.{ToolForm}
use Rattle.fixed_names.specs.declared.tool_names.ToolForm.TheVariants.{Hls, HlsSpaced, Vhdl, Fi, FiSpaced}
use Rattle.fixed_names.specs.declared.tool_names.ToolForm.TheVariants.{NumericType, NumericTypeSpaced, Simulink}

-- a name of two numbers, with texts before, between and after them
unfoldable pub pair_text : List ℕ → ℤ → List ℕ → ℤ → List ℕ → List ℕ
pair_text head first mark second tail = head ++ (signed_decimal first ++ (mark ++ (signed_decimal second ++ tail)))

-- one text for signed formats, another for unsigned ones
abbrev pub sign_text : Bool → List ℕ → List ℕ → List ℕ
sign_text true with_sign without_sign = with_sign
sign_text false with_sign without_sign = without_sign

-- C++ for high-level synthesis, ap_fixed<16,1>: the width, and the whole bits with the sign bit
abbrev pub hls_text : List ℕ → FormatParts → List ℕ
hls_text comma f = pair_text (sign_text f.signed (codes "ap_fixed<") (codes "ap_ufixed<")) (pos f.width) comma
    (whole_length f) (codes ">")

-- VHDL, sfixed(0 downto -15): the powers of two of the highest and of the lowest bit
abbrev pub vhdl_text : FormatParts → List ℕ
vhdl_text f = pair_text (sign_text f.signed (codes "sfixed(") (codes "ufixed(")) (whole_length f -ℤ pos 1)
    (codes " downto ") (neg_ℤ (pos f.frac)) (codes ")")

-- MATLAB, numerictype(1,16,15) and fi(_,1,16,15): 1 if signed and else 0, the width, the fraction length
abbrev pub matlab_text : List ℕ → List ℕ → FormatParts → List ℕ
matlab_text start comma f = pair_text (start ++ (sign_text f.signed (codes "1") (codes "0") ++ comma)) (pos f.width)
    comma (pos f.frac) (codes ")")

-- Simulink, sfix16_En15: the width and the fraction length
abbrev pub simulink_text : FormatParts → List ℕ
simulink_text f = pair_text (sign_text f.signed (codes "sfix") (codes "ufix")) (pos f.width) (codes "_En")
    (pos f.frac) (codes "")

-- the name of a format in a form
abbrev pub tool_text : ToolForm → FormatParts → List ℕ
tool_text Hls f = hls_text (codes ",") f
tool_text HlsSpaced f = hls_text (codes ", ") f
tool_text Vhdl f = vhdl_text f
tool_text Fi f = matlab_text (codes "fi(_,") (codes ",") f
tool_text FiSpaced f = matlab_text (codes "fi(_, ") (codes ", ") f
tool_text NumericType f = matlab_text (codes "numerictype(") (codes ",") f
tool_text NumericTypeSpaced f = matlab_text (codes "numerictype(") (codes ", ") f
tool_text Simulink f = simulink_text f

-- the word is the name of the format in a form
pub record IsFormName (word : List ℕ) (f : FormatParts) : Type 0 where
  pub form : ToolForm
  pub text : word ≡ tool_text form f

-- Simulink, sfix16: the width, and no fraction
pub record IsWholeName (word : List ℕ) (f : FormatParts) : Type 0 where
  pub whole : f.frac ≡ 0
  pub text : word ≡ sign_text f.signed (codes "sfix") (codes "ufix") ++ decimal f.width

-- the word names the format as another tool does; by a law it names at most one
pub record IsToolName (word : List ℕ) (f : FormatParts) : Type 0 where
  pub format : IsFormat f.width f.frac
  pub named : IsFormName word f ⊎ IsWholeName word f
