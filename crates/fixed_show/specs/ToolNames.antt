-- The names of a format in other tools.
use Rattle.std.specs.Prelude.{◌≡◌, ℕ, zero, suc, ◌-◌, ◌<◌, ◌≤◌, List, ◌++◌, ℤ, pos, ◌-ℤ◌, neg_ℤ, Bool, true, false}
use Rattle.std.specs.Prelude.{codes, if◌then◌else◌, nat_le}
use Rattle.std.specs.Fmt.{signed_decimal}
use Rattle.fixed_bits.specs.Formats.{FormatParts, IsFormat, whole_length}
use Rattle.fixed_respell.specs.FormatNames.{IsFormatName}
use Rattle.fixed_show.specs.Forms.{fact}
use Rattle.fixed_show.specs.declared.form.Form.{Form}
use Rattle.fixed_show.specs.declared.form.Form.TheVariants.{Lines, Members}

-- a name of two numbers, with texts before, between and after them
unfoldable pub pair_text : List ℕ → ℤ → List ℕ → ℤ → List ℕ → List ℕ
pair_text head first mark second tail = head ++ (signed_decimal first ++ (mark ++ (signed_decimal second ++ tail)))

-- the start of a name, for a signed format and for an unsigned one
abbrev pub head_text : Bool → List ℕ → List ℕ → List ℕ
head_text true with_sign without_sign = with_sign
head_text false with_sign without_sign = without_sign

-- Qm.n, UQm.n
abbrev pub q_text : Bool → ℕ → ℕ → List ℕ
q_text signed whole frac = pair_text (head_text signed (codes "Q") (codes "UQ")) (pos whole) (codes ".") (pos frac)
    (codes "")

-- ARM's Q: the sign bit is one of the whole bits
abbrev pub arm_name : Bool → ℕ → ℕ → List ℕ
arm_name signed whole frac = q_text signed whole frac

-- TI's Q: the sign bit is not one of the whole bits
abbrev pub ti_name : Bool → ℕ → ℕ → List ℕ
ti_name true whole frac = q_text true (whole - 1) frac
ti_name false whole frac = q_text false whole frac

-- high-level synthesis in C++: the width, and the whole bits with the sign bit
abbrev pub hls_name : Bool → ℕ → ℤ → List ℕ
hls_name signed width whole = pair_text (head_text signed (codes "ap_fixed<") (codes "ap_ufixed<")) (pos width)
    (codes ",") whole (codes ">")

-- VHDL's fixed_pkg: the power of two of the highest and of the lowest bit
abbrev pub vhdl_name : Bool → ℤ → ℕ → List ℕ
vhdl_name signed whole frac = pair_text (head_text signed (codes "sfixed(") (codes "ufixed(")) (whole -ℤ pos 1)
    (codes " downto ") (neg_ℤ (pos frac)) (codes ")")

-- MATLAB's fi, of any value: the sign, the word length and the fraction length
abbrev pub matlab_name : Bool → ℕ → ℕ → List ℕ
matlab_name signed width frac = pair_text (head_text signed (codes "fi(_,1,") (codes "fi(_,0,")) (pos width)
    (codes ",") (pos frac) (codes ")")

-- the facts for a format without names in Q
abbrev pub no_q_facts : Form → List ℕ
no_q_facts Lines = fact Lines (codes "ARM") (codes "none") ++ fact Lines (codes "TI") (codes "none")
no_q_facts Members = codes ",\"ARM\":null,\"TI\":null"

-- the names in Q with this many whole bits; a signed format without whole bits has none
abbrev pub q_facts : Form → Bool → ℕ → ℕ → List ℕ
q_facts form true zero frac = no_q_facts form
q_facts form true (suc above) frac = fact form (codes "ARM") (arm_name true (suc above) frac)
    ++ fact form (codes "TI") (ti_name true (suc above) frac)
q_facts form false whole frac = fact form (codes "ARM") (arm_name false whole frac)
    ++ fact form (codes "TI") (ti_name false whole frac)

-- the names of a format in Q; one whose fraction is longer than its width has none
abbrev pub format_q_facts : Form → FormatParts → List ℕ
format_q_facts form f = if nat_le f.frac f.width then q_facts form f.signed (f.width - f.frac) f.frac
    else no_q_facts form

-- all names
unfoldable pub name_facts : Form → FormatParts → List ℕ
name_facts form f = format_q_facts form f
    ++ (fact form (codes "HLS") (hls_name f.signed f.width (whole_length f))
    ++ (fact form (codes "VHDL") (vhdl_name f.signed (whole_length f) f.frac)
    ++ fact form (codes "MATLAB") (matlab_name f.signed f.width f.frac)))

-- the ARM name of a format, if it has one, names it for the command `fixed`
abbrev pub ArmNameIsAName : Type 0
ArmNameIsAName = (f : FormatParts) → IsFormat f.width f.frac → f.frac ≤ f.width → (f.signed ≡ true → f.frac < f.width)
    → IsFormatName (arm_name f.signed (f.width - f.frac) f.frac) f
