-- The parts of a format's name in another tool.
use Rattle.std.specs.Prelude.{◌≡◌, ◌<ℤ◌, ◌-ℤ◌, ◌+ℤ◌, ℕ, ℤ, pos, neg_ℤ, Bool, List, ◌∷◌, ◌++◌, codes}
use Rattle.fixed_bits.specs.Formats.{FormatParts, IsFormat, whole_length}
use Rattle.fixed_names.specs.ToolNames.{IsWholeName, pair_text, sign_text, tool_text}
use Rattle.fixed_names.specs.declared.tool_names.ToolForm.{ToolForm}
use Rattle.fixed_names.specs.declared.tool_names.ToolForm.TheVariants.{Hls, HlsSpaced, Vhdl, Fi, FiSpaced}
use Rattle.fixed_names.specs.declared.tool_names.ToolForm.TheVariants.{NumericType, NumericTypeSpaced, Simulink}

-- the text before the numbers
abbrev pub head_of : ToolForm → Bool → List ℕ
head_of Hls signed = sign_text signed (codes "ap_fixed<") (codes "ap_ufixed<")
head_of HlsSpaced signed = sign_text signed (codes "ap_fixed<") (codes "ap_ufixed<")
head_of Vhdl signed = sign_text signed (codes "sfixed(") (codes "ufixed(")
head_of Fi signed = codes "fi(_," ++ (sign_text signed (codes "1") (codes "0") ++ codes ",")
head_of FiSpaced signed = codes "fi(_, " ++ (sign_text signed (codes "1") (codes "0") ++ codes ", ")
head_of NumericType signed = codes "numerictype(" ++ (sign_text signed (codes "1") (codes "0") ++ codes ",")
head_of NumericTypeSpaced signed = codes "numerictype(" ++ (sign_text signed (codes "1") (codes "0") ++ codes ", ")
head_of Simulink signed = sign_text signed (codes "sfix") (codes "ufix")

-- the text between the numbers: its first byte, and the rest
abbrev pub mark_of : ToolForm → ℕ
mark_of Hls = 44
mark_of HlsSpaced = 44
mark_of Vhdl = 32
mark_of Fi = 44
mark_of FiSpaced = 44
mark_of NumericType = 44
mark_of NumericTypeSpaced = 44
mark_of Simulink = 95

abbrev pub after_mark : ToolForm → List ℕ
after_mark Hls = codes ""
after_mark HlsSpaced = codes " "
after_mark Vhdl = codes "downto "
after_mark Fi = codes ""
after_mark FiSpaced = codes " "
after_mark NumericType = codes ""
after_mark NumericTypeSpaced = codes " "
after_mark Simulink = codes "En"

-- the text after the numbers
abbrev pub tail_of : ToolForm → List ℕ
tail_of Hls = codes ">"
tail_of HlsSpaced = codes ">"
tail_of Vhdl = codes ")"
tail_of Fi = codes ")"
tail_of FiSpaced = codes ")"
tail_of NumericType = codes ")"
tail_of NumericTypeSpaced = codes ")"
tail_of Simulink = codes ""

-- the first and the second number
abbrev pub first_of : ToolForm → FormatParts → ℤ
first_of Hls f = pos f.width
first_of HlsSpaced f = pos f.width
first_of Vhdl f = whole_length f -ℤ pos 1
first_of Fi f = pos f.width
first_of FiSpaced f = pos f.width
first_of NumericType f = pos f.width
first_of NumericTypeSpaced f = pos f.width
first_of Simulink f = pos f.width

abbrev pub second_of : ToolForm → FormatParts → ℤ
second_of Hls f = whole_length f
second_of HlsSpaced f = whole_length f
second_of Vhdl f = neg_ℤ (pos f.frac)
second_of Fi f = pos f.frac
second_of FiSpaced f = pos f.frac
second_of NumericType f = pos f.frac
second_of NumericTypeSpaced f = pos f.frac
second_of Simulink f = pos f.frac

-- the text of two numbers in a form
abbrev pub numbers_text : ToolForm → Bool → ℤ → ℤ → List ℕ
numbers_text form signed first second = pair_text (head_of form signed) first (mark_of form ∷ after_mark form) second
    (tail_of form)

-- less than 100 in magnitude
pub record IsSmall (z : ℤ) : Type 0 where
  pub above : neg_ℤ (pos 100) <ℤ z
  pub below : z <ℤ pos 100

-- the width `w` and the fraction length `k` by the numbers `a` and `b` of a form
abbrev pub AreCounts : ToolForm → ℤ → ℤ → ℤ → ℤ → Type 0
AreCounts Hls a b w k = (w ≡ a) × (k ≡ a -ℤ b)
AreCounts HlsSpaced a b w k = (w ≡ a) × (k ≡ a -ℤ b)
AreCounts Vhdl a b w k = (w ≡ (a +ℤ pos 1) -ℤ b) × (k ≡ neg_ℤ b)
AreCounts Fi a b w k = (w ≡ a) × (k ≡ b)
AreCounts FiSpaced a b w k = (w ≡ a) × (k ≡ b)
AreCounts NumericType a b w k = (w ≡ a) × (k ≡ b)
AreCounts NumericTypeSpaced a b w k = (w ≡ a) × (k ≡ b)
AreCounts Simulink a b w k = (w ≡ a) × (k ≡ b)

-- `a` and `b` are the numbers of the format in this form
pub record HasNumbers (form : ToolForm) (signed : Bool) (a b : ℤ) (f : FormatParts) : Type 0 where
  pub format : IsFormat f.width f.frac
  pub signed_is : f.signed ≡ signed
  pub first : a ≡ first_of form f
  pub second : b ≡ second_of form f

-- the word is the name, in this form, of the format, which has this sign rule
pub record IsNamedIn (form : ToolForm) (signed : Bool) (word : List ℕ) (f : FormatParts) : Type 0 where
  pub format : IsFormat f.width f.frac
  pub signed_is : f.signed ≡ signed
  pub text : word ≡ tool_text form f

-- the word gives only the width of the format, which has this sign rule
pub record IsWholeIn (signed : Bool) (word : List ℕ) (f : FormatParts) : Type 0 where
  pub format : IsFormat f.width f.frac
  pub signed_is : f.signed ≡ signed
  pub named : IsWholeName word f
