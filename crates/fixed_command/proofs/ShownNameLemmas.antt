-- The names of a format in other tools, as shown, are read as that format.
use Rattle.std.proofs.Common.{◌≡◌, ℕ, pos, ◌-ℤ◌, Bool, true, false, List, codes, refl, inl, inr}
use Rattle.fixed_bits.specs.Formats.{FormatParts, IsFormat, whole_length}
use Rattle.fixed_names.specs.Names.{IsName}
use Rattle.fixed_names.specs.ToolNames.{hls_text, matlab_text, pair_text, tool_text, vhdl_text}
use Rattle.fixed_names.specs.declared.tool_names.ToolForm.{ToolForm}
use Rattle.fixed_names.specs.declared.tool_names.ToolForm.TheVariants.{Fi, Hls, Vhdl}
use Rattle.fixed_show.specs.ToolNames as shown
use Rattle.fixed_command.specs.ShownNames.{ShownNamesAreNames}

abbrev parts : Bool → ℕ → ℕ → FormatParts
parts signed width frac = record { signed = signed; width = width; frac = frac }

hls_is : (signed : Bool) (width frac : ℕ) → shown.hls_name signed width (pos width -ℤ pos frac) ≡ hls_text (codes ",") (parts signed width frac)
unfolding pair_text shown.pair_text
hls_is true width frac = refl
hls_is false width frac = refl

vhdl_is : (signed : Bool) (width frac : ℕ) → shown.vhdl_name signed (pos width -ℤ pos frac) frac ≡ vhdl_text (parts signed width frac)
unfolding pair_text shown.pair_text
vhdl_is true width frac = refl
vhdl_is false width frac = refl

matlab_is : (signed : Bool) (width frac : ℕ) → shown.matlab_name signed width frac ≡ matlab_text (codes "fi(_,") (codes ",") (parts signed width frac)
unfolding pair_text shown.pair_text
matlab_is true width frac = refl
matlab_is false width frac = refl

named : (form : ToolForm) (word : List ℕ) (f : FormatParts) → IsFormat f.width f.frac → word ≡ tool_text form f → IsName word f
named form word f is text = inr (record { format = is; named = inl (record { form = form; text = text }) })

pub shown_names : ShownNamesAreNames
shown_names = record {
  hls = λ f is. named Hls (shown.hls_name f.signed f.width (whole_length f)) f is (hls_is f.signed f.width f.frac);
  vhdl = λ f is. named Vhdl (shown.vhdl_name f.signed (whole_length f) f.frac) f is (vhdl_is f.signed f.width f.frac);
  matlab = λ f is. named Fi (shown.matlab_name f.signed f.width f.frac) f is (matlab_is f.signed f.width f.frac);
}
