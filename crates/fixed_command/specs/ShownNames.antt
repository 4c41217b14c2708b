-- The names of a format in other tools, as shown.
use Rattle.fixed_bits.specs.Formats.{FormatParts, IsFormat, whole_length}
use Rattle.fixed_names.specs.Names.{IsName}
use Rattle.fixed_show.specs.ToolNames.{hls_name, matlab_name, vhdl_name}

-- each is a name of that format; so is ARM's, by a law of `fixed_show`
pub record ShownNamesAreNames : Type 0 where
  pub hls : (f : FormatParts) → IsFormat f.width f.frac → IsName (hls_name f.signed f.width (whole_length f)) f
  pub vhdl : (f : FormatParts) → IsFormat f.width f.frac → IsName (vhdl_name f.signed (whole_length f) f.frac) f
  pub matlab : (f : FormatParts) → IsFormat f.width f.frac → IsName (matlab_name f.signed f.width f.frac) f
