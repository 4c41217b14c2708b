-- All names of formats.
use Rattle.std.specs.Prelude.{◌⊎◌, ℕ, List}
use Rattle.fixed_bits.specs.Formats.{FormatParts}
use Rattle.fixed_names.specs.ToolNames.{IsToolName}
use Rattle.fixed_respell.specs.FormatNames.{IsFormatName}

-- the word names the format, by counts of its bits, in ARM's notation or as another tool does
abbrev pub IsName : List ℕ → FormatParts → Type 0
IsName word f = IsFormatName word f ⊎ IsToolName word f
