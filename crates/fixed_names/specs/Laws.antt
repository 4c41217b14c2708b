-- Laws of the names of formats.
use Rattle.std.specs.Prelude.{◌≡◌, ℕ, List}
use Rattle.fixed_bits.specs.Formats.{FormatParts, IsFormat}
use Rattle.fixed_names.specs.Names.{IsName}
use Rattle.fixed_names.specs.ToolNames.{IsToolName, tool_text}
use Rattle.fixed_names.specs.declared.tool_names.ToolForm.{ToolForm}
use Rattle.fixed_respell.specs.Words.{format_text}

-- a word names at most one format as other tools do
abbrev pub ToolNameIsTheOne : Type 0
ToolNameIsTheOne = (word : List ℕ) (f g : FormatParts) → IsToolName word f → IsToolName word g → f ≡ g

-- a word names at most one format
abbrev pub NameIsTheOne : Type 0
NameIsTheOne = (word : List ℕ) (f g : FormatParts) → IsName word f → IsName word g → f ≡ g

-- the name of a format in each form names it
abbrev pub ToolTextIsAName : Type 0
ToolTextIsAName = (form : ToolForm) (f : FormatParts) → IsFormat f.width f.frac → IsName (tool_text form f) f

-- so does its own name, such as `I16F16`
abbrev pub FormatTextIsAName : Type 0
FormatTextIsAName = (f : FormatParts) → IsFormat f.width f.frac → IsName (format_text f) f
