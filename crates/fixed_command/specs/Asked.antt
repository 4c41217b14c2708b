-- What the values of options name.
use Rattle.std.specs.Prelude.{◌≡◌, ℕ, List, codes}
use Rattle.std.specs.declared.option.Option.{Option}
use Rattle.std.specs.declared.option.Option.TheVariants.{None, Some}
use Rattle.fixed_command.specs.declared.print.Print.{Print}
use Rattle.fixed_command.specs.declared.print.Print.TheVariants.{All, Bits, Hex, Places, Readmemh, Text, Value}
use Rattle.fixed_command.specs.declared.spelling.Spelling.{Spelling}
use Rattle.fixed_command.specs.declared.spelling.Spelling.TheVariants.{Numeral, Word}

-- a word names a part of an answer; a count of places has no word
abbrev pub IsPrintWord : List ℕ → Print → Type 0
IsPrintWord word Text = word ≡ codes "text"
IsPrintWord word (Places count mode) = ⊥
IsPrintWord word Bits = word ≡ codes "bits"
IsPrintWord word Hex = word ≡ codes "hex"
IsPrintWord word Readmemh = word ≡ codes "readmemh"
IsPrintWord word Value = word ≡ codes "value"
IsPrintWord word All = word ≡ codes "all"

-- a value names a part; the part is the text if the option is left out
abbrev pub IsPrintNamed : Option (List ℕ) → Print → Type 0
IsPrintNamed None print = print ≡ Text
IsPrintNamed (Some word) print = IsPrintWord word print

-- the word for how a line spells a number
abbrev pub spelling_text : Spelling → List ℕ
spelling_text Numeral = codes "text"
spelling_text Word = codes "bits"

-- a value names the element with this word; if the option is left out, the element is `plain`
abbrev pub IsNamed : (A : Type 0) → (A → List ℕ) → A → Option (List ℕ) → A → Type 0
IsNamed A text plain None a = a ≡ plain
IsNamed A text plain (Some word) a = word ≡ text a
