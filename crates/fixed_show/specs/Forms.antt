-- How facts about a number are written: in lines for people, or as members of an object of JSON.
use Rattle.std.specs.Prelude.{ℕ, List, [], ◌∷◌, ◌++◌, ◌-◌, length, take, codes}
use Rattle.fixed_show.specs.Blocks.{line}
use Rattle.fixed_show.specs.declared.form.Form.{Form}
use Rattle.fixed_show.specs.declared.form.Form.TheVariants.{Lines, Members}

-- the text before a fact: its key in ten columns, or a comma and the key of a member
unfoldable pub label : Form → List ℕ → List ℕ
label Lines key = key ++ take (10 - length key) (codes "          ")
label Members key = codes ",\"" ++ (key ++ codes "\":\"")

-- the byte after a fact: a newline, or a quote
abbrev pub end_byte : Form → ℕ
end_byte Lines = 10
end_byte Members = 34

-- a fact: its key and its text
unfoldable pub fact : Form → List ℕ → List ℕ → List ℕ
fact form key text = label form key ++ (text ++ end_byte form ∷ [])

-- the report of a refusal: a line, or a member
abbrev pub refusal : Form → List ℕ → List ℕ
refusal Lines message = line (codes "error: ") message
refusal Members message = fact Members (codes "refused") message
