-- What `clap` found, as a command looks it up.
use Rattle.std.specs.Prelude.{◌≡◌, ◌++◌, [], ℕ, Bool, List, None, Option, Some, codes, false, flat_map}
use Rattle.std.specs.Prelude.{if◌then◌else◌, length, map, nat_lt, option_map, slice_get, unwrap_or}
use Rattle.std.specs.Str.{bytes_eq}
use Rattle.clap.specs.Words.{first_value, found_of, matched_of, one_text, raw_values}
use Rattle.clap.specs.declared.parser.matches.ArgMatches.{ArgMatches}
use Rattle.command_line.specs.declared.given.Given.{Given}
use Rattle.command_line.specs.declared.page.Operand.{Operand}

-- the value of the option of this name
abbrev pub value_of : Given → List ℕ → Option (List ℕ)
value_of given name = first_value (found_of given.matches.now) name

-- whether there is a text and it is `true`
abbrev pub is_true_text : Option (List ℕ) → Bool
is_true_text None = false
is_true_text (Some text) = bytes_eq text (codes "true")

-- whether the option of this name, which takes no value, is given
abbrev pub has_flag : Given → List ℕ → Bool
has_flag given name = is_true_text (one_text (found_of given.matches.now) name)

-- the operand at this index
abbrev pub word_at : Given → ℕ → Option (List ℕ)
word_at given place = option_map (λ s. s.now) (slice_get given.words.items place)

-- the operand at this index if it may be a keyword: it comes before `--`
abbrev pub keyword_at : Given → ℕ → Option (List ℕ)
keyword_at given place = if nat_lt place given.open then word_at given place else None

-- the operands that `clap` found under this name
abbrev pub found_at : ArgMatches → List ℕ → List (List ℕ)
found_at matches name = unwrap_or (option_map raw_values (matched_of (found_of matches) name)) []

-- all values of the option of this name, in order, if it is given
abbrev pub values_if : Given → List ℕ → Option (List (List ℕ))
values_if given name = option_map raw_values (matched_of (found_of given.matches.now) name)

abbrev pub values_of : Given → List ℕ → List (List ℕ)
values_of given name = unwrap_or (values_if given name) []

-- the operands found under some names, one after another
abbrev pub found_words : ArgMatches → List Operand → List (List ℕ)
found_words matches places = flat_map (λ place. found_at matches place.name.now) places

-- a command is given what `clap` found: the options, the operands under its names, which may be keywords, and then
-- those after `--`
pub record IsGiven (matches : ArgMatches) (places : List Operand) (after : List (List ℕ)) (given : Given) : Type 0 where
  pub options : given.matches.now ≡ matches
  pub words : map (λ s. s.now) given.words.items ≡ found_words matches places ++ after
  pub keywords : given.open ≡ length (found_words matches places)
