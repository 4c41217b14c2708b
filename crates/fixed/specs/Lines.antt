-- The meaning of the operands and options of the other commands.
use Rattle.std.specs.Prelude.{◌≡◌, ◌≢◌, ◌==◌, ◌&&◌, ◌||◌, ◌⊎◌, ◌+◌, ◌<◌, ◌≤◌, ℕ, Bool, true, false, not, slice_index}
use Rattle.std.specs.Prelude.{List, [], ◌∷◌, None, Option, Some, codes, decimal, if◌then◌else◌, is_some, length}
use Rattle.std.specs.Prelude.{unwrap_or}
use Rattle.std.specs.Char.{is_ascii_digit}
use Rattle.std.specs.List.{list_all}
use Rattle.std.specs.Str.{bytes_eq}
use Rattle.command_line.specs.Words.{has_flag, keyword_at, value_of}
use Rattle.command_line.specs.declared.given.Given.{Given}
use Rattle.fixed_bits.specs.Formats.{FormatParts, IsFormat}
use Rattle.fixed_command.specs.Layout.{LineLayout}
use Rattle.fixed_fields.specs.Names.{field_text}
use Rattle.fixed_names.specs.Names.{IsName}
use Rattle.fixed_names.specs.Shapes.{is_like_tool_name}
use Rattle.fixed_numeral.specs.declared.radix.Radix.{Radix}
use Rattle.fixed_numeral.specs.declared.radix.Radix.TheVariants.{Dec}
use Rattle.fixed_respell.specs.Words.{radix_text}
use Rattle.line_engine.specs.Memory.{next_count}
use Rattle.fixed_show.specs.declared.parts.Part.{Part}

-- the format that a required operand names
abbrev pub IsFormatAsked : Option (List ℕ) → FormatParts → Type 0
IsFormatAsked None format = ⊥
IsFormatAsked (Some word) format = IsName word format

-- whether the byte is a letter, given by its capital, in either case
abbrev pub is_letter : ℕ → ℕ → Bool
is_letter capital byte = byte == capital || byte == capital + 32

-- whether the byte is a digit or one of two others
abbrev pub is_count : ℕ → ℕ → ℕ → Bool
is_count one other byte = (is_ascii_digit byte || byte == one) || byte == other

-- whether every byte is such a one, and there is at least one
abbrev pub are_counts : ℕ → ℕ → List ℕ → Bool
are_counts one other bytes = not (length bytes == 0) && list_all (is_count one other) bytes

-- the bytes after a minus, if they begin with one
abbrev pub after_minus : List ℕ → List ℕ
after_minus [] = []
after_minus (byte ∷ bytes) = if byte == 45 then bytes else byte ∷ bytes

-- whether the bytes after a first one may follow it in a format: those of ARM's notation after Q, or digits and F after
-- I or U, with an optional minus
abbrev pub is_like_after : ℕ → List ℕ → Bool
is_like_after first rest = if is_letter 81 first then are_counts 46 46 rest
    else ((is_letter 73 first || is_letter 85 first) && are_counts 70 102 (after_minus rest))

-- whether a word has the shape of a format, by counts or in ARM's notation
abbrev pub is_like_counts : List ℕ → Bool
is_like_counts [] = false
is_like_counts (first ∷ []) = false
is_like_counts (first ∷ second ∷ rest) = if is_letter 85 first && is_letter 81 second
    then are_counts 46 46 rest else is_like_after first (second ∷ rest)

-- whether a word has the shape of a format, also of one of another tool, and so is not a file
abbrev pub is_like_format : List ℕ → Bool
is_like_format word = is_like_counts word || is_like_tool_name word

-- the target, and the index of the first file: the target is the operand if it has the shape of a format, else the
-- source
abbrev pub IsTargetBy : Bool → List ℕ → FormatParts → ℕ → FormatParts → ℕ → Type 0
IsTargetBy true word source place target files = IsName word target × (files ≡ next_count place)
IsTargetBy false word source place target files = (target ≡ source) × (files ≡ place)

abbrev pub IsTargetAsked : Option (List ℕ) → FormatParts → ℕ → FormatParts → ℕ → Type 0
IsTargetAsked None source place target files = (target ≡ source) × (files ≡ place)
IsTargetAsked (Some word) source place target files = IsTargetBy (is_like_format word) word source place target files

-- the lowest bit of a field as wide as the format
abbrev pub IsFieldAsked : FormatParts → Option (List ℕ) → Option ℕ → Type 0
IsFieldAsked format None low = low ≡ None
IsFieldAsked format (Some word) None = ⊥
IsFieldAsked format (Some word) (Some low) = (low + format.width ≤ 64) × (word ≡ field_text format.width low)

-- the part of a word, if one of the two options is given
abbrev pub IsPartBy : FormatParts → Option (List ℕ) → Bool → Option Part → Type 0
IsPartBy format field swap None = (field ≡ None) × (swap ≡ false)
IsPartBy format field swap (Some part) = ((is_some field || swap) ≡ true) × IsFieldAsked format field part.low
    × (part.is_reversed ≡ swap)

abbrev pub IsPartAsked : FormatParts → Given → Option Part → Type 0
IsPartAsked format given = IsPartBy format (value_of given (codes "field")) (has_flag given (codes "swap"))

-- the start of a comment: 1 to 64 bytes that do not start with a blank
pub record IsCommentWord (word : List ℕ) : Type 0 where
  pub some : 0 < length word
  pub most : length word ≤ 64
  pub no_blank : (slice_index word 0 ≢ 32) × (slice_index word 0 ≢ 9)

abbrev pub IsCommentAsked : Option (List ℕ) → List ℕ → Type 0
IsCommentAsked None prefix = prefix ≡ []
IsCommentAsked (Some word) prefix = (prefix ≡ word) × IsCommentWord word

-- what a line may have besides its numeral
pub record IsLayoutAsked (given : Given) (layout : LineLayout) : Type 0 where
  pub trimmed : layout.is_trimmed ≡ has_flag given (codes "trim")
  pub blank : layout.skips_blank ≡ has_flag given (codes "skip-blank")
  pub comments : IsCommentAsked (value_of given (codes "comments")) layout.comments

-- whether one of the options of a layout is given
abbrev pub has_layout : Given → Bool
has_layout given = (has_flag given (codes "trim") || has_flag given (codes "skip-blank"))
    || is_some (value_of given (codes "comments"))

-- the layout, if one of them is given
abbrev pub IsLayoutIfAsked : Given → Option LineLayout → Type 0
IsLayoutIfAsked given None = has_layout given ≡ false
IsLayoutIfAsked given (Some layout) = (has_layout given ≡ true) × IsLayoutAsked given layout

-- the formats of a width from 1 to 64 and a sign rule, represented by the one without fraction bits
pub record IsKindWord (signed : Bool) (word : List ℕ) (kind : FormatParts) : Type 0 where
  pub valid : IsFormat kind.width 0
  pub text : word ≡ decimal kind.width
  pub sign : kind.signed ≡ signed
  pub no_fraction : kind.frac ≡ 0

-- the given width or, without one, 64 bits if an error is given
abbrev pub IsKindAsked : Bool → Bool → Option (List ℕ) → FormatParts → Type 0
IsKindAsked signed bounded (Some word) kind = IsKindWord signed word kind
IsKindAsked signed true None kind = IsKindWord signed (codes "64") kind
IsKindAsked signed false None kind = ⊥

-- the radix of `fixed least`, and the index of the first file: a first operand that names a radix is not a file
abbrev pub IsLeastRadix : Option (List ℕ) → Radix → ℕ → Type 0
IsLeastRadix None radix files = (radix ≡ Dec) × (files ≡ 0)
IsLeastRadix (Some word) radix files = ((word ≡ radix_text radix) × (files ≡ 1))
    ⊎ (((other : Radix) → ¬ (word ≡ radix_text other)) × (radix ≡ Dec) × (files ≡ 0))

-- whether the operand is the keyword of a limit
abbrev pub is_limit_word : Option (List ℕ) → Bool
is_limit_word None = false
is_limit_word (Some word) = bytes_eq word (codes "limit")

-- the number of the limit of `fixed sort`, and the index of the first file: the operand after the keyword, which
-- excludes the option; else the option's value
abbrev pub IsLimitBy : Bool → Option (List ℕ) → Option (List ℕ) → List ℕ → ℕ → Type 0
IsLimitBy true option next word files = (option ≡ None) × (next ≡ Some word) × (files ≡ 2)
IsLimitBy false option next word files = (word ≡ unwrap_or option (codes "1048576")) × (files ≡ 0)

abbrev pub IsSortLimitAsked : Given → List ℕ → ℕ → Type 0
IsSortLimitAsked given = IsLimitBy (is_limit_word (keyword_at given 0)) (value_of given (codes "limit"))
    (keyword_at given 1)
