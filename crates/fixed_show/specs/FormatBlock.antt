-- The facts about a format.
use Rattle.std.specs.Prelude.{◌≡◌, ℕ, ◌+◌, ◌-◌, ◌*◌, ◌^◌, ◌<◌, ◌≤◌, List, ◌++◌, ℤ, pos, ◌≤ℤ◌, ◌<ℤ◌, false, codes}
use Rattle.std.specs.Fmt.{signed_decimal}
use Rattle.fixed_bits.specs.Formats.{FormatParts}
use Rattle.fixed_bits.specs.Ranges.{lowest, greatest}
use Rattle.fixed_respell.specs.Words.{format_text}
use Rattle.fixed_write.specs.Places.{IsExactText}
use Rattle.fixed_write.specs.Shortest.{ReadsBack, IsShortest}
use Rattle.fixed_write.specs.Texts.{IsShortestText}
use Rattle.fixed_show.specs.Blocks.{line}
use Rattle.fixed_show.specs.Forms.{fact}
use Rattle.fixed_show.specs.JsonText.{object_text}
use Rattle.fixed_show.specs.ToolNames.{name_facts}
use Rattle.fixed_show.specs.declared.form.Form.{Form}
use Rattle.fixed_show.specs.declared.form.Form.TheVariants.{Lines, Members}

-- `k` is the greatest count of digits after the point for which decimals are at least an ulp of 2^-f apart
pub record ArePlaces (f k : ℕ) : Type 0 where
  pub apart : 10 ^ k ≤ 2 ^ f
  pub greatest : 2 ^ f < 10 ^ (k + 1)

-- `w` is the greatest count of digits for which every whole number is in a range up to `top` ulps of 2^-f
pub record AreWholeDigits (top : ℤ) (f w : ℕ) : Type 0 where
  pub within : pos ((10 ^ w - 1) * 2 ^ f) ≤ℤ top
  pub greatest : top <ℤ pos ((10 ^ (w + 1) - 1) * 2 ^ f)

-- a decimal with at most `k` digits after the point survives reading and printing: the shortest decimal of what it
-- reads as is the same number
abbrev pub Survives : ℕ → ℕ → Type 0
Survives f k = (n c m j : ℕ) → ReadsBack n k c f → IsShortest c f m j → m * 10 ^ k ≡ n * 10 ^ j

-- every decimal with at most that many digits survives
abbrev pub PlacesSurvive : Type 0
PlacesSurvive = (f k : ℕ) → ArePlaces f k → Survives f k

-- how many digits survive before the point and after it
abbrev pub digits_text : ℕ → ℕ → List ℕ
digits_text whole places = signed_decimal (pos whole) ++ (codes " before the point, "
    ++ (signed_decimal (pos places) ++ codes " after it"))

-- the facts with these counts
abbrev pub digits_facts : Form → ℕ → ℕ → List ℕ
digits_facts Lines whole places = line (codes "digits    ") (digits_text whole places)
digits_facts Members whole places = fact Members (codes "whole") (signed_decimal (pos whole))
    ++ fact Members (codes "places") (signed_decimal (pos places))

-- the facts with the shortest texts of both ends
abbrev pub ends_facts : Form → List ℕ → List ℕ → List ℕ
ends_facts Lines low high = line (codes "shortest  ") (low ++ (codes " to " ++ high))
ends_facts Members low high = fact Members (codes "low") low ++ fact Members (codes "high") high

-- the facts are the word, the ends and the ulp of a format, how many digits survive, the shortest texts of the ends,
-- and the names in other tools
pub record AreFormatFacts (form : Form) (f : FormatParts) (facts : List ℕ) : Type 0 where
  pub word : List ℕ
  pub is_word : word ≡ format_text f
  pub least : List ℕ
  pub is_least : IsExactText 10 false (lowest f.signed f.width) f.frac least
  pub most : List ℕ
  pub is_most : IsExactText 10 false (greatest f.signed f.width) f.frac most
  pub ulp : List ℕ
  pub is_ulp : IsExactText 10 false (pos 1) f.frac ulp
  pub whole : ℕ
  pub are_whole : AreWholeDigits (greatest f.signed f.width) f.frac whole
  pub places : ℕ
  pub are_places : ArePlaces f.frac places
  pub short_least : List ℕ
  pub is_short_least : IsShortestText (lowest f.signed f.width) f.frac short_least
  pub short_most : List ℕ
  pub is_short_most : IsShortestText (greatest f.signed f.width) f.frac short_most
  pub facts_are : facts ≡ fact form (codes "format") word
      ++ (fact form (codes "least") least
      ++ (fact form (codes "greatest") most
      ++ (fact form (codes "ulp") ulp
      ++ (digits_facts form whole places
      ++ (ends_facts form short_least short_most
      ++ name_facts form f)))))

-- the block has these facts in lines
abbrev pub IsFormatBlock : FormatParts → List ℕ → Type 0
IsFormatBlock f block = AreFormatFacts Lines f block

-- the object has these facts of the format that the word was given for, as an object of JSON
pub record IsFormatObject (word : List ℕ) (f : FormatParts) (object : List ℕ) : Type 0 where
  pub members : List ℕ
  pub are_facts : AreFormatFacts Members f members
  pub object_is : object ≡ object_text word members

-- a format has one block
abbrev pub FormatBlockIsTheOne : Type 0
FormatBlockIsTheOne = (f : FormatParts) (a b : List ℕ) → IsFormatBlock f a → IsFormatBlock f b → a ≡ b

-- a word for a format has one object
abbrev pub FormatObjectIsTheOne : Type 0
FormatObjectIsTheOne = (word : List ℕ) (f : FormatParts) (a b : List ℕ) → IsFormatObject word f a
    → IsFormatObject word f b → a ≡ b
