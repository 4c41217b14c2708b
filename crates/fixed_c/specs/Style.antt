-- The result of a call that prints bits in a style.
use Rattle.std.specs.Prelude.{◌≡◌, ◌<◌, ◌-◌, ◌^◌, ◌==◌, if◌then◌else◌, ℕ, ℤ, List}
use Rattle.std.specs.Prelude.{Bool, true, false, Option, Some, None}
use Rattle.std.specs.Char.{IsScalar}
use Rattle.fixed_bits.specs.Formats.{FormatParts}
use Rattle.fixed_write.specs.Styled.{IsStyledText}
use Rattle.fixed_write.specs.declared.style.Align.{Align}
use Rattle.fixed_write.specs.declared.style.Align.TheVariants.{Left, Center, Right}
use Rattle.fixed_write.specs.declared.style.Notation.{Notation}
use Rattle.fixed_write.specs.declared.style.Notation.TheVariants.{Dec, LowerExp, UpperExp, Bin, Oct, LowerHex, UpperHex}
use Rattle.fixed_write.specs.declared.style.Style.{Style}
use Rattle.fixed_c.specs.Arguments.{NamesFormat}
use Rattle.fixed_c.specs.Numbers.{AreBits, AreBitsOf}
use Rattle.fixed_c.specs.Outcome.{Never, Unless}
use Rattle.fixed_c.specs.declared.refusal.Refusal.{Refusal}
use Rattle.fixed_c.specs.declared.refusal.Refusal.TheVariants.{BadFormat, BadBits, BadPlaces, BadNotation}
use Rattle.fixed_c.specs.declared.refusal.Refusal.TheVariants.{BadWidth, BadFill, BadAlign}
use Rattle.fixed_c.specs.declared.style.FixedStyle.{FixedStyle}

-- ---- the meaning of the numbers of a style
abbrev pub notation_code : Notation → ℕ
notation_code Dec = 0
notation_code LowerExp = 1
notation_code UpperExp = 2
notation_code Bin = 3
notation_code Oct = 4
notation_code LowerHex = 5
notation_code UpperHex = 6

abbrev pub align_code : Align → ℕ
align_code Left = 0
align_code Center = 1
align_code Right = 2

abbrev pub NamesNotation : ℕ → Type 0
NamesNotation code = (n : Notation) × (code ≡ notation_code n)

abbrev pub NamesAlign : ℕ → Type 0
NamesAlign code = (a : Align) × (code ≡ align_code a)

-- 2^32 - 1 requests as many places as the number needs
abbrev pub IsPrecision : ℕ → Option ℕ → Type 0
IsPrecision code None = code ≡ 2 ^ 32 - 1
IsPrecision code (Some places) = (code ≡ places) × (places < 2 ^ 16)

abbrev pub NamesPrecision : ℕ → Type 0
NamesPrecision code = (precision : Option ℕ) × IsPrecision code precision

-- a flag is set if it is not 0
abbrev pub is_set : ℕ → Bool
is_set flag = if flag == 0 then false else true

-- the character that fills a field; 0 means a blank
abbrev pub fill_at : ℕ → ℕ
fill_at code = if code == 0 then 32 else code

-- the numbers are those of the style
pub record NamesStyle (given : FixedStyle) (style : Style) : Type 0 where
  pub notation_is : given.notation ≡ notation_code style.notation
  pub precision_is : IsPrecision given.precision style.precision
  pub width_is : given.width ≡ style.width
  pub narrow : given.width < 2 ^ 16
  pub fill_is : fill_at given.fill ≡ style.fill
  pub scalar : IsScalar given.fill
  pub align_is : given.align ≡ align_code style.align
  pub plus_is : style.plus ≡ is_set given.plus
  pub prefix_is : style.prefix ≡ is_set given.prefix
  pub zero_pad_is : style.zero_pad ≡ is_set given.zero_pad

-- the refusal of a style
abbrev pub StyleIsRefused : FixedStyle → Refusal → Type 0
StyleIsRefused given =
    Unless (NamesPrecision given.precision) BadPlaces
    (Unless (NamesNotation given.notation) BadNotation
    (Unless (given.width < 2 ^ 16) BadWidth
    (Unless (IsScalar given.fill) BadFill
    (Unless (NamesAlign given.align) BadAlign Never))))

-- ---- the call
-- the format is valid, and the text gives the bits in the style
pub record IsPrintedIn (f : FormatParts) (bits : ℤ) (given : FixedStyle) (text : List ℕ) : Type 0 where
  pub format : NamesFormat f
  pub number : ℤ
  pub bits_are : AreBitsOf f bits number
  pub style : Style
  pub style_is : NamesStyle given style
  pub styled : IsStyledText style number f.frac text

-- the refusal of a call with these arguments
abbrev pub StyledIsRefused : FormatParts → ℤ → FixedStyle → Refusal → Type 0
StyledIsRefused f bits given = Unless (NamesFormat f) BadFormat (Unless (AreBits f bits) BadBits (StyleIsRefused given))
