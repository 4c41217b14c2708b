-- Literals: numerals with a sign, a prefix and underscores.
use Rattle.std.specs.Prelude.{◌≡◌, ℕ, ◌≤◌, ◌==◌, if◌then◌else◌, Bool, false, ◌&&◌, List, [], ◌∷◌, ◌++◌, length, take}
use Rattle.std.specs.Prelude.{drop, slice_get, Option, Some, None}
use Rattle.fixed_numeral.specs.declared.radix.Radix.{Radix}
use Rattle.fixed_numeral.specs.declared.radix.Radix.TheVariants.{Bin, Oct, Dec, Hex}
use Rattle.fixed_numeral.specs.declared.error.ParseErrorKind.{ParseErrorKind}
use Rattle.fixed_numeral.specs.declared.error.ParseErrorKind.TheVariants.{MisplacedUnderscore}
use Rattle.fixed_numeral.specs.Numeral.{Parts, Exponent, HasParts, HasNumeral, is_sign, minus}
use Rattle.fixed_numeral.specs.Cause.{is_nil, kind_of}

-- '_'
abbrev pub underscore : ℕ
underscore = 95

-- the bytes without underscores
abbrev pub without_underscores : List ℕ → List ℕ
without_underscores [] = []
without_underscores (b ∷ bs) = if b == underscore then without_underscores bs else b ∷ without_underscores bs

-- the first byte is a sign
abbrev pub begins_signed : List ℕ → Bool
begins_signed [] = false
begins_signed (b ∷ bs) = is_sign b

-- the digits of the last part
abbrev pub part_of : List ℕ → Option (List ℕ) → Option Exponent → List ℕ
part_of w f (Some e) = e.digits
part_of w (Some ds) None = ds
part_of w None None = w

abbrev pub last_part : Parts → List ℕ
last_part p = part_of p.whole p.fraction p.exponent

-- bs is a literal beginning, with these parts
pub record HasLiteralParts (r : Radix) (bs : List ℕ) (p : Parts) : Type 0 where
  pub beginning : HasParts r (without_underscores bs) p
  pub unsigned : begins_signed (without_underscores bs) ≡ false
  pub underscores : (xs ys : List ℕ) → bs ≡ xs ++ underscore ∷ ys → (q : Parts) → HasParts r (without_underscores xs) q
      → is_nil (last_part q) ≡ false

abbrev pub IsLiteralBeginning : Radix → List ℕ → Type 0
IsLiteralBeginning r bs = (p : Parts) × HasLiteralParts r bs p

-- the first n bytes are the longest prefix of bs that is a literal beginning, and p are its parts
pub record IsLongestLiteral (r : Radix) (bs : List ℕ) (n : ℕ) (p : Parts) : Type 0 where
  pub within : n ≤ length bs
  pub beginning : HasLiteralParts r (take n bs) p
  pub longest : (m : ℕ) → m ≤ length bs → IsLiteralBeginning r (take m bs) → m ≤ n

-- the kind for a longest beginning and the byte after it, if any
abbrev pub literal_kind : Radix → Parts → Option ℕ → ParseErrorKind
literal_kind r p (Some b) = if b == underscore then MisplacedUnderscore else kind_of r p (Some b)
literal_kind r p None = kind_of r p None

-- bs is a literal's rest, with these parts
pub record HasRest (r : Radix) (bs : List ℕ) (p : Parts) : Type 0 where
  pub literal : HasLiteralParts r bs p
  pub numeral : HasNumeral r (without_underscores bs) p

-- bs is not a literal's rest, and kind says why
pub record HasRestCause (r : Radix) (bs : List ℕ) (kind : ParseErrorKind) : Type 0 where
  pub none : (p : Parts) → HasRest r bs p → ⊥
  pub count : ℕ
  pub parts : Parts
  pub prefix : IsLongestLiteral r bs count parts
  pub is_kind : kind ≡ literal_kind r parts (slice_get bs count)

-- the leading sign: one '-', if the type is signed
abbrev pub sign_of : Bool → List ℕ → Option ℕ
sign_of of_signed [] = None
sign_of of_signed (b ∷ bs) = if of_signed && (b == minus) then Some minus else None

-- the bytes after that sign
abbrev pub after_sign : Bool → List ℕ → List ℕ
after_sign of_signed [] = []
after_sign of_signed (b ∷ bs) = if of_signed && (b == minus) then bs else b ∷ bs

-- 'b', 'o' and 'x' name a radix
abbrev pub radix_named : ℕ → Option Radix
radix_named b = if b == 98 then Some Bin else (if b == 111 then Some Oct else (if b == 120 then Some Hex else None))

-- the radix that a prefix names, which is '0' and a letter
abbrev pub prefix_of : List ℕ → Option Radix
prefix_of [] = None
prefix_of (a ∷ []) = None
prefix_of (a ∷ b ∷ bs) = if a == 48 then radix_named b else None

-- the bytes without leading underscores
abbrev pub after_underscores : List ℕ → List ℕ
after_underscores [] = []
after_underscores (b ∷ bs) = if b == underscore then after_underscores bs else b ∷ bs

-- the radix is 10 without a prefix
abbrev pub radix_by : Option Radix → Radix
radix_by None = Dec
radix_by (Some r) = r

-- the bytes after a prefix and its underscores
abbrev pub rest_by : Option Radix → List ℕ → List ℕ
rest_by None bs = bs
rest_by (Some r) bs = after_underscores (drop 2 bs)

abbrev pub literal_radix : Bool → List ℕ → Radix
literal_radix of_signed bs = radix_by (prefix_of (after_sign of_signed bs))

abbrev pub literal_rest : Bool → List ℕ → List ℕ
literal_rest of_signed bs = rest_by (prefix_of (after_sign of_signed bs)) (after_sign of_signed bs)

-- bs is a literal, with these parts: those of its rest, and its leading sign
pub record HasLiteral (of_signed : Bool) (bs : List ℕ) (p : Parts) : Type 0 where
  pub sign : p.sign ≡ sign_of of_signed bs
  pub rest : HasRest (literal_radix of_signed bs) (literal_rest of_signed bs) (record p { sign = None })

abbrev pub IsLiteral : Bool → List ℕ → Type 0
IsLiteral of_signed bs = (p : Parts) × HasLiteral of_signed bs p

-- bs is not a literal, and kind says why
abbrev pub HasLiteralCause : Bool → List ℕ → ParseErrorKind → Type 0
HasLiteralCause of_signed bs kind = HasRestCause (literal_radix of_signed bs) (literal_rest of_signed bs) kind
