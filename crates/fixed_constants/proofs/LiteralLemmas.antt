-- A literal in canonical form is the styled text of its value and reads back as the same bits.
use Rattle.std.proofs.Common.{◌≡◌, ℕ, zero, suc, ◌+◌, ◌-◌, ◌≤◌, ◌==◌, Bool, true, false, eqb, IsTrue, Option, Some, None, IfSome, List, [], ◌∷◌, ◌++◌, length, map, All, ℤ, pos, negsuc, neg_ℤ, unsigned_abs, refl, sym, ap, ◌∙◌, subst, arith, append-nil, append_assoc, if◌then◌else◌}
use Rattle.std.specs.Fmt.{digit_glyph, sign_text}
use Rattle.std.specs.Int.{is_negative}
use Rattle.std.specs.Int.Digits.{digits_of}
use Rattle.std.proofs.lemmas.Int.{ints}
use Rattle.std.proofs.lemmas.Bool.{false≢true}
use Rattle.std.proofs.lemmas.Bool.Decides.{nat_tests}
use Rattle.std.proofs.lemmas.List.Elements.{All-append, All-cons, All-head, All-map, All-nil, All-push, All-same, All-tail}
use Rattle.fixed_bits.specs.Formats.{FormatParts}
use Rattle.fixed_bits.specs.Ranges.{IsInRange}
use Rattle.fixed_bits.specs.declared.mode.ReadMode.TheVariants.{NearestEven}
use Rattle.fixed_numeral.specs.Literal.{HasLiteral, HasRest, after_underscores, begins_signed, literal_radix, underscore, without_underscores}
use Rattle.fixed_numeral.specs.Numeral.{HasNumeral, HasParts, Parts, is_sign, text_of}
use Rattle.fixed_numeral.specs.declared.radix.Radix.TheVariants.{Hex}
use Rattle.fixed_read.specs.Reading.{IsReadNumber}
use Rattle.fixed_write.specs.declared.style.Notation.TheVariants.{LowerHex}
use Rattle.fixed_write.specs.Places.{exact_text}
use Rattle.fixed_write.specs.Styled.{IsPointBody, IsStyledText, padded_text, sign_and_prefix}
use Rattle.fixed_write.specs.Texts.{fraction_part, last_digits, point_text, whole_digits}
use Rattle.fixed_write.proofs.Public.{exact_text_is}
use Rattle.fixed_laws.specs.Laws.{ExactTextReadsBack}
use Rattle.fixed_constants.specs.Canonical.{hex_prefix, literal_text}
use Rattle.fixed_constants.specs.Constants.{IsLiteralOf}
use Rattle.fixed_constants.specs.Laws.{literal_style}

-- ---- bytes of digits and points
abbrev pub IsShownByte : ℕ → Type 0
IsShownByte b = (46 ≤ b) × (b ≡ 95 → ⊥)

glyph_shown : (d : ℕ) → IsShownByte (digit_glyph false d)
glyph_shown d = (grind arith, λ e. grind arith)

chosen : (b : Bool) (xs ys : List ℕ) → All IsShownByte xs → All IsShownByte ys → All IsShownByte (if b then xs else ys)
chosen true xs ys x y = x
chosen false xs ys x y = y

one_shown : (b : ℕ) → IsShownByte b → All IsShownByte (b ∷ [])
one_shown b is = All-cons IsShownByte b [] is (All-nil IsShownByte)

zero_shown : IsShownByte 48
zero_shown = (omega arith, λ e. omega (arith, e))

whole_shown : (n : ℕ) → All IsShownByte (whole_digits 16 false n)
unfolding whole_digits
whole_shown n = chosen (n == 0) (48 ∷ []) (map (digit_glyph false) (digits_of 16 n)) (one_shown 48 zero_shown) (All-map IsShownByte (digit_glyph false) (digits_of 16 n) (λ k d h. glyph_shown _))

last_shown : (k n : ℕ) → All IsShownByte (last_digits 16 false k n)
unfolding last_digits
last_shown zero n = All-nil IsShownByte
last_shown (suc k) n = All-push IsShownByte (last_digits 16 false k _) _ (last_shown k _) (glyph_shown _)

fraction_shown : (k n : ℕ) → All IsShownByte (fraction_part 16 false k n)
unfolding fraction_part
fraction_shown zero n = All-nil IsShownByte
fraction_shown (suc k) n = All-cons IsShownByte 46 (last_digits 16 false (suc k) n) (omega arith, λ e. omega (arith, e)) (last_shown (suc k) n)

point_shown : (k n : ℕ) → All IsShownByte (point_text 16 false k n)
unfolding point_text
point_shown k n = All-append IsShownByte _ _ (whole_shown _) (fraction_shown k n)

-- ---- the body of a literal
not_negative : (m : ℕ) → is_negative (pos m) ≡ false
not_negative zero = refl
not_negative (suc m) = grind arith

pub body_is : (m g : ℕ) → IsPointBody LowerHex None m g (exact_text 16 false (pos m) g)
body_is m g =
    let e = exact_text_is 16 false (pos m) g refl in
    record {
      number = e.number;
      places = e.places;
      shown = e.exact;
      body_is = e.text_is ∙ ap (λ b. sign_text b ++ point_text 16 false e.places e.number) (not_negative m);
    }

pub body_shown : (m g : ℕ) → All IsShownByte (exact_text 16 false (pos m) g)
body_shown m g = let b = body_is m g in All-same IsShownByte (exact_text 16 false (pos m) g) (point_text 16 false b.places b.number) b.body_is (point_shown b.places b.number)

-- ---- the styled text
lead_is : (negative : Bool) → sign_and_prefix literal_style negative ≡ sign_text negative ++ hex_prefix
lead_is true = refl
lead_is false = refl

unpadded : (lead body : List ℕ) → padded_text literal_style lead body ≡ lead ++ body
unfolding padded_text
unpadded lead body =
    let none : 0 - (length lead + length body) ≡ 0 = omega arith in
    rw none (append-nil (lead ++ body))

pub styled_literal : (c : ℤ) (g : ℕ) → IsStyledText literal_style c g (literal_text c g)
unfolding literal_text
styled_literal c g =
    let body : List ℕ = exact_text 16 false (pos (unsigned_abs c)) g in
    let sign : List ℕ = sign_text (is_negative c) in
    record {
      body = body;
      is_body = body_is (unsigned_abs c) g;
      text_is = sym (unpadded (sign_and_prefix literal_style (is_negative c)) body ∙ (ap (λ t. t ++ body) (lead_is (is_negative c)) ∙ append_assoc sign hex_prefix body));
    }

-- ---- shown bytes after the prefix of a literal
byte_kept : (b : ℕ) → IsShownByte b → eqb b underscore ≡ false
byte_kept b is = by_test (eqb b underscore) refl
  where
    by_test : (t : Bool) → eqb b underscore ≡ t → eqb b underscore ≡ false
    by_test true e = absurd (is.1 (grind (arith, nat_tests, e)))
    by_test false e = e

unscored : (bs : List ℕ) → All IsShownByte bs → without_underscores bs ≡ bs
unscored [] all = refl
unscored (b ∷ bs) all =
    let kept : eqb b underscore ≡ false = byte_kept b (All-head IsShownByte b bs all) in
    rw kept (ap (λ l. b ∷ l) (unscored bs (All-tail IsShownByte b bs all)))

none_first : (bs : List ℕ) → All IsShownByte bs → after_underscores bs ≡ bs
none_first [] all = refl
none_first (b ∷ bs) all = let kept : eqb b underscore ≡ false = byte_kept b (All-head IsShownByte b bs all) in rw kept refl

never_scored : (xs ys : List ℕ) → All IsShownByte (xs ++ underscore ∷ ys) → ⊥
never_scored [] ys all = (All-head IsShownByte underscore ys all).1 refl
never_scored (x ∷ xs) ys all = never_scored xs ys (All-tail IsShownByte x (xs ++ underscore ∷ ys) all)

no_sign_byte : (b : ℕ) → IsShownByte b → is_sign b ≡ false
no_sign_byte b is = let low = is.0 in grind (arith, nat_tests)

unsigned_start : (bs : List ℕ) → All IsShownByte bs → begins_signed bs ≡ false
unsigned_start [] all = refl
unsigned_start (b ∷ bs) all = no_sign_byte b (All-head IsShownByte b bs all)

-- a numeral of shown bytes has no sign
no_sign : (bs : List ℕ) (p : Parts) → All IsShownByte bs → HasParts Hex bs p → p.sign ≡ None
no_sign bs p all has = by_sign p.sign refl
  where
    by_sign : (s : Option ℕ) → p.sign ≡ s → p.sign ≡ None
    by_sign None e = e
    by_sign (Some b) e =
        let S : Option ℕ → Type 0 = λ o. All IsShownByte (text_of (record p { sign = o })) in
        let signs : All IsShownByte (text_of (record p { sign = Some b })) = subst S e (All-same IsShownByte (text_of p) bs (sym has.text) all) in
        let other : is_sign b ≡ false = no_sign_byte b (All-head IsShownByte b (text_of (record p { sign = None })) signs) in
        let I : Option ℕ → Type 0 = λ o. IfSome o (λ y. IsTrue (is_sign y)) in
        let is : IsTrue (is_sign b) = subst I e has.parts.sign in
        absurd (false≢true (sym other ∙ is))

has_rest : (bs : List ℕ) (p : Parts) → All IsShownByte bs → HasNumeral Hex bs p → HasRest Hex bs p
has_rest bs p all has =
    let same : bs ≡ without_underscores bs = sym (unscored bs all) in
    let B : List ℕ → Type 0 = λ t. HasParts Hex t p in
    let N : List ℕ → Type 0 = λ t. HasNumeral Hex t p in
    record {
      literal = record {
        beginning = subst B same has.beginning;
        unsigned = ap begins_signed (sym same) ∙ unsigned_start bs all;
        underscores = λ xs ys e q h. absurd (never_scored xs ys (All-same IsShownByte (xs ++ underscore ∷ ys) bs (sym e) all));
      };
      numeral = subst N same has;
    }

-- ---- the literal of a magnitude, with or without a sign
record ReadsAs (s : Bool) (g : ℕ) (bytes : List ℕ) (c : ℤ) : Type 0 where
  pub parts : Parts
  pub has : HasLiteral s bytes parts
  pub read : IsReadNumber NearestEven (literal_radix s bytes) parts g c

record ReadsMagnitude (g m : ℕ) (body : List ℕ) : Type 0 where
  pub parts : Parts
  pub sign : parts.sign ≡ None
  pub rest : HasRest Hex body (record parts { sign = None })
  pub read : IsReadNumber NearestEven Hex (record parts { sign = None }) g (pos m)

magnitude_reads : ExactTextReadsBack → (m g : ℕ) → ReadsMagnitude g m (exact_text 16 false (pos m) g)
magnitude_reads reads m g =
    let body : List ℕ = exact_text 16 false (pos m) g in
    let (p, has, read) = reads Hex false (pos m) g body (exact_text_is 16 false (pos m) g refl) in
    let all : All IsShownByte body = body_shown m g in
    let none : p.sign ≡ None = no_sign body p all has.beginning in
    let R : Option ℕ → Type 0 = λ o. HasRest Hex body (record p { sign = o }) in
    let V : Option ℕ → Type 0 = λ o. IsReadNumber NearestEven Hex (record p { sign = o }) g (pos m) in
    record { parts = p; sign = none; rest = subst R none (has_rest body p all has); read = subst V none read }

positive_literal : (s : Bool) (g m : ℕ) (body : List ℕ) → after_underscores body ≡ body → ReadsMagnitude g m body → ReadsAs s g (48 ∷ 120 ∷ body) (pos m)
positive_literal true g m body same h = let R : List ℕ → Type 0 = λ t. HasRest Hex t (record h.parts { sign = None }) in record { parts = record h.parts { sign = None }; has = record { sign = refl; rest = subst R (sym same) h.rest }; read = h.read }
positive_literal false g m body same h = let R : List ℕ → Type 0 = λ t. HasRest Hex t (record h.parts { sign = None }) in record { parts = record h.parts { sign = None }; has = record { sign = refl; rest = subst R (sym same) h.rest }; read = h.read }

negative_literal : (g k : ℕ) (body : List ℕ) → after_underscores body ≡ body → ReadsMagnitude g (suc k) body → ReadsAs true g (45 ∷ 48 ∷ 120 ∷ body) (negsuc k)
negative_literal g k body same h =
    let R : List ℕ → Type 0 = λ t. HasRest Hex t (record h.parts { sign = None }) in
    let ulps : pos (suc k) ≡ pos h.read.ulps = h.read.value in
    record {
      parts = record h.parts { sign = Some 45 };
      has = record { sign = refl; rest = subst R (sym same) h.rest };
      read = record { ulps = h.read.ulps; rounded = h.read.rounded; value = ap neg_ℤ ulps };
    }

reads_as : ExactTextReadsBack → (s : Bool) (n g : ℕ) (c : ℤ) → IsInRange s n c → ReadsAs s g (literal_text c g) c
unfolding literal_text
reads_as reads s n g (pos m) range =
    let same : 48 ∷ 120 ∷ exact_text 16 false (pos m) g ≡ sign_text (is_negative (pos m)) ++ (hex_prefix ++ exact_text 16 false (pos m) g) = ap (λ b. sign_text b ++ (hex_prefix ++ exact_text 16 false (pos m) g)) (sym (not_negative m)) in
    let P : List ℕ → Type 0 = λ t. ReadsAs s g t (pos m) in
    subst P same (positive_literal s g m (exact_text 16 false (pos m) g) (none_first (exact_text 16 false (pos m) g) (body_shown m g)) (magnitude_reads reads m g))
reads_as reads true n g (negsuc k) range =
    negative_literal g k (exact_text 16 false (pos (suc k)) g) (none_first (exact_text 16 false (pos (suc k)) g) (body_shown (suc k) g)) (magnitude_reads reads (suc k) g)
reads_as reads false n g (negsuc k) range = let low = range.low in absurd (omega (arith, ints, low))

pub literal_is_read : ExactTextReadsBack → (f : FormatParts) (c : ℤ) → IsInRange f.signed f.width c → IsLiteralOf f (literal_text c f.frac) c
literal_is_read reads f c range =
    let h = reads_as reads f.signed f.width f.frac c range in
    record { parts = h.parts; has = h.has; read = h.read; in_range = range }
