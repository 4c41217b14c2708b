-- A text has one outcome.
use Rattle.std.proofs.Common.{◌≡◌, ℕ, ◌<◌, ◌⊎◌, Bool, List, [], ◌∷◌, ◌++◌, ℤ, refl, sym, ap, ◌∙◌, subst, arith, inl}
use Rattle.std.proofs.Common.{inr}
use Rattle.std.specs.Prelude.{Result, Ok, Err}
use Rattle.std.proofs.lemmas.Int.{ints}
use Rattle.fixed_bits.specs.Formats.{FormatParts}
use Rattle.fixed_bits.specs.Ranges.{IsInRange, IsOutOfRange}
use Rattle.fixed_bits.specs.declared.mode.ReadMode.TheVariants.{NearestEven}
use Rattle.fixed_bits.proofs.Public.{rounded_one}
use Rattle.fixed_numeral.specs.Literal.{HasLiteral, literal_radix}
use Rattle.fixed_numeral.specs.Numeral.{Parts, is_minus, signed}
use Rattle.fixed_numeral.specs.declared.error.ParseErrorKind.{ParseErrorKind}
use Rattle.fixed_numeral.specs.declared.radix.Radix.{Radix}
use Rattle.fixed_numeral.proofs.Public.{one_literal, one_literal_cause, magnitude_pos}
use Rattle.fixed_read.specs.Reading.{IsReadNumber}
use Rattle.fixed_respell.specs.Words.{IsFormatWord}
use Rattle.fixed_respell.specs.LineWords.{space}
use Rattle.fixed_respell.specs.Split.{count_of}
use Rattle.fixed_respell.specs.Lemmas.AnswerLemmas.{format_word_one}
use Rattle.fixed_respell.specs.Lemmas.LineWordLemmas.{not_missing, words_one}
use Rattle.line_engine.specs.AnswerText.{AnswerText}
use Rattle.line_engine.specs.Lines.{lines}
use Rattle.fixed_constants.specs.Answer.{IsWholeAnswer, fault_line}
use Rattle.fixed_constants.specs.Canonical.{canonical_text}
use Rattle.fixed_constants.specs.Constants.{ConstantParts, Declare, FailAt, Fields, HasFault, IsLiteralOf, IsName}
use Rattle.fixed_constants.specs.Constants.{IsNamedOn, IsPassedOver, IsRefusedLiteral, Says, Spells, equals_sign}
use Rattle.fixed_constants.specs.Lemmas.NameLemmas.{named_one}
use Rattle.fixed_constants.specs.declared.fault.ConstantFault.{ConstantFault}
use Rattle.fixed_constants.specs.declared.fault.ConstantFault.TheVariants.{MissingField, BadName, MissingEquals}
use Rattle.fixed_constants.specs.declared.fault.ConstantFault.TheVariants.{BadFormat, BadLiteral, Duplicate}

-- ---- a literal
read_one : (r : Radix) (p : Parts) (f : ℕ) (v w : ℤ) → IsReadNumber NearestEven r p f v
    → IsReadNumber NearestEven r p f w → v ≡ w
read_one r p f v w a b =
    let one = rounded_one NearestEven (is_minus p.sign) _ _ (magnitude_pos r p) in
    let same : a.ulps ≡ b.ulps = one.2 a.ulps a.rounded ∙ sym (one.2 b.ulps b.rounded) in
    a.value ∙ ap (signed p.sign) same ∙ sym b.value

number_one : (s : Bool) (bytes : List ℕ) (p q : Parts) (f : ℕ) (v w : ℤ) → HasLiteral s bytes p → HasLiteral s bytes q
    → IsReadNumber NearestEven (literal_radix s bytes) p f v → IsReadNumber NearestEven (literal_radix s bytes) q f w
    → v ≡ w
number_one s bytes p q f v w x y a b =
    let P : Parts → Type 0 = λ t. IsReadNumber NearestEven (literal_radix s bytes) t f v in
    read_one (literal_radix s bytes) q f v w (subst P (one_literal s bytes p q x y) a) b

pub bits_one : (f : FormatParts) (bytes : List ℕ) (b c : ℤ) → IsLiteralOf f bytes b → IsLiteralOf f bytes c → b ≡ c
bits_one f bytes b c x y = number_one f.signed bytes x.parts y.parts f.frac b c x.has y.has x.read y.read

in_not_out : (s : Bool) (n : ℕ) (v : ℤ) → IsInRange s n v → IsOutOfRange s n v → ⊥
in_not_out s n v x (inl below) = let l = x.low in omega (arith, ints)
in_not_out s n v x (inr above) = let h = x.high in omega (arith, ints)

read_not_refused : (f : FormatParts) (bytes : List ℕ) (b : ℤ) (kind : ParseErrorKind) → IsLiteralOf f bytes b
    → IsRefusedLiteral f bytes kind → ⊥
read_not_refused f bytes b kind x (inl cause) = (one_literal_cause f.signed bytes kind kind cause).1 (x.parts, x.has)
read_not_refused f bytes b kind x (inr over) =
    let o = over.1 in
    let same : o.number ≡ b = number_one f.signed bytes o.parts x.parts f.frac o.number b o.has x.has o.read x.read in
    let P : ℤ → Type 0 = λ v. IsOutOfRange f.signed f.width v in
    in_not_out f.signed f.width b x.in_range (subst P same o.out_of_range)

kinds_one : (f : FormatParts) (bytes : List ℕ) (k l : ParseErrorKind) → IsRefusedLiteral f bytes k
    → IsRefusedLiteral f bytes l → k ≡ l
kinds_one f bytes k l (inl a) (inl b) = (one_literal_cause f.signed bytes k l a).0 b
kinds_one f bytes k l (inl a) (inr b) = absurd ((one_literal_cause f.signed bytes k k a).1 (b.1.parts, b.1.has))
kinds_one f bytes k l (inr a) (inl b) = absurd ((one_literal_cause f.signed bytes l l b).1 (a.1.parts, a.1.has))
kinds_one f bytes k l (inr a) (inr b) = a.0 ∙ sym b.0

-- ---- a line, fault by fault
abbrev Outcome : Type 0
Outcome = Result ConstantParts ConstantFault

abbrev parts_of : List ℕ → FormatParts → ℤ → ConstantParts
parts_of name f bits = record { name = name; format = f; bits = bits }

abbrev ByName : List (List ℕ) → List ℕ → FormatParts → ℤ → Outcome → Type 0
ByName before name f bits r = ((p : ℕ) × IsNamedOn before name p × (r ≡ Err (Duplicate p)))
    ⊎ (((p : ℕ) → ¬ IsNamedOn before name p) × (r ≡ Ok (parts_of name f bits)))

abbrev ByLiteral : List (List ℕ) → List ℕ → List ℕ → FormatParts → Outcome → Type 0
ByLiteral before name literal f r = ((kind : ParseErrorKind) × IsRefusedLiteral f literal kind
    × (r ≡ Err (BadLiteral kind))) ⊎ ((bits : ℤ) × IsLiteralOf f literal bits × ByName before name f bits r)

abbrev ByFormat : List (List ℕ) → List ℕ → List ℕ → List ℕ → Outcome → Type 0
ByFormat before name literal word r = (((f : FormatParts) → ¬ IsFormatWord word f) × (r ≡ Err BadFormat))
    ⊎ ((f : FormatParts) × IsFormatWord word f × ByLiteral before name literal f r)

abbrev ByTest : Type 0 → Outcome → (Outcome → Type 0) → Outcome → Type 0
ByTest Holds fault More r = ((¬ Holds) × (r ≡ fault)) ⊎ (Holds × More r)

abbrev ByHead : List (List ℕ) → List ℕ → List ℕ → List ℕ → List ℕ → Outcome → Type 0
ByHead before name equals literal word r = ByTest (IsName name) (Err BadName)
    (ByTest (equals ≡ equals_sign) (Err MissingEquals) (ByFormat before name literal word)) r

by_name_one : (before : List (List ℕ)) (name : List ℕ) (f : FormatParts) (bits : ℤ) (r s : Outcome)
    → ByName before name f bits r → ByName before name f bits s → r ≡ s
by_name_one before name f bits r s (inl a) (inl b) = let same : a.0 ≡ b.0 = named_one 1 before name a.0 b.0 a.1 b.1
    in let D : ℕ → Outcome = λ p. Err (Duplicate p) in a.2 ∙ (ap D same ∙ sym b.2)
by_name_one before name f bits r s (inl a) (inr b) = absurd (b.0 a.0 a.1)
by_name_one before name f bits r s (inr a) (inl b) = absurd (a.0 b.0 b.1)
by_name_one before name f bits r s (inr a) (inr b) = a.1 ∙ sym b.1

by_literal_one : (before : List (List ℕ)) (name literal : List ℕ) (f : FormatParts) (r s : Outcome)
    → ByLiteral before name literal f r → ByLiteral before name literal f s → r ≡ s
by_literal_one before name literal f r s (inl a) (inl b) = let same : a.0 ≡ b.0 = kinds_one f literal a.0 b.0 a.1 b.1
    in let D : ParseErrorKind → Outcome = λ k. Err (BadLiteral k) in a.2 ∙ (ap D same ∙ sym b.2)
by_literal_one before name literal f r s (inl a) (inr b) = absurd (read_not_refused f literal b.0 a.0 b.1 a.1)
by_literal_one before name literal f r s (inr a) (inl b) = absurd (read_not_refused f literal a.0 b.0 a.1 b.1)
by_literal_one before name literal f r s (inr a) (inr b) =
    let P : ℤ → Type 0 = λ v. ByName before name f v r in
    by_name_one before name f b.0 r s (subst P (bits_one f literal a.0 b.0 a.1 b.1) a.2) b.2

by_format_one : (before : List (List ℕ)) (name literal word : List ℕ) (r s : Outcome)
    → ByFormat before name literal word r → ByFormat before name literal word s → r ≡ s
by_format_one before name literal word r s (inl a) (inl b) = a.1 ∙ sym b.1
by_format_one before name literal word r s (inl a) (inr b) = absurd (a.0 b.0 b.1)
by_format_one before name literal word r s (inr a) (inl b) = absurd (b.0 a.0 a.1)
by_format_one before name literal word r s (inr a) (inr b) =
    let P : FormatParts → Type 0 = λ f. ByLiteral before name literal f r in
    by_literal_one before name literal b.0 r s (subst P (format_word_one word a.0 b.0 a.1 b.1) a.2) b.2

by_test_one : (Holds : Type 0) (fault : Outcome) (More : Outcome → Type 0) → ((r s : Outcome) → More r → More s → r ≡ s)
    → (r s : Outcome) → ByTest Holds fault More r → ByTest Holds fault More s → r ≡ s
by_test_one Holds fault More one r s (inl a) (inl b) = a.1 ∙ sym b.1
by_test_one Holds fault More one r s (inl a) (inr b) = absurd (a.0 b.0)
by_test_one Holds fault More one r s (inr a) (inl b) = absurd (b.0 a.0)
by_test_one Holds fault More one r s (inr a) (inr b) = one r s a.1 b.1

by_head_one : (before : List (List ℕ)) (name equals literal word : List ℕ) (r s : Outcome)
    → ByHead before name equals literal word r → ByHead before name equals literal word s → r ≡ s
by_head_one before name equals literal word r s a b =
    by_test_one (IsName name) (Err BadName) (ByTest (equals ≡ equals_sign) (Err MissingEquals)
    (ByFormat before name literal word))
    (by_test_one (equals ≡ equals_sign) (Err MissingEquals) (ByFormat before name literal word)
    (by_format_one before name literal word)) r s a b

-- two ways to split a line are the same
pub record IsSameFields (line : List ℕ) (x y : Fields line) : Type 0 where
  pub name : x.name ≡ y.name
  pub equals : x.equals ≡ y.equals
  pub literal : x.literal ≡ y.literal
  pub format : x.format ≡ y.format

pub fields_one : (line : List ℕ) (x y : Fields line) → IsSameFields line x y
fields_one line x y =
    let same = words_one line (x.name ∷ x.equals ∷ x.literal ∷ [])
    (y.name ∷ y.equals ∷ y.literal ∷ []) x.format y.format x.has y.has refl in
    let words : x.name ∷ x.equals ∷ x.literal ∷ [] ≡ y.name ∷ y.equals ∷ y.literal ∷ [] = same.words in
    record { name = cc; equals = cc; literal = cc; format = same.rests }

abbrev OfFields : List (List ℕ) → (line : List ℕ) → Fields line → Outcome → Type 0
OfFields before line x r = ByHead before x.name x.equals x.literal x.format r

same_fields : (before : List (List ℕ)) (line : List ℕ) (x y : Fields line) (r : Outcome) → OfFields before line x r
    → OfFields before line y r
same_fields before line x y r h =
    let same = fields_one line x y in
    let N : List ℕ → Type 0 = λ v. ByHead before v x.equals x.literal x.format r in
    let E : List ℕ → Type 0 = λ v. ByHead before y.name v x.literal x.format r in
    let L : List ℕ → Type 0 = λ v. ByHead before y.name y.equals v x.format r in
    let F : List ℕ → Type 0 = λ v. ByHead before y.name y.equals y.literal v r in
    subst F same.format (subst L same.literal (subst E same.equals (subst N same.name h)))

abbrev ByLine : List (List ℕ) → List ℕ → Outcome → Type 0
ByLine before line r = ((count_of space line < 3) × (r ≡ Err MissingField))
    ⊎ ((x : Fields line) × OfFields before line x r)

enough : (line : List ℕ) (x : Fields line) → count_of space line < 3 → ⊥
enough line x few = not_missing 3 line (x.name ∷ x.equals ∷ x.literal ∷ []) x.format x.has refl few

by_line_one : (before : List (List ℕ)) (line : List ℕ) (r s : Outcome) → ByLine before line r → ByLine before line s
    → r ≡ s
by_line_one before line r s (inl a) (inl b) = a.1 ∙ sym b.1
by_line_one before line r s (inl a) (inr b) = absurd (enough line b.0 a.0)
by_line_one before line r s (inr a) (inl b) = absurd (enough line a.0 b.0)
by_line_one before line r s (inr a) (inr b) = by_head_one before b.0.name b.0.equals b.0.literal b.0.format r s
    (same_fields before line a.0 b.0 r a.1) b.1

spelled : (before : List (List ℕ)) (line : List ℕ) (c : ConstantParts) (s : Spells line c) (r : Outcome)
    → ByName before c.name c.format c.bits r → ByLine before line r
spelled before line c s r h =
    let P : List ℕ → Type 0 = λ n. ByName before n c.format c.bits r in
    inr (
      s.fields,
      inr (
        s.head.name,
        inr (
          s.head.equals,
          inr
              (c.format, s.format, inr (c.bits, s.literal, subst P (sym s.name) h)),
        ),
      ),
    )

by_line : (before : List (List ℕ)) (line : List ℕ) (r : Outcome) → Says before line r → ByLine before line r
by_line before line (Ok c) s = spelled before line c s.0 (Ok c) (inr (s.1, refl))
by_line before line (Err MissingField) s = inl (s.1, refl)
by_line before line (Err BadName) s = inr (s.0, inl (s.1, refl))
by_line before line (Err MissingEquals) s = inr (s.0, inr (s.1, inl (s.2, refl)))
by_line before line (Err BadFormat) s = inr (s.0, inr (s.1.name, inr (s.1.equals, inl (s.2, refl))))
by_line before line (Err (BadLiteral kind)) s = inr (
  s.0,
  inr
      (s.1.name, inr (s.1.equals, inr (s.2, s.3, inl (kind, s.4, refl)))),
)
by_line before line (Err (Duplicate first)) s = spelled before line s.0 s.1 (Err (Duplicate first))
    (inl (first, s.2, refl))

pub says_one : (before : List (List ℕ)) (line : List ℕ) (r s : Outcome) → Says before line r → Says before line s
    → r ≡ s
says_one before line r s a b = by_line_one before line r s (by_line before line r a) (by_line before line s b)

pub spoken_fault : (before : List (List ℕ)) (line : List ℕ) (fault : ConstantFault) → HasFault before line fault
    → IsPassedOver line → ⊥
spoken_fault before line MissingField s = s.0
spoken_fault before line BadName s = s.0.spoken
spoken_fault before line MissingEquals s = s.0.spoken
spoken_fault before line BadFormat s = s.0.spoken
spoken_fault before line (BadLiteral kind) s = s.0.spoken
spoken_fault before line (Duplicate first) s = s.1.fields.spoken

-- ---- a text
pub declare_one : (before lines : List (List ℕ)) (t u : List ConstantParts) → Declare before lines t
    → Declare before lines u → t ≡ u
declare_one before [] t u a b = a ∙ sym b
declare_one before (l ∷ ls) t u (inl a) (inl b) = declare_one (before ++ l ∷ []) ls t u a.1 b.1
declare_one before (l ∷ ls) t u (inl a) (inr b) = absurd (b.2.0.fields.spoken a.0)
declare_one before (l ∷ ls) t u (inr a) (inl b) = absurd (a.2.0.fields.spoken b.0)
declare_one before (l ∷ ls) t u (inr a) (inr b) =
    let outcome = says_one before l (Ok a.0) (Ok b.0) a.2 b.2 in
    let head : a.0 ≡ b.0 = cc in
    let tail : a.1 ≡ b.1 = declare_one (before ++ l ∷ []) ls a.1 b.1 a.4 b.4 in
    let left : t ≡ a.0 ∷ a.1 = a.3 in
    let right : u ≡ b.0 ∷ b.1 = b.3 in
    cc

pub record IsSameFault (p q : ℕ) (f g : ConstantFault) : Type 0 where
  pub line : p ≡ q
  pub fault : f ≡ g

pub fail_one : (before lines : List (List ℕ)) (p q : ℕ) (f g : ConstantFault) → FailAt before lines p f
    → FailAt before lines q g → IsSameFault p q f g
fail_one before [] p q f g a b = absurd a
fail_one before (l ∷ ls) p q f g (inl a) (inl b) = let outcome = says_one before l (Err f) (Err g) a.0 b.0
    in record { line = a.1 ∙ sym b.1; fault = cc }
fail_one before (l ∷ ls) p q f g (inl a) (inr (inl x, b)) = absurd (spoken_fault before l f a.0 x)
fail_one before (l ∷ ls) p q f g (inl a) (inr (inr x, b)) = let outcome = says_one before l (Err f) (Ok x.0) a.0 x.1
    in absurd cc
fail_one before (l ∷ ls) p q f g (inr (inl x, a)) (inl b) = absurd (spoken_fault before l g b.0 x)
fail_one before (l ∷ ls) p q f g (inr (inr x, a)) (inl b) = let outcome = says_one before l (Err g) (Ok x.0) b.0 x.1
    in absurd cc
fail_one before (l ∷ ls) p q f g (inr a) (inr b) = fail_one (before ++ l ∷ []) ls p q f g a.1 b.1

pub not_both : (before lines : List (List ℕ)) (t : List ConstantParts) (p : ℕ) (f : ConstantFault)
    → Declare before lines t → FailAt before lines p f → ⊥
not_both before [] t p f a b = b
not_both before (l ∷ ls) t p f (inl a) (inl b) = spoken_fault before l f b.0 a.0
not_both before (l ∷ ls) t p f (inr a) (inl b) = let outcome = says_one before l (Err f) (Ok a.0) b.0 a.2 in absurd cc
not_both before (l ∷ ls) t p f (inl a) (inr b) = not_both (before ++ l ∷ []) ls t p f a.1 b.1
not_both before (l ∷ ls) t p f (inr a) (inr b) = not_both (before ++ l ∷ []) ls a.1 p f a.4 b.1

-- ---- the answer
pub answer_text_is : (a b : AnswerText) → a.text ≡ b.text → a.fault ≡ b.fault → a ≡ b
answer_text_is a b t f =
    let R : List ℕ → Bool → AnswerText = λ x y. record { text = x; fault = y } in
    ap (λ x. R x a.fault) t ∙ ap (λ y. R b.text y) f

pub answer_one : (input : List ℕ) (a b : AnswerText) → IsWholeAnswer input a → IsWholeAnswer input b → a ≡ b
answer_one input a b (inl x) (inl y) = answer_text_is a b (x.text ∙
    (ap canonical_text (declare_one [] (lines input) x.constants y.constants x.are y.are) ∙ sym y.text))
    (x.fault ∙ sym y.fault)
answer_one input a b (inl x) (inr y) = absurd (not_both [] (lines input) x.constants y.line y.why x.are y.is)
answer_one input a b (inr x) (inl y) = absurd (not_both [] (lines input) y.constants x.line x.why y.are x.is)
answer_one input a b (inr x) (inr y) =
    let same = fail_one [] (lines input) x.line y.line x.why y.why x.is y.is in
    answer_text_is a b (x.text ∙ (ap (λ p. fault_line p x.why) same.line ∙
    (ap (λ f. fault_line y.line f) same.fault ∙ sym y.text))) (x.fault ∙ sym y.fault)
