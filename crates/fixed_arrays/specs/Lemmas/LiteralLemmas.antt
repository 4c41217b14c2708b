-- A file of named literals has one answer.
use Rattle.std.proofs.Common.{◌≡◌, ◌∙◌, ◌+◌, ℕ, List, [], ◌∷◌, ◌++◌, refl, sym, ap, subst, arith, inl, inr}
use Rattle.fixed_bits.specs.Formats.{FormatParts}
use Rattle.fixed_constants.specs.Constants.{ConstantParts, Declare, IsConstantsOf, Spells}
use Rattle.fixed_constants.specs.Lemmas.ConstantsLemmas.{answer_text_is, declare_one, fail_one, fields_one, not_both}
use Rattle.fixed_respell.specs.Words.{IsFormatWord}
use Rattle.fixed_respell.specs.Lemmas.AnswerLemmas.{format_word_one}
use Rattle.line_engine.specs.AnswerText.{AnswerText}
use Rattle.line_engine.specs.Lines.{lines}
use Rattle.fixed_arrays.specs.Literals.{AreOf, HasFirstFormat, HasFormat, HasLiteralsFault}
use Rattle.fixed_arrays.specs.Literals.{IsLiteralArrayAnswer, IsOtherOn, OtherFrom, frame_for, literals_fault_line}
use Rattle.fixed_arrays.specs.Table.{literals_text}
use Rattle.fixed_arrays.specs.declared.fault.LiteralsFault.{LiteralsFault}
use Rattle.fixed_arrays.specs.declared.fault.LiteralsFault.TheVariants.{Empty, NoMemory, OtherFormat, Refused}
use Rattle.fixed_arrays.specs.declared.literal_rule.LiteralArrayRule.{LiteralArrayRule}

-- ---- formats of lines
pub format_one : (line : List ℕ) (f g : FormatParts) → HasFormat line f → HasFormat line g → f ≡ g
format_one line f g x y =
    let W : List ℕ → Type 0 = λ w. IsFormatWord w f in
    format_word_one y.fields.format f g (subst W (fields_one line x.fields y.fields).format x.word) y.word

pub first_format_one : (all : List (List ℕ)) (f g : FormatParts) → HasFirstFormat all f → HasFirstFormat all g → f ≡ g
first_format_one [] f g x y = absurd x
first_format_one (line ∷ more) f g (inl x) (inl y) = format_one line f g x y
first_format_one (line ∷ more) f g (inl x) (inr y) = absurd (y.0 f x)
first_format_one (line ∷ more) f g (inr x) (inl y) = absurd (x.0 g y)
first_format_one (line ∷ more) f g (inr x) (inr y) = first_format_one more f g x.1 y.1

pub other_from_one : (n : ℕ) (f : FormatParts) (all : List (List ℕ)) (p q : ℕ) → OtherFrom n f all p
    → OtherFrom n f all q → p ≡ q
other_from_one n f [] p q x y = absurd x
other_from_one n f (line ∷ more) p q (inl x) (inl y) = x.1 ∙ sym y.1
other_from_one n f (line ∷ more) p q (inl x) (inr y) = absurd (y.0 x.0)
other_from_one n f (line ∷ more) p q (inr x) (inl y) = absurd (x.0 y.0)
other_from_one n f (line ∷ more) p q (inr x) (inr y) = other_from_one (n + 1) f more p q x.1 y.1

-- the first literal of another format is on one line
pub record IsSameOther (f g : FormatParts) (p q : ℕ) : Type 0 where
  pub format : f ≡ g
  pub line : p ≡ q

pub other_one : (text : List ℕ) (f g : FormatParts) (p q : ℕ) → IsOtherOn text f p → IsOtherOn text g q
    → IsSameOther f g p q
other_one text f g p q x y =
    let same : f ≡ g = first_format_one (lines text) f g x.first y.first in
    let O : FormatParts → Type 0 = λ h. OtherFrom 1 h (lines text) p in
    record { format = same; line = other_from_one 1 g (lines text) p q (subst O same x.other) y.other }

-- ---- lines that declare constants
-- a line that spells a constant has its format
pub spelled_format : (line : List ℕ) (c : ConstantParts) → Spells line c → HasFormat line c.format
spelled_format line c s = record { fields = s.fields; word = s.format }

-- lines that declare nothing have no format
pub none_declared : (before all : List (List ℕ)) (f : FormatParts) → Declare before all [] → HasFirstFormat all f → ⊥
none_declared before [] f d x = x
none_declared before (line ∷ more) f (inl d) (inl x) = x.fields.spoken d.0
none_declared before (line ∷ more) f (inl d) (inr x) = none_declared (before ++ line ∷ []) more f d.1 x.1
none_declared before (line ∷ more) f (inr d) x = absurd cc

-- the first format of such lines is that of the first constant
pub first_declared : (before all : List (List ℕ)) (c : ConstantParts) (rest : List ConstantParts) (f : FormatParts)
    → Declare before all (c ∷ rest) → HasFirstFormat all f → c.format ≡ f
first_declared before [] c rest f d x = absurd x
first_declared before (line ∷ more) c rest f (inl d) (inl x) = absurd (x.fields.spoken d.0)
first_declared before (line ∷ more) c rest f (inl d) (inr x) =
    first_declared (before ++ line ∷ []) more c rest f d.1 x.1
first_declared before (line ∷ more) c rest f (inr d) (inl x) =
    let same : c ≡ d.0 = cc in
    ap (λ e. e.format) same ∙ format_one line d.0.format f (spelled_format line d.0 d.2.0) x
first_declared before (line ∷ more) c rest f (inr d) (inr x) = absurd (x.0 d.0.format (spelled_format line d.0 d.2.0))

-- a line of this format is not the first of another if no line after it is
same_line : (n : ℕ) (f : FormatParts) (line : List ℕ) (more : List (List ℕ)) (c : ConstantParts) (p : ℕ)
    → HasFormat line c.format → c.format ≡ f → (OtherFrom (n + 1) f more p → ⊥) → OtherFrom n f (line ∷ more) p → ⊥
same_line n f line more c p has same none (inl x) = x.0.2 (format_one line x.0.0 c.format x.0.1 has ∙ same)
same_line n f line more c p has same none (inr x) = none x.1

-- lines that declare constants of one format have no line of another
pub never_other : (n : ℕ) (before all : List (List ℕ)) (t : List ConstantParts) (f : FormatParts) (p : ℕ)
    → Declare before all t → AreOf f t → OtherFrom n f all p → ⊥
never_other n before [] t f p d are x = x
never_other n before (line ∷ more) t f p (inl d) are (inl x) = x.0.1.fields.spoken d.0
never_other n before (line ∷ more) t f p (inl d) are (inr x) = never_other (n + 1) (before ++ line ∷ []) more t f p d.1
    are x.1
never_other n before (line ∷ more) t f p (inr d) are x =
    let s : AreOf f (d.0 ∷ d.1) = subst (AreOf f) d.3 are in
    same_line n f line more d.0 p (spelled_format line d.0 d.2.0) s.0
    (never_other (n + 1) (before ++ line ∷ []) more d.1 f p d.4 s.1) x

-- ---- faults
pub fault_one : (text : List ℕ) (a b : LiteralsFault) → HasLiteralsFault text a → HasLiteralsFault text b → a ≡ b
fault_one text Empty Empty x y = refl
fault_one text Empty (Refused q g) x y = absurd (not_both [] (lines text) [] q g x y.0)
fault_one text Empty (OtherFormat q g) x y = absurd (none_declared [] (lines text) g x y.0.first)
fault_one text Empty NoMemory x y = absurd y
fault_one text (Refused p f) Empty x y = absurd (not_both [] (lines text) [] p f y x.0)
fault_one text (Refused p f) (Refused q g) x y =
    let same = fail_one [] (lines text) p q f g x.0 y.0 in
    ap (λ l. Refused l f) same.line ∙ ap (Refused q) same.fault
fault_one text (Refused p f) (OtherFormat q g) x y =
    let late = x.1 g q y.0 in let early = y.1 p f x.0 in absurd (omega (arith, late, early))
fault_one text (Refused p f) NoMemory x y = absurd y
fault_one text (OtherFormat p f) Empty x y = absurd (none_declared [] (lines text) f y x.0.first)
fault_one text (OtherFormat p f) (Refused q g) x y =
    let late = y.1 f p x.0 in let early = x.1 q g y.0 in absurd (omega (arith, late, early))
fault_one text (OtherFormat p f) (OtherFormat q g) x y =
    let same = other_one text f g p q x.0 y.0 in
    ap (λ l. OtherFormat l f) same.line ∙ ap (OtherFormat q) same.format
fault_one text (OtherFormat p f) NoMemory x y = absurd y
fault_one text NoMemory b x y = absurd x

pub never_fault : (text : List ℕ) (t : List ConstantParts) (f : FormatParts) (why : LiteralsFault)
    → IsConstantsOf text t → (t ≡ [] → ⊥) → AreOf f t → HasLiteralsFault text why → ⊥
never_fault text t f Empty are some one x = some (declare_one [] (lines text) t [] are x)
never_fault text t f (Refused p g) are some one x = not_both [] (lines text) t p g are x.0
never_fault text [] f (OtherFormat p g) are some one x = some refl
never_fault text (c ∷ rest) f (OtherFormat p g) are some one x =
    let same : f ≡ g = sym one.0 ∙ first_declared [] (lines text) c rest g are x.0.first in
    never_other 1 [] (lines text) (c ∷ rest) g p are (subst (λ h. AreOf h (c ∷ rest)) same one) x.0.other
never_fault text t f NoMemory are some one x = x

-- ---- answers
same_format : (t : List ConstantParts) (f g : FormatParts) → (t ≡ [] → ⊥) → AreOf f t → AreOf g t → f ≡ g
same_format [] f g some x y = absurd (some refl)
same_format (c ∷ rest) f g some x y = sym x.0 ∙ y.0

pub literal_answer_one : (r : LiteralArrayRule) (text : List ℕ) (a b : AnswerText) → IsLiteralArrayAnswer r text a
    → IsLiteralArrayAnswer r text b → a ≡ b
literal_answer_one r text a b (inl x) (inl y) =
    let same : x.constants ≡ y.constants = declare_one [] (lines text) x.constants y.constants x.are y.are in
    let one : AreOf x.format y.constants = subst (AreOf x.format) same x.one in
    let format : x.format ≡ y.format = same_format y.constants x.format y.format y.some one y.one in
    answer_text_is a b (x.array ∙ (ap (literals_text (frame_for r x.format)) same ∙
    (ap (λ f. literals_text (frame_for r f) y.constants) format ∙ sym y.array))) (x.fault ∙ sym y.fault)
literal_answer_one r text a b (inl x) (inr y) = absurd (never_fault text x.constants x.format y.why x.are x.some x.one
    y.is)
literal_answer_one r text a b (inr x) (inl y) = absurd (never_fault text y.constants y.format x.why y.are y.some y.one
    x.is)
literal_answer_one r text a b (inr x) (inr y) = answer_text_is a b (x.line ∙ (ap literals_fault_line
    (fault_one text x.why y.why x.is y.is) ∙ sym y.line)) (x.fault ∙ sym y.fault)
