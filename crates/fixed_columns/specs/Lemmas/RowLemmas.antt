-- A line spells one cell or has one fault, and so a text has one list of cells or one first fault.
use Rattle.std.specs.Prelude.{◌≡◌, ◌⊎◌, ◌+◌, ℕ, ℤ, List, [], ◌∷◌, Bool, Result, Ok, Err}
use Rattle.std.proofs.Common.{refl, sym, ap, ◌∙◌, subst, arith, inl, inr}
use Rattle.std.proofs.lemmas.Int.{ints}
use Rattle.fixed_bits.specs.Formats.{FormatParts}
use Rattle.fixed_bits.specs.Ranges.{IsInRange, IsOutOfRange}
use Rattle.fixed_bits.specs.declared.mode.ReadMode.TheVariants.{NearestEven}
use Rattle.fixed_numeral.specs.Numeral.{Parts, HasNumeral}
use Rattle.fixed_numeral.specs.declared.error.ParseErrorKind.{ParseErrorKind}
use Rattle.fixed_numeral.specs.declared.radix.Radix.TheVariants.{Dec}
use Rattle.fixed_numeral.proofs.Public.{one_cause, parts_unique}
use Rattle.fixed_read.specs.Reading.{IsReadNumber}
use Rattle.fixed_read.proofs.Public.{read_number_is_the_one}
use Rattle.fixed_respell.specs.LineWords.{space}
use Rattle.fixed_respell.specs.Split.{count_of}
use Rattle.fixed_respell.specs.Words.{IsFormatWord}
use Rattle.fixed_respell.specs.Lemmas.AnswerLemmas.{format_word_one}
use Rattle.fixed_respell.specs.Lemmas.SplitLemmas.{split_has_one, split_is_one}
use Rattle.fixed_columns.specs.Cells.{CellParts}
use Rattle.fixed_columns.specs.Rows.{FailAt, HasFault, HasFields, IsNumeralOf, IsRefusedNumeral, SpellAll, Spells}
use Rattle.fixed_columns.specs.Rows.{after_spaces}
use Rattle.fixed_columns.specs.declared.fault.CellFault.{CellFault}
use Rattle.fixed_columns.specs.declared.fault.CellFault.TheVariants.{MissingField, BadFormat, BadNumeral}

-- ---- a numeral
number_one : (bytes : List ℕ) (p q : Parts) (f : ℕ) (v w : ℤ) → HasNumeral Dec bytes p → HasNumeral Dec bytes q
    → IsReadNumber NearestEven Dec p f v → IsReadNumber NearestEven Dec q f w → v ≡ w
number_one bytes p q f v w x y a b =
    let same : p ≡ q = parts_unique Dec bytes p q x.beginning y.beginning in
    let P : Parts → Type 0 = λ t. IsReadNumber NearestEven Dec t f v in
    let one = read_number_is_the_one NearestEven Dec q f in
    one.2 v (subst P same a) ∙ sym (one.2 w b)

bits_one : (f : FormatParts) (bytes : List ℕ) (b c : ℤ) → IsNumeralOf f bytes b → IsNumeralOf f bytes c → b ≡ c
bits_one f bytes b c x y = number_one bytes x.parts y.parts f.frac b c x.has y.has x.read y.read

in_not_out : (s : Bool) (n : ℕ) (v : ℤ) → IsInRange s n v → IsOutOfRange s n v → ⊥
in_not_out s n v x (inl below) = let l = x.low in omega (arith, ints)
in_not_out s n v x (inr above) = let h = x.high in omega (arith, ints)

not_refused : (f : FormatParts) (bytes : List ℕ) (b : ℤ) (kind : ParseErrorKind) → IsNumeralOf f bytes b
    → IsRefusedNumeral f bytes kind → ⊥
not_refused f bytes b kind x (inl cause) = cause.none (x.parts, x.has)
not_refused f bytes b kind x (inr over) =
    let o = over.1 in
    let same : o.number ≡ b = number_one bytes o.parts x.parts f.frac o.number b o.has x.has o.read x.read in
    let P : ℤ → Type 0 = λ v. IsOutOfRange f.signed f.width v in
    in_not_out f.signed f.width b x.in_range (subst P same o.out_of_range)

kinds_one : (f : FormatParts) (bytes : List ℕ) (k l : ParseErrorKind) → IsRefusedNumeral f bytes k
    → IsRefusedNumeral f bytes l → k ≡ l
kinds_one f bytes k l (inl a) (inl b) = one_cause Dec bytes k l a b
kinds_one f bytes k l (inl a) (inr b) = absurd (a.none (b.1.parts, b.1.has))
kinds_one f bytes k l (inr a) (inl b) = absurd (b.none (a.1.parts, a.1.has))
kinds_one f bytes k l (inr a) (inr b) = a.0 ∙ sym b.0

-- ---- a line, fault by fault
abbrev Outcome : Type 0
Outcome = Result CellParts CellFault

abbrev Says : List ℕ → Outcome → Type 0
Says line (Ok c) = Spells line c
Says line (Err fault) = HasFault line fault

abbrev cell_with : FormatParts → ℤ → CellParts
cell_with f bits = record { format = f; bits = bits }

abbrev ByNumeral : List ℕ → FormatParts → Outcome → Type 0
ByNumeral numeral f r = ((kind : ParseErrorKind) × IsRefusedNumeral f numeral kind × (r ≡ Err (BadNumeral kind)))
    ⊎ ((bits : ℤ) × IsNumeralOf f numeral bits × (r ≡ Ok (cell_with f bits)))

abbrev ByFormat : List ℕ → List ℕ → Outcome → Type 0
ByFormat numeral word r = (((f : FormatParts) → ¬ IsFormatWord word f) × (r ≡ Err BadFormat))
    ⊎ ((f : FormatParts) × IsFormatWord word f × ByNumeral numeral f r)

abbrev ByLine : List ℕ → Outcome → Type 0
ByLine line r = ((count_of space (after_spaces line) ≡ 0) × (r ≡ Err MissingField))
    ⊎ ((numeral : List ℕ) × (word : List ℕ) × HasFields line numeral word × ByFormat numeral word r)

by_numeral_one : (numeral : List ℕ) (f : FormatParts) (r s : Outcome) → ByNumeral numeral f r → ByNumeral numeral f s
    → r ≡ s
by_numeral_one numeral f r s (inl a) (inl b) = let same : a.0 ≡ b.0 = kinds_one f numeral a.0 b.0 a.1 b.1
    in let D : ParseErrorKind → Outcome = λ k. Err (BadNumeral k) in a.2 ∙ (ap D same ∙ sym b.2)
by_numeral_one numeral f r s (inl a) (inr b) = absurd (not_refused f numeral b.0 a.0 b.1 a.1)
by_numeral_one numeral f r s (inr a) (inl b) = absurd (not_refused f numeral a.0 b.0 a.1 b.1)
by_numeral_one numeral f r s (inr a) (inr b) = let same : a.0 ≡ b.0 = bits_one f numeral a.0 b.0 a.1 b.1 in let D : ℤ
    → Outcome = λ v. Ok (cell_with f v) in a.2 ∙ (ap D same ∙ sym b.2)

by_format_one : (numeral word : List ℕ) (r s : Outcome) → ByFormat numeral word r → ByFormat numeral word s → r ≡ s
by_format_one numeral word r s (inl a) (inl b) = a.1 ∙ sym b.1
by_format_one numeral word r s (inl a) (inr b) = absurd (a.0 b.0 b.1)
by_format_one numeral word r s (inr a) (inl b) = absurd (b.0 a.0 a.1)
by_format_one numeral word r s (inr a) (inr b) =
    let P : FormatParts → Type 0 = λ f. ByNumeral numeral f r in
    by_numeral_one numeral b.0 r s (subst P (format_word_one word a.0 b.0 a.1 b.1) a.2) b.2

by_line_one : (line : List ℕ) (r s : Outcome) → ByLine line r → ByLine line s → r ≡ s
by_line_one line r s (inl a) (inl b) = a.1 ∙ sym b.1
by_line_one line r s (inl a) (inr b) = absurd (split_has_one space (after_spaces line) b.0 b.1 b.2.split a.0)
by_line_one line r s (inr a) (inl b) = absurd (split_has_one space (after_spaces line) a.0 a.1 a.2.split b.0)
by_line_one line r s (inr a) (inr b) =
    let same = split_is_one space (after_spaces line) a.0 a.1 b.0 b.1 a.2 b.2 in
    let N : List ℕ → Type 0 = λ v. ByFormat v a.1 r in
    let W : List ℕ → Type 0 = λ v. ByFormat b.0 v r in
    by_format_one b.0 b.1 r s (subst W same.after (subst N same.before a.3)) b.3

by_line : (line : List ℕ) (r : Outcome) → Says line r → ByLine line r
by_line line (Ok c) s = inr (s.numeral, s.word, s.fields, inr (c.format, s.format, inr (c.bits, s.bits, refl)))
by_line line (Err MissingField) s = inl (s, refl)
by_line line (Err BadFormat) s = inr (s.numeral, s.word, s.fields, inl (s.bad, refl))
by_line line (Err (BadNumeral kind)) s = inr (
  s.numeral,
  s.word,
  s.fields,
  inr (s.format, s.named, inl (kind, s.refused, refl)),
)

says_one : (line : List ℕ) (r s : Outcome) → Says line r → Says line s → r ≡ s
says_one line r s a b = by_line_one line r s (by_line line r a) (by_line line s b)

-- ---- a text
pub spell_one : (lines : List (List ℕ)) (t u : List CellParts) → SpellAll lines t → SpellAll lines u → t ≡ u
spell_one [] t u a b = a ∙ sym b
spell_one (l ∷ ls) t u a b =
    let outcome = says_one l (Ok a.0) (Ok b.0) a.2 b.2 in
    let head : a.0 ≡ b.0 = cc in
    let tail : a.1 ≡ b.1 = spell_one ls a.1 b.1 a.4 b.4 in
    let left : t ≡ a.0 ∷ a.1 = a.3 in
    let right : u ≡ b.0 ∷ b.1 = b.3 in
    cc

pub record IsSameFault (p q : ℕ) (f g : CellFault) : Type 0 where
  pub line : p ≡ q
  pub fault : f ≡ g

pub fail_one : (n : ℕ) (lines : List (List ℕ)) (p q : ℕ) (f g : CellFault) → FailAt n lines p f → FailAt n lines q g
    → IsSameFault p q f g
fail_one n [] p q f g a b = absurd a
fail_one n (l ∷ ls) p q f g (inl a) (inl b) = let outcome = says_one l (Err f) (Err g) a.0 b.0
    in record { line = a.1 ∙ sym b.1; fault = cc }
fail_one n (l ∷ ls) p q f g (inl a) (inr b) = let outcome = says_one l (Err f) (Ok b.0.0) a.0 b.0.1 in absurd cc
fail_one n (l ∷ ls) p q f g (inr a) (inl b) = let outcome = says_one l (Err g) (Ok a.0.0) b.0 a.0.1 in absurd cc
fail_one n (l ∷ ls) p q f g (inr a) (inr b) = fail_one (n + 1) ls p q f g a.1 b.1

pub not_both : (n : ℕ) (lines : List (List ℕ)) (t : List CellParts) (p : ℕ) (f : CellFault) → SpellAll lines t
    → FailAt n lines p f → ⊥
not_both n [] t p f a b = b
not_both n (l ∷ ls) t p f a (inl b) = let outcome = says_one l (Err f) (Ok a.0) b.0 a.2 in absurd cc
not_both n (l ∷ ls) t p f a (inr b) = not_both (n + 1) ls a.1 p f a.4 b.1
