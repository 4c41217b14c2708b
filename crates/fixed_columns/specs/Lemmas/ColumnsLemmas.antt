-- A column has one text, and an input has one answer.
use Rattle.std.specs.Prelude.{◌≡◌, ℕ, Bool, List, [], ◌∷◌, ◌++◌}
use Rattle.std.proofs.Common.{sym, ap, ◌∙◌, inl, inr, subst}
use Rattle.fixed_laws.proofs.Public.{styled_text_unique}
use Rattle.fixed_respell.specs.LineWords.{space}
use Rattle.fixed_respell.specs.Words.{format_text}
use Rattle.fixed_write.specs.declared.style.Style.{Style}
use Rattle.line_engine.specs.AnswerText.{AnswerText}
use Rattle.line_engine.specs.Lines.{lines}
use Rattle.fixed_columns.specs.Answer.{IsColumnAnswer, IsWholeAnswer, column_style, fault_line}
use Rattle.fixed_columns.specs.Cells.{CellParts, HoldsAsOften}
use Rattle.fixed_columns.specs.ColumnText.{IsColumnText, IsRow}
use Rattle.fixed_columns.specs.Lemmas.RowLemmas.{fail_one, not_both, spell_one}
use Rattle.fixed_columns.specs.Lemmas.SortedLemmas.{both_sorted}

-- ---- a column
row_one : (style : Style) (c : CellParts) (a b : List ℕ) → IsRow style c a → IsRow style c b → a ≡ b
row_one style c a b x y =
    let same : x.number ≡ y.number = styled_text_unique style c.bits c.format.frac x.number y.number x.styled y.styled
    in
    x.text ∙ (ap (λ (n : List ℕ). n ++ space ∷ format_text c.format) same ∙ sym y.text)

pub column_one : (style : Style) (cells : List CellParts) (a b : List ℕ) → IsColumnText style cells a
    → IsColumnText style cells b → a ≡ b
column_one style [] a b x y = x ∙ sym y
column_one style (c ∷ cells) a b x y =
    let row : x.0 ≡ y.0 = row_one style c x.0 y.0 x.2 y.2 in
    let rest : x.1 ≡ y.1 = column_one style cells x.1 y.1 x.4 y.4 in
    x.3 ∙ (ap (λ (r : List ℕ). r ++ 10 ∷ x.1) row ∙ (ap (λ (r : List ℕ). y.0 ++ 10 ∷ r) rest ∙ sym y.3))

-- ---- the answer
answer_text_is : (a b : AnswerText) → a.text ≡ b.text → a.fault ≡ b.fault → a ≡ b
answer_text_is a b t f =
    let R : List ℕ → Bool → AnswerText = λ x y. record { text = x; fault = y } in
    ap (λ x. R x a.fault) t ∙ ap (λ y. R b.text y) f

column_answer_one : (input : List ℕ) (a b : AnswerText) → IsColumnAnswer input a → IsColumnAnswer input b
    → a.text ≡ b.text
column_answer_one input a b x y =
    let cells : x.cells ≡ y.cells = spell_one (lines input) x.cells y.cells x.are y.are in
    let H : List CellParts → Type 0 = λ t. HoldsAsOften t x.sorted in
    let sorted : x.sorted ≡ y.sorted = both_sorted y.cells x.sorted y.sorted
    (subst H cells x.same) y.same x.order y.order in
    let C : List CellParts → Type 0 = λ t. IsColumnText column_style t a.text in
    column_one column_style y.sorted a.text b.text (subst C sorted x.text) y.text

pub answer_one : (input : List ℕ) (a b : AnswerText) → IsWholeAnswer input a → IsWholeAnswer input b → a ≡ b
answer_one input a b (inl x) (inl y) = answer_text_is a b (column_answer_one input a b x y) (x.fault ∙ sym y.fault)
answer_one input a b (inl x) (inr y) = absurd (not_both 1 (lines input) x.cells y.line y.why x.are y.is)
answer_one input a b (inr x) (inl y) = absurd (not_both 1 (lines input) y.cells x.line x.why y.are x.is)
answer_one input a b (inr x) (inr y) =
    let same = fail_one 1 (lines input) x.line y.line x.why y.why x.is y.is in
    answer_text_is a b (x.text ∙ (ap (λ p. fault_line p x.why) same.line ∙
    (ap (λ f. fault_line y.line f) same.fault ∙ sym y.text))) (x.fault ∙ sym y.fault)
