-- An input has one answer with its formats renamed.
use Rattle.std.proofs.Common.{◌≡◌, ◌∙◌, ℕ, List, [], ◌∷◌, ◌++◌, sym, ap, subst, inl, inr}
use Rattle.fixed_bits.specs.Formats.{FormatParts}
use Rattle.fixed_names.proofs.Public.{name_one}
use Rattle.fixed_names.specs.Names.{IsName}
use Rattle.fixed_respell.specs.LineWords.{spaced}
use Rattle.fixed_respell.specs.Lemmas.LineWordLemmas.{words_one}
use Rattle.fixed_respell.specs.Words.{format_text}
use Rattle.line_engine.specs.AnswerText.{AnswerText}
use Rattle.line_engine.specs.Lines.{lines}
use Rattle.fixed_command.specs.Renamed.{AreRenamed, HasTypeName, IsRenamed, IsRenamedAnswer, IsRenamedLine}

format_one : (line : List ℕ) (f g : FormatParts) → HasTypeName line f → HasTypeName line g → f ≡ g
format_one line f g x y =
    let same = words_one line x.words y.words x.word y.word x.has y.has (x.three ∙ sym y.three) in
    name_one y.word f g (subst (λ w. IsName w f) same.rests x.name) y.name

renamed_one : (line a b : List ℕ) → IsRenamed line a → IsRenamed line b → a ≡ b
renamed_one line a b x y =
    let m = x.named in
    let n = y.named in
    let same = words_one line m.words n.words m.word n.word m.has n.has (m.three ∙ sym n.three) in
    let format : x.format ≡ y.format = format_one line x.format y.format m n in
    x.text ∙ (ap (λ w. spaced w (format_text x.format)) same.words ∙
    (ap (λ f. spaced n.words (format_text f)) format ∙ sym y.text))

line_one : (line a b : List ℕ) → IsRenamedLine line a → IsRenamedLine line b → a ≡ b
line_one line a b (inl x) (inl y) = renamed_one line a b x y
line_one line a b (inl x) (inr y) = absurd (y.0 x.format x.named)
line_one line a b (inr x) (inl y) = absurd (x.0 y.format y.named)
line_one line a b (inr x) (inr y) = x.1 ∙ sym y.1

lines_one : (all : List (List ℕ)) (a b : List ℕ) → AreRenamed all a → AreRenamed all b → a ≡ b
lines_one [] a b x y = x ∙ sym y
lines_one (line ∷ more) a b x y =
    x.4 ∙ (ap (λ l. l ++ 10 ∷ x.1) (line_one line x.0 y.0 x.2 y.2) ∙
    (ap (λ r. y.0 ++ 10 ∷ r) (lines_one more x.1 y.1 x.3 y.3) ∙ sym y.4))

pub renamed_answer_one : (A : List ℕ → AnswerText → Type 0)
    → ((text : List ℕ) (a b : AnswerText) → A text a → A text b → a ≡ b)
    → (input : List ℕ) (a b : AnswerText) → IsRenamedAnswer A input a → IsRenamedAnswer A input b → a ≡ b
renamed_answer_one A one input a b x y =
    let same : x.text ≡ y.text = lines_one (lines input) x.text y.text x.renamed y.renamed in
    one y.text a b (subst (λ t. A t a) same x.answers) y.answers
