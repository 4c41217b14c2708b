-- The output for lines is determined.
use Rattle.std.proofs.Common.{◌≡◌, ◌||◌, ℕ, List, ap, sym, ◌∙◌}
use Rattle.std.specs.declared.convert.Infallible.{Infallible}
use Rattle.line_engine.proofs.Public.{answers_one}
use Rattle.line_engine.specs.AnswerText.{AnswerText}
use Rattle.line_engine.specs.Lines.{ended_lines, lines}
use Rattle.line_engine.specs.Output.{any_fault, written_of}
use Rattle.run_engine.specs.LineRun.{AnswersLines, MakesLines}
use Rattle.run_engine.specs.Machines.{Agree, How, going, finished, lacking, stopped}
use Rattle.run_engine.specs.declared.lines.Lines.{Lines}

module _ {R W T : Type 0} (A : List ℕ → AnswerText → Type 0) (one : (line : List ℕ) (a b : AnswerText) → A line a
    → A line b → a ≡ b) (Is : List ℕ → AnswerText → T → Type 0) (Saw : W → ℕ → List ℕ → T → W → Type 0)
    (per_byte extra : ℕ) (first a b : Lines R W) where
  text_one : (ls : List (List ℕ)) (made other : List ℕ) (spent cost : ℕ)
      → AnswersLines A Is Saw per_byte extra first ls made spent a
      → AnswersLines A Is Saw per_byte extra first ls other cost b → (made ≡ other) × (a.has_fault ≡ b.has_fault)
  text_one ls made other spent cost p q =
      let same = answers_one A one ls p.replies q.replies p.answers q.answers in (
        p.text_is ∙ ap written_of same ∙ sym q.text_is,
        p.faulty ∙ ap (λ rs. first.has_fault || any_fault rs) same ∙ sym
            q.faulty,
      )

  pub lines_one : (bytes made other : List ℕ) (spent cost : ℕ) (how then : How Infallible)
      → MakesLines A Is Saw per_byte extra first bytes made spent how a
      → MakesLines A Is Saw per_byte extra first bytes other cost then b → Agree how made then other
  lines_one bytes made other spent cost going going p q = (text_one (ended_lines bytes) made other spent cost p.made
      q.made).0
  lines_one bytes made other spent cost going (finished g) p q = tt
  lines_one bytes made other spent cost going lacking p q = tt
  lines_one bytes made other spent cost going (stopped late t) p q = absurd q
  lines_one bytes made other spent cost (finished f) going p q = tt
  lines_one bytes made other spent cost (finished f) (finished g) p q =
      let same = text_one (lines bytes) made other spent cost p.made q.made in
      (same.0, p.is ∙ same.1 ∙ sym q.is)
  lines_one bytes made other spent cost (finished f) lacking p q = tt
  lines_one bytes made other spent cost (finished f) (stopped late t) p q = absurd q
  lines_one bytes made other spent cost lacking then p q = tt
  lines_one bytes made other spent cost (stopped late s) then p q = absurd p
