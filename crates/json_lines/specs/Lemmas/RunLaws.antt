-- A line of JSON has one answer, and lines have one text.
use Rattle.std.proofs.Common.{◌≡◌, ◌⊎◌, ◌∙◌, ◌||◌, ℕ, zero, suc, Bool, true, false, not, List, []}
use Rattle.std.proofs.Common.{◌∷◌, ap, inl, inr, length, nat_le, subst, sym}
use Rattle.std.specs.declared.convert.Infallible.{Infallible}
use Rattle.fixed_command.specs.Layout.{is_skipped}
use Rattle.line_engine.proofs.Public.{answers_one}
use Rattle.line_engine.specs.AnswerText.{AnswerText}
use Rattle.line_engine.specs.Lines.{ended_lines, lines}
use Rattle.line_engine.specs.Output.{any_fault, written_of}
use Rattle.run_engine.specs.Machines.{Agree, How, going, finished, lacking, stopped}
use Rattle.json_lines.specs.Answers.{AfterReply, AnswersFrom, AnswersPiece, AnswersShort, AnswersValues, IsJsonAnswer}
use Rattle.json_lines.specs.Answers.{IsValueReply, RefusesLine, exchanged, fitted, kept, longest, onto, opens}
use Rattle.json_lines.specs.Path.{PathStep}
use Rattle.json_lines.specs.Pieces.{after_piece, first_piece}
use Rattle.json_lines.specs.Places.{Frame, after, is_at}
use Rattle.json_lines.specs.Run.{Answers, AnswersLines, MakesBy, MakesLines, Standing, standing_of}
use Rattle.json_lines.specs.Told.{SeesLines, Sight}
use Rattle.json_lines.specs.declared.splitter.JsonLines.{JsonLines}
use Rattle.json_lines.specs.declared.task.Form.{Form}

-- a meaning gives at most one answer
abbrev pub IsOne : (List ℕ → AnswerText → Type 0) → Type 0
IsOne A = (value : List ℕ) (a b : AnswerText) → A value a → A value b → a ≡ b

after_one : (fault : Bool) (reply : AnswerText) (text : List ℕ) (More : AnswerText → Type 0)
    → ((a b : AnswerText) → More a → More b → a ≡ b) → (a b : AnswerText) → AfterReply fault reply text More a
    → AfterReply fault reply text More b → a ≡ b
after_one true reply text More one a b x y = x ∙ sym y
after_one false reply text More one a b x y = x.2 ∙ (ap (onto text) (one x.0 y.0 x.1 y.1) ∙ sym y.2)

value_one : (opening : Bool) (A : List ℕ → AnswerText → Type 0) → IsOne A → (piece : List ℕ) (a b : AnswerText)
    → IsValueReply opening A piece a → IsValueReply opening A piece b → a ≡ b
value_one true A one piece a b x y = x ∙ sym y
value_one false A one piece a b x y = one _ a b x y

piece_one : (at quotes : Bool) (A : List ℕ → AnswerText → Type 0) → IsOne A → (piece : List ℕ)
    (More : AnswerText → Type 0) → ((a b : AnswerText) → More a → More b → a ≡ b) → (a b : AnswerText)
    → AnswersPiece at quotes A piece More a → AnswersPiece at quotes A piece More b → a ≡ b
piece_one true quotes A one piece More more_one a b x y =
    let same : x.0 ≡ y.0 = value_one (opens piece) A one piece x.0 y.0 x.1 y.1 in
    after_one x.0.fault x.0 (exchanged quotes piece x.0.text) More more_one a b x.2
    (subst (λ (r : AnswerText). AfterReply r.fault r (exchanged quotes piece r.text) More b) (sym same) y.2)
piece_one false quotes A one piece More more_one a b x y =
    x.2 ∙ (ap (onto piece) (more_one x.0 y.0 x.1 y.1) ∙ sym y.2)

module _ (steps : List PathStep) (quotes : Bool) (A : List ℕ → AnswerText → Type 0) (one : IsOne A) where
  from_one : (n : ℕ) (frames : List Frame) (found : Bool) (bytes : List ℕ) (a b : AnswerText)
      → AnswersFrom steps quotes A n frames found bytes a → AnswersFrom steps quotes A n frames found bytes b → a ≡ b
  unfolding AnswersFrom
  from_one n frames found [] a b x y = x ∙ sym y
  from_one zero frames found (c ∷ bytes) a b x y = absurd x
  from_one (suc n) frames found (c ∷ bytes) a b x y =
      let piece = first_piece (c ∷ bytes) in
      let rest = after_piece (c ∷ bytes) in
      let at = is_at steps frames piece rest in
      piece_one at quotes A one piece (AnswersFrom steps quotes A n (after frames piece rest) (found || at) rest)
      (from_one n (after frames piece rest) (found || at) rest) a b x y

  read_one : (line : List ℕ) (a b : AnswerText) → (RefusesLine line a ⊎ AnswersValues steps quotes A line a)
      → (RefusesLine line b ⊎ AnswersValues steps quotes A line b) → a ≡ b
  read_one line a b (inl x) (inl y) = x.is ∙ sym y.is
  read_one line a b (inl x) (inr y) = absurd (x.other y.json)
  read_one line a b (inr x) (inl y) = absurd (y.other x.json)
  read_one line a b (inr x) (inr y) = x.fits
      ∙ (ap fitted (from_one (length line) [] false line x.whole y.whole x.is y.is) ∙ sym y.fits)

module _ (steps : List PathStep) (form : Form) (A : List ℕ → AnswerText → Type 0) (one : IsOne A) where
  short_one : (long blank : Bool) (line : List ℕ) (a b : AnswerText) → AnswersShort long blank steps form A line a
      → AnswersShort long blank steps form A line b → a ≡ b
  short_one true blank line a b x y = x ∙ sym y
  short_one false true line a b x y = x ∙ sym y
  short_one false false line a b x y = x.2
      ∙ (ap (kept form.keeps line) (read_one steps form.quotes A one line x.0 y.0 x.1 y.1) ∙ sym y.2)

  pub json_answer_one : IsOne (IsJsonAnswer steps form A)
  json_answer_one line a b x y = short_one (not (nat_le (length line) longest)) (is_skipped form.layout.now line) line
      a b x y

-- lines have one text, and one of them was refused or not
pub record AreSame (made other : List ℕ) (f g : Bool) : Type 0 where
  pub text : made ≡ other
  pub fault : f ≡ g

lines_one : (B : List ℕ → AnswerText → Type 0) → IsOne B → (ls : List (List ℕ)) (made other : List ℕ) (f g : Bool)
    → AnswersLines B ls made f → AnswersLines B ls other g → AreSame made other f g
lines_one B one ls made other f g x y =
    let same : x.replies ≡ y.replies = answers_one B one ls x.replies y.replies x.answers y.answers in
    record {
      text = x.text_is ∙ (ap written_of same ∙ sym y.text_is);
      fault = x.faulty ∙ (ap any_fault same ∙ sym y.faulty);
    }

-- a machine makes one text of some bytes
made_by : {W : Type 0} (B : List ℕ → AnswerText → Type 0) (Sees : ℕ → List (List ℕ) → W → W → Type 0) → IsOne B
    → (first a b : Standing W) (bytes made other : List ℕ) (how then : How Infallible)
    → MakesLines B Sees first bytes made how a → MakesLines B Sees first bytes other then b → Agree how made then other
made_by B Sees one first a b bytes made other going going p q =
    (lines_one B one (ended_lines bytes) made other a.has_fault b.has_fault p.made q.made).text
made_by B Sees one first a b bytes made other going (finished g) p q = tt
made_by B Sees one first a b bytes made other going lacking p q = tt
made_by B Sees one first a b bytes made other going (stopped late t) p q = absurd q
made_by B Sees one first a b bytes made other (finished f) going p q = tt
made_by B Sees one first a b bytes made other (finished f) (finished g) p q =
    let same = lines_one B one (lines bytes) made other f g p.0 q.0 in
    (same.text, same.fault)
made_by B Sees one first a b bytes made other (finished f) lacking p q = tt
made_by B Sees one first a b bytes made other (finished f) (stopped late t) p q = absurd q
made_by B Sees one first a b bytes made other lacking then p q = tt
made_by B Sees one first a b bytes made other (stopped late s) then p q = absurd p

pub made_one : {R W : Type 0} (A : List ℕ → AnswerText → Type 0) (Saw : Sight W) → IsOne A
    → (first a b : JsonLines R W) (bytes made other : List ℕ) (spent cost : ℕ) (how then : How Infallible)
    → MakesBy A Saw first bytes made spent how a → MakesBy A Saw first bytes other cost then b
    → Agree how made then other
made_one A Saw one first a b bytes made other spent cost how then p q =
    made_by (Answers A first.task.now) (SeesLines first.task.now A Saw) (json_answer_one _ first.task.now.form A one)
    (standing_of first) (standing_of a) (standing_of b) bytes made other how then p.1 q.1
