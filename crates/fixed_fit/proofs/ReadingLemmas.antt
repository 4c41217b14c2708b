-- What the reader keeps after more bytes, and the answer at the end of an input.
use Rattle.std.proofs.Common.{◌≡◌, ℕ, ◌+◌, true, List, [], ◌∷◌, ◌++◌, length, append-nil, map, max, Option, None, Some, Result, Ok, Err, is_some, refl, sym, ap, ◌∙◌, subst, arith}
use Rattle.std.proofs.lemmas.List.{map-append}
use Rattle.std.specs.Global.{Vec}
use Rattle.std.specs.declared.convert.Infallible.{Infallible}
use Rattle.line_engine.proofs.Public.{ended_lines_line, ended_lines_quiet, unended_line, unended_quiet}
use Rattle.line_engine.specs.AnswerText.{AnswerText}
use Rattle.line_engine.specs.Lines.{ended_lines, last_line, lines, unended}
use Rattle.run_engine.proofs.Public.{puts_none}
use Rattle.run_engine.specs.Machines.{Goes, How, going, finished, lacking}
use Rattle.run_engine.specs.Seen.{Seen, moment}
use Rattle.fixed_bits.specs.Ranges.{IsWidth}
use Rattle.fixed_command.specs.LaidList.{laid, laid_out}
use Rattle.fixed_command.specs.Layout.{LineLayout}
use Rattle.fixed_error.specs.Errors.{HasGreatestErrors}
use Rattle.fixed_numeral.specs.declared.radix.Radix.{Radix}
use Rattle.fixed_fit.specs.Inner.Progress.{HasProgress}
use Rattle.fixed_fit.specs.Inner.Reading.{HasLines, HasRead}
use Rattle.fixed_fit.specs.Inner.Serving.{AreServed, Asked}
use Rattle.fixed_fit.specs.Run.{Answers, IsAnswerTo, MakesBy, asked_by}
use Rattle.fixed_fit.specs.Unfit.{said, why_of}
use Rattle.fixed_fit.specs.declared.answer.Unfit.{Unfit}
use Rattle.fixed_fit.specs.declared.question.Question.{Question}
use Rattle.fixed_fit.specs.declared.question.Widths.{Widths}
use Rattle.fixed_fit.specs.declared.reader.FitList.{FitList}
use Rattle.fixed_fit.specs.declared.reader.Reader.{Reader}
use Rattle.fixed_fit.proofs.LaidLemmas.{laid_lines}
use Rattle.fixed_fit.proofs.BoundedUniqueLemmas.{bounded_answer_is_the_one}
use Rattle.fixed_fit.proofs.UniqueLemmas.{answer_is_the_one}

-- the rest of a line, with its newline
pub line_read : (r : Radix) (a : Asked) (l : Option LineLayout) (whole part : List ℕ) (old new : Reader) → ended_lines part ≡ [] → new.line.items ≡ [] → new.layout ≡ old.layout
    → ((m : Asked) (done : List (List ℕ)) → HasLines r m done old → HasLines r m (done ++ laid old.layout (old.line.items ++ part) ∷ []) new) → HasRead r a l whole old → HasRead r a l (whole ++ (part ++ 10 ∷ [])) new
line_read r a l whole part old new quiet clear same more h =
    let N : List (List ℕ) → Type 0 = λ x. HasLines r a x new in
    let done : List (List ℕ) = map (laid l) (ended_lines whole) in
    let grown : done ++ laid old.layout (old.line.items ++ part) ∷ [] ≡ map (laid l) (ended_lines (whole ++ (part ++ 10 ∷ []))) =
    ap (λ k. done ++ laid k (old.line.items ++ part) ∷ []) h.layout ∙ ap (λ x. done ++ laid l (x ++ part) ∷ []) h.line
    ∙ sym (map-append (laid l) (ended_lines whole) ((unended whole ++ part) ∷ [])) ∙ ap (λ x. map (laid l) x) (sym (ended_lines_line whole part [] quiet)) in
    record { layout = same ∙ h.layout; line = clear ∙ sym (unended_line whole part [] quiet); lines = subst N grown (more a done h.lines) }

-- bytes within a line
pub part_read : (r : Radix) (a : Asked) (l : Option LineLayout) (whole part : List ℕ) (old new : Reader) → ended_lines part ≡ [] → new.line.items ≡ old.line.items ++ part → new.layout ≡ old.layout
    → (HasLines r a (map (laid l) (ended_lines whole)) old → HasLines r a (map (laid l) (ended_lines whole)) new) → HasRead r a l whole old → HasRead r a l (whole ++ part) new
part_read r a l whole part old new quiet grown layout same h =
    let N : List (List ℕ) → Type 0 = λ x. HasLines r a (map (laid l) x) new in
    record { layout = layout ∙ h.layout; line = grown ∙ ap (λ x. x ++ part) h.line ∙ sym (unended_quiet whole part quiet); lines = subst N (sym (ended_lines_quiet whole part quiet)) (same h.lines) }

-- the end of an input
some_last : (rest : List ℕ) → (rest ≡ [] → ⊥) → last_line rest ≡ rest ∷ []
some_last [] some = absurd (some refl)
some_last (b ∷ bs) some = refl

pub ends_empty : (r : Radix) (n : Asked) (l : Option LineLayout) (whole : List ℕ) (reader : Reader) → reader.line.items ≡ [] → HasRead r n l whole reader → HasLines r n (map (laid l) (lines whole)) reader
ends_empty r n l whole reader none h =
    let N : List (List ℕ) → Type 0 = λ x. HasLines r n (map (laid l) x) reader in
    let same : lines whole ≡ ended_lines whole = ap (λ u. ended_lines whole ++ last_line u) (sym h.line ∙ none) ∙ append-nil (ended_lines whole) in
    subst N (sym same) h.lines

pub ends_line : (r : Radix) (a : Asked) (l : Option LineLayout) (whole : List ℕ) (reader after : Reader) → (reader.line.items ≡ [] → ⊥)
    → ((m : Asked) (done : List (List ℕ)) → HasLines r m done reader → HasLines r m (done ++ laid reader.layout (reader.line.items ++ []) ∷ []) after) → HasRead r a l whole reader → HasLines r a (map (laid l) (lines whole)) after
ends_line r a l whole reader after some more h =
    let N : List (List ℕ) → Type 0 = λ x. HasLines r a x after in
    let done : List (List ℕ) = map (laid l) (ended_lines whole) in
    let last : last_line (unended whole) ≡ unended whole ∷ [] = some_last (unended whole) (λ e. some (h.line ∙ e)) in
    let grown : done ++ laid reader.layout (reader.line.items ++ []) ∷ [] ≡ map (laid l) (lines whole) =
    ap (λ k. done ++ laid k (reader.line.items ++ []) ∷ []) h.layout ∙ ap (λ x. done ++ laid l x ∷ []) (append-nil reader.line.items ∙ h.line)
    ∙ sym (map-append (laid l) (ended_lines whole) (unended whole ∷ [])) ∙ ap (λ x. map (laid l) (ended_lines whole ++ x)) (sym last) in
    subst N grown (more a done h.lines)

pub nil_of : (xs : List ℕ) → length xs ≡ 0 → xs ≡ []
nil_of [] e = refl
nil_of (x ∷ xs) e = absurd (omega (arith, e))

-- before the first byte
pub fresh_reader : (r : Radix) (a : Asked) (l : Option LineLayout) (reader : Reader) (count : ℕ) → IsWidth a.width → reader.layout ≡ l → reader.line.items ≡ [] → HasProgress a.width [] reader.progress → reader.progress.radix ≡ r → reader.progress.fractions ≡ a.fractions → count ≡ max reader.progress.plain.count reader.progress.signed.count
    → HasGreatestErrors r count [] reader.errors → reader.within.is_bounded ≡ a.is_bounded → (a.is_bounded ≡ true → AreServed r a [] reader.within) → HasRead r a l [] reader
fresh_reader r a l reader count width layout none progress radix fractions is errors bounded served = record {
  layout = layout;
  line = none;
  lines = record {
    width = width;
    progress = progress;
    radix = radix;
    fractions = fractions;
    errors = λ _. subst (λ (n : ℕ). HasGreatestErrors r n [] reader.errors) is errors;
    is_bounded = bounded;
    within = λ yes _. served yes;
  };
}

-- ---- the machine
-- the machine writes nothing for some bytes
pub silent : (first last : FitList) (bytes made next : List ℕ) (spent : ℕ) (how : How Infallible) (s : Seen) (held : List ℕ) (n m : ℕ) → MakesBy first (bytes ++ next) (made ++ []) (spent + m) how last → Goes (MakesBy first) bytes made spent next how last (moment s held n) (moment s held m)
silent first last bytes made next spent how s held n m makes = record { more = []; cost = m; makes = makes; puts = puts_none s held; steps = omega arith }

none_more : (made : List ℕ) → made ≡ [] → made ++ [] ≡ []
none_more made none = append-nil made ∙ none

pub makes_on : (first old new : FitList) (bytes made next : List ℕ) (spent cost : ℕ) → MakesBy first bytes made spent going old → new.question ≡ old.question → new.widths ≡ old.widths → new.bound ≡ old.bound
    → (HasRead first.question.radix (asked_by first.question first.widths first.bound.items) first.reader.layout bytes old.reader → HasRead first.question.radix (asked_by first.question first.widths first.bound.items) first.reader.layout (bytes ++ next) new.reader)
    → MakesBy first (bytes ++ next) (made ++ []) cost going new
makes_on first old new bytes made next spent cost makes question widths bound more = (question ∙ makes.0, widths ∙ makes.1, bound ∙ makes.2, (none_more made makes.3.0, more makes.3.1))

pub lacks : (first old new : FitList) (bytes made next : List ℕ) (spent cost : ℕ) → MakesBy first bytes made spent going old → new.question ≡ old.question → new.widths ≡ old.widths → new.bound ≡ old.bound → MakesBy first (bytes ++ next) (made ++ []) cost lacking new
lacks first old new bytes made next spent cost makes question widths bound = (question ∙ makes.0, widths ∙ makes.1, bound ∙ makes.2, none_more made makes.3.0)

-- what the reader keeps, by the machine's own question
pub own : (first last : FitList) (bytes made : List ℕ) (spent : ℕ) → MakesBy first bytes made spent going last → HasRead last.question.radix (asked_by last.question last.widths last.bound.items) first.reader.layout bytes last.reader
own first last bytes made spent makes =
    let Q : Question → Option Widths → List ℕ → Type 0 = λ q w b. HasRead q.radix (asked_by q w b) first.reader.layout bytes last.reader in
    let bound : last.bound.items ≡ first.bound.items = ap (λ (v : Vec ℕ). v.items) makes.2 in
    subst (λ q. Q q last.widths last.bound.items) (sym makes.0) (subst (λ w. Q first.question w last.bound.items) (sym makes.1) (subst (λ b. Q first.question first.widths b) (sym bound) makes.3.1))

-- at the end, the machine writes the only answer
answer_one : (q : Question) (widths : Option Widths) (bound input : List ℕ) (a b : AnswerText) → IsAnswerTo q widths bound input a → IsAnswerTo q widths bound input b → a ≡ b
answer_one q None bound input a b x y = answer_is_the_one q input a b x y
answer_one q (Some widths) bound input a b x y = bounded_answer_is_the_one q widths bound input a b x y

faulty : (answer : Result (List ℕ) Unfit) → is_some (why_of answer) ≡ (said answer).fault
faulty (Ok text) = refl
faulty (Err unfit) = refl

answers : (q : Question) (widths : Option Widths) (bound input made : List ℕ) (answer : Result (List ℕ) Unfit) (unfit : Option Unfit) → made ≡ [] → IsAnswerTo q widths bound input (said answer) → unfit ≡ why_of answer
    → Answers q widths bound input (made ++ (said answer).text) (is_some unfit) unfit
answers q widths bound input made answer unfit none is why = record {
  answer = answer;
  is = is;
  one = λ other h. answer_one q widths bound input other (said answer) h is;
  text_is = ap (λ l. l ++ (said answer).text) none;
  fault_is = ap is_some why ∙ faulty answer;
  unfit_is = why;
}

pub ends_by : (first old : FitList) (after : Reader) (bytes made : List ℕ) (spent cost : ℕ) (answer : Result (List ℕ) Unfit) (unfit : Option Unfit) → MakesBy first bytes made spent going old
    → ((r : Radix) (a : Asked) (l : Option LineLayout) (whole : List ℕ) → HasRead r a l whole old.reader → HasLines r a (map (laid l) (lines whole)) after)
    → ((input : List ℕ) → HasLines old.question.radix (asked_by old.question old.widths old.bound.items) (lines input) after → IsAnswerTo old.question old.widths old.bound.items input (said answer)) → unfit ≡ why_of answer
    → MakesBy first (bytes ++ []) (made ++ (said answer).text) cost (finished (is_some unfit)) (record { question = old.question; widths = old.widths; bound = old.bound; reader = after; unfit = unfit })
ends_by first old after bytes made spent cost answer unfit makes ended is why =
    let l = first.reader.layout in
    let lines_are = ended old.question.radix (asked_by old.question old.widths old.bound.items) l bytes (own first old bytes made spent makes) in
    let L : List (List ℕ) → Type 0 = λ x. HasLines old.question.radix (asked_by old.question old.widths old.bound.items) x after in
    let here = answers old.question old.widths old.bound.items (laid_out l bytes) made answer unfit makes.3.0 (is (laid_out l bytes) (subst L (sym (laid_lines l bytes)) lines_are)) why in
    let A : Question → Option Widths → List ℕ → List ℕ → Type 0 = λ q w b input. Answers q w b (laid_out l input) (made ++ (said answer).text) (is_some unfit) unfit in
    let bound : old.bound.items ≡ first.bound.items = ap (λ (v : Vec ℕ). v.items) makes.2 in (
      makes.0,
      makes.1,
      makes.2,
      subst (λ input. A first.question first.widths first.bound.items input) (sym (append-nil bytes))
          (subst (λ b. A first.question first.widths b bytes) bound (subst (λ w. A first.question w old.bound.items bytes) makes.1 (subst (λ q. A q old.widths old.bound.items bytes) makes.0 here))),
    )
