-- Runs that first pass over lines: the input determines these lines, the output and the end.
use Rattle.std.proofs.Common.{◌≡◌, ◌==◌, ◌<◌, ◌+◌, ◌-◌, ℕ, suc, List, [], ◌∷◌, ◌++◌, refl, sym, ap, ◌∙◌, subst, append-nil, arith, if◌then◌else◌, length, length-append, inl, inr, get_or}
use Rattle.std.specs.Prelude.{Option, Some, None}
use Rattle.line_engine.specs.AnswerText.{AnswerText}
use Rattle.column_engine.specs.Answers.{State}
use Rattle.column_engine.specs.Laws.{LinesAreTheOnes, OutputIsTheOne, RunEndIsTheOne}
use Rattle.column_engine.specs.Run.{HasRun}
use Rattle.column_engine.specs.Skip.{AreFirst, AreWhole, HasRunAfter, PassesLines, StopsLines, newlines}
use Rattle.column_engine.specs.Steps.{SameCounts}
use Rattle.column_engine.specs.declared.columns.Column.{Column}
use Rattle.column_engine.specs.declared.columns.Keeping.{Keeping}
use Rattle.column_engine.specs.declared.end.Stop.{Stop}
use Rattle.column_engine.specs.declared.end.Stop.TheVariants.{Done, NoColumn, NoMemory, NoName, ReadFault, TooLong, Unclosed, WriteFault}
use Rattle.column_engine.specs.Limits.{longest_text}
use Rattle.column_engine.proofs.EndLemmas.{IsCalm, calm_one, ends_by_failures, never_read, never_write}
use Rattle.column_engine.proofs.UniqueLemmas.{head_is, left_cancel, run_one, tail_is}

-- ---- the first lines
newlines_both : (xs ys : List ℕ) → newlines (xs ++ ys) ≡ newlines xs + newlines ys
newlines_both [] ys = omega arith
newlines_both (x ∷ xs) ys = omega (arith, newlines_both xs ys)

-- whole lines, unless empty, contain a newline
last_counts : (x : ℕ) (xs : List ℕ) → get_or (x ∷ xs) (length xs) 0 ≡ 10 → 0 < newlines (x ∷ xs)
last_counts x [] is = rw is (omega arith)
last_counts x (y ∷ ys) is = omega (arith, last_counts y ys is)

whole_counts : (x : ℕ) (xs : List ℕ) → AreWhole (x ∷ xs) → 0 < newlines (x ∷ xs)
whole_counts x xs (inl none) = absurd (omega (arith, ap length none))
whole_counts x xs (inr last) =
    let place : length (x ∷ xs) - 1 ≡ length xs = omega arith in
    last_counts x xs (subst (λ n. get_or (x ∷ xs) n 0 ≡ 10) place last)

whole_rest : (x : ℕ) (xs : List ℕ) → AreWhole (x ∷ xs) → AreWhole xs
whole_rest x xs (inl none) = absurd (omega (arith, ap length none))
whole_rest x [] (inr last) = inl refl
whole_rest x (y ∷ ys) (inr last) =
    let place : length (x ∷ y ∷ ys) - 1 ≡ suc (length ys) = omega arith in
    let next : length (y ∷ ys) - 1 ≡ length ys = omega arith in
    inr (ap (λ n. get_or (y ∷ ys) n 0) next ∙ subst (λ n. get_or (x ∷ y ∷ ys) n 0 ≡ 10) place last)

abbrev newline_of : ℕ → ℕ
newline_of byte = if byte == 10 then 1 else 0

whole_one : (xs ys rest rest' : List ℕ) → newlines xs ≡ newlines ys → AreWhole xs → AreWhole ys → xs ++ rest ≡ ys ++ rest' → xs ≡ ys
whole_one [] [] rest rest' same whole whole' e = refl
whole_one [] (y ∷ ys) rest rest' same whole whole' e = absurd (omega (arith, same, whole_counts y ys whole'))
whole_one (x ∷ xs) [] rest rest' same whole whole' e = absurd (omega (arith, same, whole_counts x xs whole))
whole_one (x ∷ xs) (y ∷ ys) rest rest' same whole whole' e =
    let first = head_is x y (xs ++ rest) (ys ++ rest') e in
    let count : newline_of x ≡ newline_of y = ap newline_of first in
    ap (λ b. b ∷ xs) first
    ∙ ap (λ l. y ∷ l) (whole_one xs ys rest rest' (omega (arith, same, count)) (whole_rest x xs whole) (whole_rest y ys whole') (tail_is x y (xs ++ rest) (ys ++ rest') e))

at_end : (xs rest : List ℕ) → rest ≡ [] → xs ++ rest ≡ xs
at_end xs rest is = ap (λ l. xs ++ l) is ∙ append-nil xs

first_one : (count : ℕ) (xs ys rest rest' : List ℕ) → xs ++ rest ≡ ys ++ rest' → AreFirst count xs (Some rest) → AreFirst count ys (Some rest') → xs ≡ ys
first_one count xs ys rest rest' e (inl first) (inl next) = whole_one xs ys rest rest' (first.0 ∙ sym next.0) first.1 next.1 e
first_one count xs ys rest rest' e (inl first) (inr next) =
    absurd (omega (arith, first.0, next.0, newlines_both xs rest, ap newlines (e ∙ at_end ys rest' next.1)))
first_one count xs ys rest rest' e (inr first) (inl next) =
    absurd (omega (arith, next.0, first.0, newlines_both ys rest', ap newlines (sym e ∙ at_end xs rest first.1)))
first_one count xs ys rest rest' e (inr first) (inr next) = sym (at_end xs rest first.1) ∙ e ∙ at_end ys rest' next.1

pub lines_are_the_ones : LinesAreTheOnes
lines_are_the_ones count xs ys rest rest' e first next =
    let same = first_one count xs ys rest rest' e first next in
    (same, left_cancel xs rest rest' (e ∙ ap (λ l. l ++ rest') (sym same)))

-- ---- the run after these lines
module _ (A : List ℕ → AnswerText → Type 0) (one : (field : List ℕ) (a b : AnswerText) → A field a → A field b → a ≡ b) (keeps : Keeping) (d : ℕ) (columns : List Column) where
  -- a run over the rest of the input after its first lines, which were written
  pub record RunsAfter (count : ℕ) (stop : Stop) (s u : State) (input before a : List ℕ) (left : Option (List ℕ)) : Type 0 where
    pub bytes : List ℕ
    pub rest : List ℕ
    pub cut : input ≡ bytes ++ rest
    pub first : AreFirst count bytes (Some rest)
    pub run : HasRun stop A keeps d columns s u (Some rest) left (Some (before ++ bytes)) (Some a)

  known : (count : ℕ) (stop : Stop) (s u : State) (input before a : List ℕ) (left between shown : Option (List ℕ)) → PassesLines count (Some input) between (Some before) shown
      → HasRun stop A keeps d columns s u between left shown (Some a) → RunsAfter count stop s u input before a left
  known count stop s u input before a left None shown passes run = absurd passes.taken
  known count stop s u input before a left (Some rest) None passes run = absurd passes.wrote
  known count stop s u input before a left (Some rest) (Some text) passes run = record {
    bytes = passes.bytes;
    rest = rest;
    cut = passes.taken;
    first = passes.first;
    run = subst (λ w. HasRun stop A keeps d columns s u (Some rest) left (Some w) (Some a)) passes.wrote run;
  }

  same_lines : (count : ℕ) (stop other : Stop) (s t u : State) (input before a b : List ℕ) (left left' : Option (List ℕ)) (first : RunsAfter count stop s t input before a left)
      (next : RunsAfter count other s u input before b left') → (first.bytes ≡ next.bytes) × (first.rest ≡ next.rest)
  same_lines count stop other s t u input before a b left left' first next =
      lines_are_the_ones count first.bytes next.bytes first.rest next.rest (sym first.cut ∙ next.cut) first.first next.first

  -- both runs start at the same byte, so the first is also a run over the second's rest
  moved : (count : ℕ) (stop other : Stop) (s t u : State) (input before a b : List ℕ) (left left' : Option (List ℕ)) (first : RunsAfter count stop s t input before a left)
      (next : RunsAfter count other s u input before b left') → HasRun stop A keeps d columns s t (Some next.rest) left (Some (before ++ next.bytes)) (Some a)
  moved count stop other s t u input before a b left left' first next =
      let same = same_lines count stop other s t u input before a b left left' first next in
      subst (λ l. HasRun stop A keeps d columns s t (Some next.rest) left (Some (before ++ l)) (Some a)) same.0
      (subst (λ l. HasRun stop A keeps d columns s t (Some l) left (Some (before ++ first.bytes)) (Some a)) same.1 first.run)

  done_after : (count : ℕ) (s u : State) (input before a : List ℕ) (left : Option (List ℕ)) → HasRunAfter count Done A keeps d columns s u (Some input) left (Some before) (Some a)
      → RunsAfter count Done s u input before a left
  done_after count s u input before a left (inl stops) = absurd stops.0.why
  done_after count s u input before a left (inr runs) = known count Done s u input before a left runs.0 runs.1 runs.2 runs.3

  pub output_one : (count : ℕ) (s t u : State) (input left left' before a b : List ℕ) → HasRunAfter count Done A keeps d columns s t (Some input) (Some left) (Some before) (Some a)
      → HasRunAfter count Done A keeps d columns s u (Some input) (Some left') (Some before) (Some b) → (a ≡ b) × SameCounts t u
  output_one count s t u input left left' before a b x y =
      let first = done_after count s t input before a (Some left) x in
      let next = done_after count s u input before b (Some left') y in
      run_one A one keeps d columns s t u next.rest left left' (before ++ next.bytes) a b
      (moved count Done Done s t u input before a b (Some left) (Some left') first next) next.run

  not_lines : (count : ℕ) (stop : Stop) (input left : List ℕ) (written written' : Option (List ℕ)) → length input < longest_text → IsCalm stop
      → StopsLines stop count (Some input) (Some left) written written' → ⊥
  not_lines count TooLong input left written written' short calm stops =
      absurd (omega (arith, short, stops.why.0, ap length stops.taken, length-append stops.bytes left))
  not_lines count Done input left written written' short calm stops = stops.why
  not_lines count ReadFault input left written written' short calm stops = never_read calm
  not_lines count WriteFault input left written written' short calm stops = never_write calm
  not_lines count NoMemory input left written written' short calm stops = stops.why
  not_lines count Unclosed input left written written' short calm stops = stops.why
  not_lines count (NoColumn columns) input left written written' short calm stops = stops.why
  not_lines count NoName input left written written' short calm stops = stops.why

  calm_after : (count : ℕ) (stop : Stop) (s u : State) (input left before a : List ℕ) → length input < longest_text → IsCalm stop
      → HasRunAfter count stop A keeps d columns s u (Some input) (Some left) (Some before) (Some a) → RunsAfter count stop s u input before a (Some left)
  calm_after count stop s u input left before a short calm (inl stops) = absurd (not_lines count stop input left (Some before) (Some a) short calm stops.0)
  calm_after count stop s u input left before a short calm (inr runs) = known count stop s u input before a (Some left) runs.0 runs.1 runs.2 runs.3

  pub calm_both : (count : ℕ) (stop other : Stop) (s t u : State) (input left before a b : List ℕ) → length input < longest_text → IsCalm stop → IsCalm other
      → HasRunAfter count stop A keeps d columns s t (Some input) (Some left) (Some before) (Some a) → HasRunAfter count other A keeps d columns s u (Some input) (Some left) (Some before) (Some b)
      → stop ≡ other
  calm_both count stop other s t u input left before a b short calm calm' x y =
      let first = calm_after count stop s t input left before a short calm x in
      let next = calm_after count other s u input left before b short calm' y in
      let fewer : length next.rest < longest_text = omega (arith, short, ap length next.cut, length-append next.bytes next.rest) in
      calm_one A one keeps d columns stop other s t u next.rest left (before ++ next.bytes) a b fewer calm calm'
      (moved count stop other s t u input before a b (Some left) (Some left) first next) next.run

pub output_is_the_one : (A : List ℕ → AnswerText → Type 0) → ((field : List ℕ) (a b : AnswerText) → A field a → A field b → a ≡ b) → OutputIsTheOne A
output_is_the_one A one skipped keeps d columns s t u input left left' before a b first next = output_one A one keeps d columns skipped s t u input left left' before a b first next

pub run_end_is_the_one : (A : List ℕ → AnswerText → Type 0) → ((field : List ℕ) (a b : AnswerText) → A field a → A field b → a ≡ b) → RunEndIsTheOne A
run_end_is_the_one A one skipped keeps d columns s t u input left before a b read read' write write' stop other short can_read can_write found found' first f next g =
    ends_by_failures read read' write write' can_read can_write stop other found found' f g
    (λ calm calm'. calm_both A one keeps d columns skipped stop other s t u input left before a b short calm calm' first next)
