-- The outcome of a run over lines, and its status, in the terms of `line_engine`.
use Rattle.std.proofs.Common.{◌≡◌, ◌⊎◌, ℕ, zero, suc, ◌+◌, ◌*◌, ◌≤◌, ◌||◌, Bool, true, false, List, [], ◌∷◌, ◌++◌, length, take, drop, refl, sym, ap, ◌∙◌, subst, arith, inl, inr, append-nil, append_assoc, mul-le-mul_left}
use Rattle.std.proofs.lemmas.List.{take_all, take-append-drop}
use Rattle.std.specs.declared.convert.Infallible.{Infallible}
use Rattle.std.specs.Io.KnownBytes.{Appends, IsAtEnd}
use Rattle.line_engine.specs.Appended.{AppendsPrefix}
use Rattle.line_engine.specs.AnswerText.{AnswerText}
use Rattle.line_engine.specs.Inner.Progress.{bytes_in}
use Rattle.line_engine.specs.Lines.{ended_lines, lines, unended}
use Rattle.line_engine.specs.Output.{AreAnswers, any_fault}
use Rattle.line_engine.specs.Run.{AnswersPrefix, HasFailures, HasRun as OldRun, Spends}
use Rattle.line_engine.specs.declared.status.Status.{Status}
use Rattle.line_engine.specs.declared.status.Status.TheVariants as status
use Rattle.run_engine.specs.LineRun.{AnswersLines, MakesLines}
use Rattle.run_engine.specs.LineStatus.{IsStatus}
use Rattle.run_engine.specs.Machines.{How, UsesNext, going, finished, lacking, stopped}
use Rattle.run_engine.specs.Run.{Failed, Fails, HasRun, Made, UsesAll}
use Rattle.run_engine.specs.Seen.{Moment, Seen}
use Rattle.run_engine.specs.declared.engine.End.{End}
use Rattle.run_engine.specs.declared.engine.End.TheVariants.{Done, Faults, ReadFault, WriteFault, NoMemory, TooLong, Stopped}
use Rattle.run_engine.specs.declared.lines.Lines.{Lines}
use Rattle.run_engine.specs.declared.pieces.Cut.{Cut}
use Rattle.line_engine.proofs.Public.{ended_lines-append}
use Rattle.run_engine.proofs.LineCountLemmas.{ended_within, lines_within}

-- the meaning of the machine of lines
abbrev pub LinesMake : {R W T : Type 0} → (List ℕ → AnswerText → Type 0) → (List ℕ → AnswerText → T → Type 0) → (W → ℕ → List ℕ → T → W → Type 0) → ℕ → ℕ → Lines R W
    → List ℕ → List ℕ → ℕ → How Infallible → Cut (Lines R W) → Type 0
LinesMake A Is Saw per_byte extra first bytes text spent how last = MakesLines A Is Saw per_byte extra first bytes text spent how last.0

-- no bytes are beyond the limit if all are within it
nothing_after : (limit : ℕ) (bytes : List ℕ) → length bytes ≤ limit → drop limit bytes ≡ []
nothing_after limit [] fits = nothing_dropped limit
  where
    nothing_dropped : (n : ℕ) → ◌≡◌ {A = List ℕ} (drop n []) []
    nothing_dropped zero = refl
    nothing_dropped (suc n) = refl
nothing_after zero (b ∷ bytes) fits = absurd (omega arith)
nothing_after (suc n) (b ∷ bytes) fits = nothing_after n bytes (omega arith)

module _ {R W T : Type 0} (A : List ℕ → AnswerText → Type 0) (Is : List ℕ → AnswerText → T → Type 0) (Saw : W → ℕ → List ℕ → T → W → Type 0) (per_byte extra : ℕ) (first : Lines R W) (last : Cut (Lines R W)) (limit : ℕ) (a b : Moment) where
  fault_of : first.has_fault ≡ false → (ls : List (List ℕ)) (text : List ℕ) (spent : ℕ) (fault : Bool) → (made : AnswersLines A Is Saw per_byte extra first ls text spent last.0) → fault ≡ last.0.has_fault → any_fault made.replies ≡ fault
  fault_of none ls text spent fault made is = sym (is ∙ made.faulty ∙ ap (λ f. f || any_fault made.replies) none)

  -- writing was cut short
  cut_short : Fails (LinesMake A Is Saw per_byte extra first) last limit a b → OldRun A limit a.seen.left b.seen.left a.seen.written b.seen.written status.WriteFault
  cut_short f = record { bytes = f.bytes; taken = f.consumed; cut_short = by f.how f.makes f.uses }
    where
      by : (how : How Infallible) → LinesMake A Is Saw per_byte extra first f.some f.text f.spent how last → UsesAll how limit f.bytes f.rest b.seen.left
          → AnswersPrefix A (ended_lines (take limit f.bytes)) a.seen.written b.seen.written ⊎ (IsAtEnd b.seen.left × (length f.bytes ≤ limit) × AnswersPrefix A (lines f.bytes) a.seen.written b.seen.written)
      by going m u = inl (record {
        some = ended_lines f.some;
        more = ended_lines (unended f.some ++ f.rest);
        cut = ap ended_lines f.cut ∙ ended_lines-append f.some f.rest;
        replies = m.made.replies;
        answers = m.made.answers;
        output = subst (AppendsPrefix a.seen.written b.seen.written) m.made.text_is f.output;
      })
      by (finished fault) m u =
          let whole : f.some ≡ f.bytes = sym (append-nil f.some) ∙ ap (λ l. f.some ++ l) (sym u.2) ∙ sym f.cut ∙ take_all limit f.bytes u.1 in
          inr (
            u.0,
            u.1,
            record {
              some = lines f.bytes;
              more = [];
              cut = sym (append-nil (lines f.bytes));
              replies = m.made.replies;
              answers = subst (λ l. AreAnswers A (lines l) m.made.replies) whole m.made.answers;
              output = subst (AppendsPrefix a.seen.written b.seen.written) m.made.text_is f.output;
            },
          )
      by lacking m u = absurd m
      by (stopped late why) m u = absurd m

  pub has_run : first.has_fault ≡ false → (end : End Infallible) (s : Status) → IsStatus end s → HasRun (LinesMake A Is Saw per_byte extra first) last limit a b end → OldRun A limit a.seen.left b.seen.left a.seen.written b.seen.written s
  has_run none Done s is run =
      let P : Status → Type 0 = OldRun A limit a.seen.left b.seen.left a.seen.written b.seen.written in
      let m = run.leaves.made in
      subst P (sym is) (record {
        input = run.leaves.input;
        replies = m.makes.made.replies;
        taken = m.consumed;
        at_end = run.leaves.at_end;
        within = run.leaves.within;
        answers = m.makes.made.answers;
        output = subst (Appends a.seen.written b.seen.written) m.makes.made.text_is m.output;
        faulty = fault_of none (lines run.leaves.input) m.text m.spent false m.makes.made m.makes.is;
      })
  has_run none Faults s is run =
      let P : Status → Type 0 = OldRun A limit a.seen.left b.seen.left a.seen.written b.seen.written in
      let m = run.leaves.made in
      subst P (sym is) (record {
        input = run.leaves.input;
        replies = m.makes.made.replies;
        taken = m.consumed;
        at_end = run.leaves.at_end;
        within = run.leaves.within;
        answers = m.makes.made.answers;
        output = subst (Appends a.seen.written b.seen.written) m.makes.made.text_is m.output;
        faulty = fault_of none (lines run.leaves.input) m.text m.spent true m.makes.made m.makes.is;
      })
  has_run none ReadFault s is run =
      let P : Status → Type 0 = OldRun A limit a.seen.left b.seen.left a.seen.written b.seen.written in
      let m = run.leaves.made in
      subst P (sym is) (record {
        bytes = run.leaves.bytes;
        replies = m.makes.made.replies;
        taken = m.consumed;
        within = run.leaves.within;
        answers = m.makes.made.answers;
        output = subst (Appends a.seen.written b.seen.written) m.makes.made.text_is m.output;
      })
  has_run none WriteFault s is run =
      let P : Status → Type 0 = OldRun A limit a.seen.left b.seen.left a.seen.written b.seen.written in
      subst P (sym is) (cut_short run.leaves)
  has_run none TooLong s is run =
      let P : Status → Type 0 = OldRun A limit a.seen.left b.seen.left a.seen.written b.seen.written in
      let m = run.leaves.made in
      subst P (sym is) (record {
        bytes = run.leaves.bytes;
        replies = m.makes.made.replies;
        taken = m.consumed;
        past = run.leaves.past;
        answers = m.makes.made.answers;
        output = subst (Appends a.seen.written b.seen.written) m.makes.made.text_is m.output;
      })
  has_run none NoMemory s is run = absurd run.leaves.made.makes
  has_run none (Stopped never) s is run = absurd is

  -- a bound of the steps for the bytes taken and their lines
  spent_for : (ls : List (List ℕ)) (text : List ℕ) (spent : ℕ) (bytes : List ℕ) → AnswersLines A Is Saw per_byte extra first ls text spent last.0 → bytes_in ls ≤ length bytes → length ls ≤ length (lines bytes)
      → b.steps ≤ a.steps + spent → b.steps ≤ a.steps + per_byte * length bytes + extra * length (lines bytes)
  spent_for ls text spent bytes made few less steps =
      let x : per_byte * bytes_in ls ≤ per_byte * length bytes = mul-le-mul_left per_byte few in
      let y : extra * length ls ≤ extra * length (lines bytes) = mul-le-mul_left extra less in
      omega (arith, made.cost, steps, x, y)

  by_how : (how : How Infallible) (used more taken text : List ℕ) (spent : ℕ) → taken ≡ used ++ more → UsesNext true how more → LinesMake A Is Saw per_byte extra first used text spent how last → b.steps ≤ a.steps + spent
      → b.steps ≤ a.steps + per_byte * length taken + extra * length (lines taken)
  by_how going used more taken text spent cut uses m steps =
      let P : List ℕ → Type 0 = λ l. b.steps ≤ a.steps + per_byte * length l + extra * length (lines l) in
      let within = ended_within used more in
      subst P (sym cut) (spent_for (ended_lines used) text spent (used ++ more) m.made within.0 within.1 steps)
  by_how (finished fault) used more taken text spent cut uses m steps =
      let P : List ℕ → Type 0 = λ l. b.steps ≤ a.steps + per_byte * length l + extra * length (lines l) in
      let all : used ≡ taken = sym (cut ∙ ap (λ l. used ++ l) uses.1 ∙ append-nil used) in
      subst P all (spent_for (lines used) text spent used m.made (lines_within used) (omega arith) steps)
  by_how lacking used more taken text spent cut uses m steps = absurd m
  by_how (stopped late why) used more taken text spent cut uses m steps = absurd m

  spends : (how : How Infallible) (taken used more : List ℕ) → taken ≡ used ++ more → UsesNext true how more → length taken ≤ limit + 1 → Made (LinesMake A Is Saw per_byte extra first) how last a b taken used
      → Spends limit per_byte extra a.seen.left b.seen.left a.steps b.steps
  spends how taken used more cut uses bound m = record {
    bytes = taken;
    taken = m.consumed;
    bound = bound;
    cost = by_how how used more taken m.text m.spent cut uses m.makes m.steps;
  }

  uses_of : (how : How Infallible) (bytes rest : List ℕ) → take limit bytes ++ drop limit bytes ≡ bytes → UsesAll how limit bytes rest b.seen.left → UsesNext true how (rest ++ drop limit bytes)
  uses_of going bytes rest e u = tt
  uses_of (finished fault) bytes rest e u = (refl, ap (λ l. l ++ drop limit bytes) u.2 ∙ nothing_after limit bytes u.1)
  uses_of lacking bytes rest e u = tt
  uses_of (stopped late never) bytes rest e u = elim never [ ]

  pub has_cost : (end : End Infallible) → HasRun (LinesMake A Is Saw per_byte extra first) last limit a b end → Spends limit per_byte extra a.seen.left b.seen.left a.steps b.steps
  has_cost Done run = spends (finished false) run.leaves.input run.leaves.input [] (sym (append-nil run.leaves.input)) (refl, refl) (omega (arith, run.leaves.within)) run.leaves.made
  has_cost Faults run = spends (finished true) run.leaves.input run.leaves.input [] (sym (append-nil run.leaves.input)) (refl, refl) (omega (arith, run.leaves.within)) run.leaves.made
  has_cost ReadFault run = spends going run.leaves.bytes run.leaves.bytes [] (sym (append-nil run.leaves.bytes)) tt (omega (arith, run.leaves.within)) run.leaves.made
  has_cost WriteFault run =
      let f = run.leaves in
      let all = take-append-drop limit f.bytes in
      record {
        bytes = f.bytes;
        taken = f.consumed;
        bound = f.bound;
        cost = by_how f.how f.some (f.rest ++ drop limit f.bytes) f.bytes f.text f.spent (sym all ∙ ap (λ l. l ++ drop limit f.bytes) f.cut ∙ append_assoc f.some f.rest (drop limit f.bytes)) (uses_of f.how f.bytes f.rest all f.uses) f.makes f.steps;
      }
  has_cost TooLong run = spends going run.leaves.bytes (take limit run.leaves.bytes) (drop limit run.leaves.bytes) (sym (take-append-drop limit run.leaves.bytes)) tt (omega (arith, run.leaves.past)) run.leaves.made
  has_cost NoMemory run = absurd run.leaves.made.makes
  has_cost (Stopped never) run = elim never [ ]

-- the count of failures that rose
pub has_failures : (a b : Seen) (end : End Infallible) (s : Status) → IsStatus end s → Failed a b end → HasFailures a.read_failures b.read_failures a.write_failures b.write_failures s
has_failures a b Done s is f = let P : Status → Type 0 = HasFailures a.read_failures b.read_failures a.write_failures b.write_failures in subst P (sym is) (record { source = f.read; sink = f.write })
has_failures a b Faults s is f = let P : Status → Type 0 = HasFailures a.read_failures b.read_failures a.write_failures b.write_failures in subst P (sym is) (record { source = f.read; sink = f.write })
has_failures a b ReadFault s is f = let P : Status → Type 0 = HasFailures a.read_failures b.read_failures a.write_failures b.write_failures in subst P (sym is) (f.read, f.write)
has_failures a b WriteFault s is f = let P : Status → Type 0 = HasFailures a.read_failures b.read_failures a.write_failures b.write_failures in subst P (sym is) (f.read, f.write)
has_failures a b TooLong s is f = let P : Status → Type 0 = HasFailures a.read_failures b.read_failures a.write_failures b.write_failures in subst P (sym is) (record { source = f.read; sink = f.write })
has_failures a b NoMemory s is f = let P : Status → Type 0 = HasFailures a.read_failures b.read_failures a.write_failures b.write_failures in subst P (sym is) (record { source = f.read; sink = f.write })
has_failures a b (Stopped never) s is f = absurd is
