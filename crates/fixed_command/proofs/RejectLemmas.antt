-- One of two observers of the lines of a run, and what rejects got of lines.
use Rattle.std.proofs.Common.{◌≡◌, ℕ, List, [], ◌∷◌, ◌++◌, Ok, Err, refl, sym, ap, subst}
use Rattle.std.specs.Prelude.{option_map}
use Rattle.std.specs.declared.convert.Infallible.{Infallible}
use Rattle.line_engine.specs.AnswerText.{AnswerText}
use Rattle.line_engine.specs.Program.{Outside}
use Rattle.line_engine.specs.declared.status.Status.{Status}
use Rattle.line_rejects.proofs.PutLemmas.{puts_both, puts_none}
use Rattle.line_rejects.specs.Rejects.{Puts, sight_of}
use Rattle.line_rejects.specs.declared.rejects.Rejects.{Rejects}
use Rattle.run_engine.specs.LineRun.{AnswersLines, HasLinesRun, MakesLines, SawAll, one_more}
use Rattle.run_engine.specs.Machines.{How, going, finished, lacking, stopped}
use Rattle.run_engine.specs.Run.{HasRun, Leaves, Made}
use Rattle.run_engine.specs.Seen.{Moment}
use Rattle.run_engine.specs.declared.engine.End.{End}
use Rattle.run_engine.specs.declared.engine.End.TheVariants.{Done, Faults, ReadFault, WriteFault, NoMemory, TooLong, Stopped}
use Rattle.run_engine.specs.declared.lines.Lines.{Lines}
use Rattle.run_engine.specs.declared.pieces.Cut.{Cut}
use Rattle.fixed_command.specs.Rejects.{AreRejects, RejectsAreTheLines, name_of}

-- ---- a machine that is seen as another one
module _ {M N T : Type 0} (Makes : List ℕ → List ℕ → ℕ → How T → M → Type 0) (Seen : List ℕ → List ℕ → ℕ → How T → N → Type 0) (see : M → N)
    (keeps : (bytes text : List ℕ) (spent : ℕ) (how : How T) (it : M) → Makes bytes text spent how it → Seen bytes text spent how (see it)) where
  made_as : (how : How T) (last : M) (a b : Moment) (taken used : List ℕ) → Made Makes how last a b taken used → Made Seen how (see last) a b taken used
  made_as how last a b taken used p = record {
    text = p.text;
    spent = p.spent;
    consumed = p.consumed;
    makes = keeps used p.text p.spent how last p.makes;
    output = p.output;
    steps = p.steps;
  }

  leaves_as : (last : M) (limit : ℕ) (a b : Moment) (end : End T) → Leaves Makes last limit a b end → Leaves Seen (see last) limit a b end
  leaves_as last limit a b Done p = record { input = p.input; within = p.within; at_end = p.at_end; made = made_as _ last a b _ _ p.made }
  leaves_as last limit a b Faults p = record { input = p.input; within = p.within; at_end = p.at_end; made = made_as _ last a b _ _ p.made }
  leaves_as last limit a b ReadFault p = record { bytes = p.bytes; within = p.within; made = made_as _ last a b _ _ p.made }
  leaves_as last limit a b WriteFault p = record {
    bytes = p.bytes;
    some = p.some;
    rest = p.rest;
    text = p.text;
    spent = p.spent;
    how = p.how;
    bound = p.bound;
    cut = p.cut;
    consumed = p.consumed;
    makes = keeps p.some p.text p.spent p.how last p.makes;
    uses = p.uses;
    output = p.output;
    steps = p.steps;
  }
  leaves_as last limit a b TooLong p = record { bytes = p.bytes; past = p.past; made = made_as _ last a b _ _ p.made }
  leaves_as last limit a b NoMemory p = record { bytes = p.bytes; some = p.some; rest = p.rest; bound = p.bound; cut = p.cut; made = made_as _ last a b _ _ p.made }
  leaves_as last limit a b (Stopped why) p = record { bytes = p.bytes; bound = p.bound; late = p.late; at_end = p.at_end; made = made_as _ last a b _ _ p.made }

  run_as : (last : M) (limit : ℕ) (a b : Moment) (end : End T) → HasRun Makes last limit a b end → HasRun Seen (see last) limit a b end
  run_as last limit a b end p = record { leaves = leaves_as last limit a b end p.leaves; failed = p.failed; asked = p.asked; same = p.same }

-- ---- an observer that is seen as another one
module _ {V W T : Type 0} (Saw : V → ℕ → List ℕ → T → V → Type 0) (Shows : W → ℕ → List ℕ → T → W → Type 0) (see : V → W)
    (keeps : (watch : V) (number : ℕ) (line : List ℕ) (result : T) (then : V) → Saw watch number line result then → Shows (see watch) number line result (see then)) where
  saw_as : (watch : V) (count : ℕ) (lines : List (List ℕ)) (results : List T) (last : V) (total : ℕ) → SawAll Saw watch count lines results last total
      → SawAll Shows (see watch) count lines results (see last) total
  saw_as watch count [] [] last total saw = (ap see saw.0, saw.1)
  saw_as watch count [] (result ∷ results) last total saw = absurd saw
  saw_as watch count (line ∷ lines) [] last total saw = absurd saw
  saw_as watch count (line ∷ lines) (result ∷ results) last total (then, tells, rest) = (
    see then,
    record { told = tells.told; is = tells.is; saw = keeps watch (one_more count) tells.told result then tells.saw },
    saw_as then (one_more count) lines results last total rest,
  )

module _ {R V W T : Type 0} (A : List ℕ → AnswerText → Type 0) (Is : List ℕ → AnswerText → T → Type 0) (Saw : V → ℕ → List ℕ → T → V → Type 0)
    (Shows : W → ℕ → List ℕ → T → W → Type 0) (see : V → W)
    (keeps : (watch : V) (number : ℕ) (line : List ℕ) (result : T) (then : V) → Saw watch number line result then → Shows (see watch) number line result (see then))
    (per_byte extra : ℕ) where
  abbrev lines_as : Lines R V → Lines R W
  lines_as it = record { rule = it.rule; watch = see it.watch; line = it.line; count = it.count; has_fault = it.has_fault }

  answers_as : (first : Lines R V) (ls : List (List ℕ)) (text : List ℕ) (spent : ℕ) (last : Lines R V) → AnswersLines A Is Saw per_byte extra first ls text spent last
      → AnswersLines A Is Shows per_byte extra (lines_as first) ls text spent (lines_as last)
  answers_as first ls text spent last p = record {
    replies = p.replies;
    results = p.results;
    answers = p.answers;
    are = p.are;
    text_is = p.text_is;
    same = p.same;
    faulty = p.faulty;
    saw = saw_as Saw Shows see keeps first.watch first.count ls p.results last.watch last.count p.saw;
    cost = p.cost;
  }

  makes_as : (first : Lines R V) (bytes text : List ℕ) (spent : ℕ) (how : How Infallible) (last : Lines R V) → MakesLines A Is Saw per_byte extra first bytes text spent how last
      → MakesLines A Is Shows per_byte extra (lines_as first) bytes text spent how (lines_as last)
  makes_as first bytes text spent going last p = record { made = answers_as first _ text spent last p.made; line = p.line }
  makes_as first bytes text spent (finished fault) last p = record { made = answers_as first _ text spent last p.made; is = p.is }
  makes_as first bytes text spent lacking last p = absurd p
  makes_as first bytes text spent (stopped late why) last p = absurd p

  pub lines_run_as : (rule : R) (limit : ℕ) (before after : Outside) (status : Status) (watch last : V) → HasLinesRun rule A Is Saw per_byte extra limit before after status watch last
      → HasLinesRun rule A Is Shows per_byte extra limit before after status (see watch) (see last)
  lines_run_as rule limit before after status watch last p =
      let cut : Cut (Lines R V) → Cut (Lines R W) = λ it. record { 0 = lines_as it.0 } in
      record {
        first = lines_as p.first;
        then = cut p.then;
        a = p.a;
        b = p.b;
        end = p.end;
        answers_by = p.answers_by;
        begins = ap see p.begins;
        no_line = p.no_line;
        no_fault = p.no_fault;
        is_before = p.is_before;
        is_after = p.is_after;
        ends = p.ends;
        run = run_as (λ bytes text spent how it. MakesLines A Is Saw per_byte extra p.first bytes text spent how it.0)
            (λ bytes text spent how it. MakesLines A Is Shows per_byte extra (lines_as p.first) bytes text spent how it.0) cut
            (λ bytes text spent how it made. makes_as p.first bytes text spent how it.0 made) p.then limit p.a p.b p.end p.run;
        kept = ap see p.kept;
      }

-- ---- what rejects got
module _ (N C : Type 0) {J : Type 0} (written : J → _) (failures : J → ℕ) where
  pub rejects_are : (first : Rejects J) → RejectsAreTheLines N C written failures first
  rejects_are first shown message count total [] [] last saw =
      ([], refl, subst (λ (r : Rejects J). Puts (sight_of written failures first) (sight_of written failures r) []) (sym saw.0) (puts_none (sight_of written failures first)))
  rejects_are first shown message count total [] (result ∷ results) last saw = absurd saw
  rejects_are first shown message count total (line ∷ lines) [] last saw = absurd saw
  rejects_are first shown message count total (line ∷ lines) (Ok note ∷ results) last (then, tells, rest) =
      subst (λ (r : Rejects J). (text : List ℕ) × AreRejects shown message (name_of r) (one_more count) lines results text
      × Puts (sight_of written failures r) (sight_of written failures last) text) tells.saw (rejects_are then shown message (one_more count) total lines results last rest)
  rejects_are first shown message count total (line ∷ lines) (Err cause ∷ results) last (then, tells, rest) =
      let more = rejects_are then shown message (one_more count) total lines results last rest in
      let put = tells.saw.0 in
      let same : name_of then ≡ name_of first = ap (λ n. option_map (λ l. l.now) n) tells.saw.1 in (
        put.0 ++ more.0,
        (tells.told, put.0, more.0, tells.is, put.1, subst (λ n. AreRejects shown message n (one_more count) lines results more.0) same more.1, refl),
        puts_both (sight_of written failures first) (sight_of written failures then) (sight_of written failures last) put.0 more.0 put.2 more.2,
      )
