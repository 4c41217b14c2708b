-- Tests decide whether two runs agree. So they agree if this follows both from a request in the arguments and from the
-- lack of one.
use Rattle.std.proofs.Common.{◌≡◌, ◌∙◌, ℕ, List, Bool, true, false, Some, ap, refl, subst, sym}
use Rattle.std.proofs.lemmas.Slice.Eq.{bytes_eq-Decides}
use Rattle.std.specs.Bool.{Decides}
use Rattle.std.specs.Str.{bytes_eq}
use Rattle.line_engine.specs.Program.{Outside}
use Rattle.line_engine.specs.Status.{code_of}
use Rattle.line_engine.specs.declared.status.Status.{Status}
use Rattle.line_engine.specs.declared.status.Status.TheVariants.{Done, Faults, Usage, ReadFault, WriteFault, NoMemory, TooLong}
use Rattle.fixed_io.specs.Laws.{ReportIsTheOne}
use Rattle.fixed_io.specs.Report.{TellsEnd}
use Rattle.program_laws.specs.Runs.{CalmRunIsTheOne, ProcessIsTheOne, RunIsTheOne, RunsAreTheOnes}

by_test : (b : Bool) (P : Type 0) → Decides b P → ((P → ⊥) → ⊥) → P
by_test true P test not_not = test.0 refl
by_test false P test not_not = absurd (not_not (λ p. let t : false ≡ true = test.1 p in cc))

bytes_stable : (a b : List ℕ) → ((a ≡ b → ⊥) → ⊥) → a ≡ b
bytes_stable a b = by_test (bytes_eq a b) (a ≡ b) (bytes_eq-Decides a b)

status_stable : (s t : Status) → ((s ≡ t → ⊥) → ⊥) → s ≡ t
status_stable Done Done h = refl
status_stable Faults Faults h = refl
status_stable Usage Usage h = refl
status_stable ReadFault ReadFault h = refl
status_stable WriteFault WriteFault h = refl
status_stable NoMemory NoMemory h = refl
status_stable TooLong TooLong h = refl
status_stable s t h = absurd (h (λ e. cc))

-- the exit code and the report of a run are determined if its status is
pub process_one : (Runs : Outside → Outside → Status → Type 0) → ReportIsTheOne → RunIsTheOne Runs → ProcessIsTheOne Runs
process_one Runs report one left left' written a read read' write write' asked asked' place code other answered told x y failures can_read can_write can_tell some some' p q u v =
    let runs = one left left' written a a read read' write write' 0 p.holds.steps q.holds.steps asked asked' asked' p.status q.status can_read can_write
    (λ e. some (p.code_is ∙ ap code_of e)) (λ e. some' (q.code_is ∙ ap code_of e)) p.holds.runs q.holds.runs in
    let same : code ≡ other = p.code_is ∙ ap code_of runs.0 ∙ sym q.code_is in
    let P : ℕ → Type 0 = λ c. TellsEnd place c answered (Some told) (Some x) failures failures in
    (same, report place other answered told x y failures can_tell (subst P same u) v)

module _ (report : ReportIsTheOne) (Runs : Outside → Outside → Status → Type 0) where
  pub all_three : RunIsTheOne Runs → CalmRunIsTheOne Runs → RunsAreTheOnes Runs
  all_three run calm = record { run = run; calm = calm; process = process_one Runs report run }

  -- runs that are also runs of another kind
  pub along : (Others : Outside → Outside → Status → Type 0) → ((before after : Outside) (s : Status) → Runs before after s → Others before after s)
      → RunIsTheOne Others → CalmRunIsTheOne Others → RunsAreTheOnes Runs
  along Others says run calm = all_three
      (λ left left' written a b read read' write write' steps m n asked asked' asked'' s t can_read can_write some some' x y.
      run left left' written a b read read' write write' steps m n asked asked' asked'' s t can_read can_write some some' (says _ _ s x) (says _ _ t y))
      (λ before after other input written a b s t left old new new' calm_a calm_b some some' x y.
      calm before after other input written a b s t left old new new' calm_a calm_b some some' (says before after s x) (says before other t y))

  stable : ((RunsAreTheOnes Runs → ⊥) → ⊥) → RunsAreTheOnes Runs
  stable h = all_three
      (λ left left' written a b read read' write write' steps m n asked asked' asked'' s t can_read can_write some some' x y. (
        status_stable s t (λ no. h (λ one. no (one.run left left' written a b read read' write write' steps m n asked asked' asked'' s t can_read can_write some some' x y).0)),
        record {
          whole = λ calm. bytes_stable a b (λ no. h (λ one. no ((one.run left left' written a b read read' write write' steps m n asked asked' asked'' s t can_read can_write some some' x y).1.whole calm)));
          as_long = λ same. bytes_stable a b (λ no. h (λ one. no ((one.run left left' written a b read read' write write' steps m n asked asked' asked'' s t can_read can_write some some' x y).1.as_long same)));
        },
      ))
      (λ before after other input written a b s t left old new new' calm calm' some some' x y. (
        status_stable s t (λ no. h (λ one. no (one.calm before after other input written a b s t left old new new' calm calm' some some' x y).0)),
        bytes_stable a b (λ no. h (λ one. no (one.calm before after other input written a b s t left old new new' calm calm' some some' x y).1)),
      ))

  -- the runs agree if they do so with a request and without one
  pub either : (Asks : Type 0) → (Asks → RunsAreTheOnes Runs) → ((Asks → ⊥) → RunsAreTheOnes Runs) → RunsAreTheOnes Runs
  either Asks some none = stable (λ no. no (none (λ asks. no (some asks))))
