-- What a run over lines leaves, in the terms of `line_engine`.
use Rattle.std.proofs.Common.{◌≡◌, ◌⊎◌, ◌<◌, ◌≤◌, ◌*◌, ◌+◌, ◌∙◌, ℕ, List, [], Option, None, Some, ap, arith, inl, inr, length, refl, subst, sym}
use Rattle.std.specs.Io.KnownBytes.{Consumes}
use Rattle.line_engine.specs.AnswerText.{AnswerText}
use Rattle.line_engine.specs.Asked.{Asked, AskedWithin}
use Rattle.line_engine.specs.Failures.{HasFailed}
use Rattle.line_engine.specs.Lines.{lines}
use Rattle.line_engine.specs.Output.{AppendsPrefix, AreAnswers, WritesOutput, written_of}
use Rattle.line_engine.specs.Program.{Outside}
use Rattle.line_engine.specs.Run.{HasFailures, HasRun, Spends}
use Rattle.line_engine.specs.declared.status.Status.{Status}
use Rattle.line_engine.specs.declared.status.Status.TheVariants.{Done, Faults, Usage, ReadFault, WriteFault, NoMemory, TooLong}
use Rattle.line_engine.proofs.Public.{all_taken, complete, part_of_output, so_far_none, so_far_within}
use Rattle.run_engine.specs.LineRun.{HasLinesRun, outside_at}
use Rattle.run_engine.proofs.LineStatusLemmas.{has_cost, has_failures, has_run}

-- memory is a status of its own
split : (P : Type 0) (s : Status) → (s ≡ NoMemory → P) → (¬ (s ≡ NoMemory) → P) → P
split P Done lacks has = has (λ (e : Done ≡ NoMemory). let no : ⊥ = cc in no)
split P Faults lacks has = has (λ (e : Faults ≡ NoMemory). let no : ⊥ = cc in no)
split P Usage lacks has = has (λ (e : Usage ≡ NoMemory). let no : ⊥ = cc in no)
split P ReadFault lacks has = has (λ (e : ReadFault ≡ NoMemory). let no : ⊥ = cc in no)
split P WriteFault lacks has = has (λ (e : WriteFault ≡ NoMemory). let no : ⊥ = cc in no)
split P NoMemory lacks has = lacks refl
split P TooLong lacks has = has (λ (e : TooLong ≡ NoMemory). let no : ⊥ = cc in no)

none_taken : (left : Option (List ℕ)) → Consumes left left []
none_taken None = tt
none_taken (Some bytes) = refl

none_asked : (limit : ℕ) (asked : Option Asked) → AskedWithin limit asked asked
none_asked limit asked = so_far_within limit 0 asked asked (so_far_none limit asked)

-- a run over an input beyond the limit, in which no call failed, reports it
beyond : (A : List ℕ → AnswerText → Type 0) (limit : ℕ) (a b : Outside) (input : List ℕ) → a.left ≡ Some input → limit < length input → (s : Status) → HasRun A limit a.left b.left a.written b.written s
    → HasFailures a.read_failures b.read_failures a.write_failures b.write_failures s → ¬ HasFailed a.read_failures b.read_failures → ¬ HasFailed a.write_failures b.write_failures → (s ≡ NoMemory) ⊎ (s ≡ TooLong)
beyond A limit a b input is past Done run failed no_read no_write = absurd (omega (arith, run.within, ap length (all_taken a.left b.left run.input input is run.taken run.at_end)))
beyond A limit a b input is past Faults run failed no_read no_write = absurd (omega (arith, run.within, ap length (all_taken a.left b.left run.input input is run.taken run.at_end)))
beyond A limit a b input is past Usage run failed no_read no_write = absurd run
beyond A limit a b input is past ReadFault run failed no_read no_write = absurd (no_read failed.0)
beyond A limit a b input is past WriteFault run failed no_read no_write = absurd (no_write failed.1)
beyond A limit a b input is past NoMemory run failed no_read no_write = inl refl
beyond A limit a b input is past TooLong run failed no_read no_write = inr refl

module _ {R W T : Type 0} (rule : R) (A : List ℕ → AnswerText → Type 0) (Is : List ℕ → AnswerText → T → Type 0) (Saw : W → ℕ → List ℕ → T → W → Type 0) (per_byte extra limit : ℕ) (before after : Outside) (status : Status) (watch last : W)
    (h : ¬ (status ≡ NoMemory) → HasLinesRun rule A Is Saw per_byte extra limit before after status watch last) (none : status ≡ NoMemory → after ≡ before) where
  -- what holds of the moments of a run, and of none, holds of what is seen from outside
  along : (P : Outside → Outside → Type 0) → ((some : ¬ (status ≡ NoMemory)) → P (outside_at (h some).a) (outside_at (h some).b)) → (status ≡ NoMemory → P before before) → P before after
  along P run lacks =
      split (P before after) status
      (λ e. subst (λ (o : Outside). P before o) (sym (none e)) (lacks e))
      (λ some. subst (λ (o : Outside). P o after) (h some).is_before (subst (λ (o : Outside). P (outside_at (h some).a) o) (h some).is_after (run some)))

  pub lines_run : HasRun A limit before.left after.left before.written after.written status
  lines_run =
      along (λ a b. HasRun A limit a.left b.left a.written b.written status)
      (λ some. has_run A Is Saw per_byte extra (h some).first (h some).then limit (h some).a (h some).b (h some).no_fault (h some).end status (h some).ends (h some).run)
      (λ e. subst (λ (s : Status). HasRun A limit before.left before.left before.written before.written s) (sym e) (refl, refl))

  pub lines_cost : Spends limit per_byte extra before.left after.left before.steps after.steps
  lines_cost =
      along (λ a b. Spends limit per_byte extra a.left b.left a.steps b.steps)
      (λ some. has_cost A Is Saw per_byte extra (h some).first (h some).then limit (h some).a (h some).b (h some).end (h some).run)
      (λ e. record { bytes = []; taken = none_taken before.left; bound = omega arith; cost = omega arith })

  pub lines_asked : AskedWithin limit before.asked after.asked
  lines_asked = along (λ a b. AskedWithin limit a.asked b.asked) (λ some. (h some).run.asked) (λ e. none_asked limit before.asked)

  pub lines_failures : HasFailures before.read_failures after.read_failures before.write_failures after.write_failures status
  lines_failures =
      along (λ a b. HasFailures a.read_failures b.read_failures a.write_failures b.write_failures status)
      (λ some. has_failures (h some).a.seen (h some).b.seen (h some).end status (h some).ends (h some).run.failed)
      (λ e. subst (λ (s : Status). HasFailures before.read_failures before.read_failures before.write_failures before.write_failures s) (sym e) (record { source = refl; sink = refl }))

  pub lines_output : (input : List ℕ) → before.left ≡ Some input → length input ≤ limit → ¬ HasFailed before.read_failures after.read_failures → ¬ HasFailed before.write_failures after.write_failures → (status ≡ NoMemory) ⊎ WritesOutput A input before.written after.written status
  lines_output input is = complete A limit before.left after.left before.written after.written input is before.read_failures after.read_failures before.write_failures after.write_failures status lines_run lines_failures

  pub lines_too_long : (input : List ℕ) → before.left ≡ Some input → limit < length input → ¬ HasFailed before.read_failures after.read_failures → ¬ HasFailed before.write_failures after.write_failures → (status ≡ NoMemory) ⊎ (status ≡ TooLong)
  lines_too_long input is past = beyond A limit before after input is past status lines_run lines_failures

  pub lines_prefix : ((line : List ℕ) (a b : AnswerText) → A line a → A line b → a ≡ b) → status ≡ WriteFault → (input : List ℕ) (replies : List AnswerText) → before.left ≡ Some input → AreAnswers A (lines input) replies → AppendsPrefix before.written after.written (written_of replies)
  lines_prefix one is input replies input_is answers =
      part_of_output A one before.left after.left before.written after.written input replies limit (subst (HasRun A limit before.left after.left before.written after.written) is lines_run) input_is answers
