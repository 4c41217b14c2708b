-- Runs that read nothing: those that write a usage line, and the self test.
use Rattle.std.proofs.Common.{◌≡◌, ◌∙◌, ◌-◌, ◌^◌, ◌<◌, ◌≤◌, ℕ, List, Some, length, ⊎_elim, arith, inl, inr, sym, subst}
use Rattle.std.proofs.lemmas.Bool.{cases_lt}
use Rattle.std.specs.declared.option.Option.{Option}
use Rattle.std.specs.Io.KnownBytes.{Appends}
use Rattle.line_engine.specs.Appended.{AppendsPrefix}
use Rattle.line_engine.specs.Failures.{HasFailed}
use Rattle.line_engine.specs.Program.{Outside}
use Rattle.line_engine.specs.Run.{WritesText}
use Rattle.line_engine.specs.declared.status.Status.{Status}
use Rattle.line_engine.specs.declared.status.Status.TheVariants.{Done, Faults, Usage, ReadFault, WriteFault, NoMemory, TooLong}
use Rattle.fixed_respell.specs.SelfLaws.{SelfRunIsTheOne, SummaryIsTheOne}
use Rattle.fixed_respell.specs.SelfMode.{HasSelfRun}
use Rattle.program_laws.specs.Runs.{CalmRunIsTheOne, RunIsTheOne}
use Rattle.program_laws.proofs.TextLemmas.{prefix_of_one, text_one}

abbrev pub UsageRun : List ℕ → Outside → Outside → Status → Type 0
UsageRun line before after s = WritesText line Usage before.written after.written before.write_failures after.write_failures s

pub usage_run_one : (line : List ℕ) → RunIsTheOne (UsageRun line)
usage_run_one line left left' written a b read read' write write' steps m n asked asked' asked'' s t can_read can_write some some' x y =
    text_one line Usage s t written a b write write' can_write (λ e. cc) x y

calm_text : (line : List ℕ) (s : Status) (written written' : Option (List ℕ)) (f f' : ℕ) → (HasFailed f f' → ⊥) → WritesText line Usage written written' f f' s
    → (s ≡ Usage) × Appends written written' line
calm_text line s written written' f f' calm (inl x) = (x.0, x.1)
calm_text line s written written' f f' calm (inr x) = absurd (calm x.2)

pub usage_calm_one : (line : List ℕ) → CalmRunIsTheOne (UsageRun line)
usage_calm_one line before after other input written a b s t left old new new' calm calm' some some' x y =
    let p = calm_text line s before.written after.written before.write_failures after.write_failures calm.1 x in
    let q = calm_text line t before.written other.written before.write_failures other.write_failures calm'.1 y in
    let first : Appends (Some written) (Some a) line = rw (old, new) at p.1 in
    let second : Appends (Some written) (Some b) line = rw (old, new') at q.1 in
    (p.0 ∙ sym q.0, first ∙ sym second)

abbrev pub SelfRun : ℕ → Outside → Outside → Status → Type 0
SelfRun count before after s = HasSelfRun count before.written after.written before.write_failures after.write_failures s

calm_self : (count : ℕ) (s : Status) (written written' : Option (List ℕ)) (f f' : ℕ) → (HasFailed f f' → ⊥) → HasSelfRun count written written' f f' s → f' ≡ f
calm_self count Done written written' f f' calm x = x.calm
calm_self count Faults written written' f f' calm x = x.2.calm
calm_self count Usage written written' f f' calm x = absurd x
calm_self count ReadFault written written' f f' calm x = absurd x
calm_self count WriteFault written written' f f' calm x = absurd (calm x.rose)
calm_self count NoMemory written written' f f' calm x = absurd x
calm_self count TooLong written written' f f' calm x = absurd x

unbroken : (count : ℕ) (s : Status) (written written' : Option (List ℕ)) (f f' : ℕ) → (HasFailed f f' → ⊥) → HasSelfRun count written written' f f' s → s ≡ WriteFault → ⊥
unbroken count s written written' f f' calm x e =
    let P : Status → Type 0 = λ u. HasSelfRun count written written' f f' u in
    let broken = subst P e x in
    calm broken.rose

can_fail : (f f' : ℕ) → (HasFailed f f' → ⊥) → f' ≡ f → f < 2 ^ 64 - 1
can_fail f f' calm same = ⊎_elim (λ (l : f < 2 ^ 64 - 1). l) (λ (last : 2 ^ 64 - 1 ≤ f). absurd (calm (omega arith))) (cases_lt f (2 ^ 64 - 1))

module _ (self : SelfRunIsTheOne) (summary : SummaryIsTheOne) (count : ℕ) where
  as_long : (s : Status) (written a b : List ℕ) (f f' : ℕ) → f < 2 ^ 64 - 1 → HasSelfRun count (Some written) (Some a) f f' s → HasSelfRun count (Some written) (Some b) f f' s
      → length a ≡ length b → a ≡ b
  as_long Done written a b f f' room x y n = (self count written a b f f' Done Done room x y).1 (λ e. cc)
  as_long Faults written a b f f' room x y n = (self count written a b f f' Faults Faults room x y).1 (λ e. cc)
  as_long Usage written a b f f' room x y n = absurd x
  as_long ReadFault written a b f f' room x y n = absurd x
  as_long WriteFault written a b f f' room x y n =
      let same : x.text ≡ y.text = (summary count x.text y.text x.faults y.faults x.summary y.summary).0 in
      let P : List ℕ → Type 0 = λ t. AppendsPrefix (Some written) (Some a) t in
      prefix_of_one written a b y.text (subst P same x.output) y.output n
  as_long NoMemory written a b f f' room x y n = absurd x
  as_long TooLong written a b f f' room x y n = absurd x

  pub self_run_one : RunIsTheOne (SelfRun count)
  self_run_one left left' written a b read read' write write' steps m n asked asked' asked'' s t can_read can_write some some' x y =
      let both = self count written a b write write' s t can_write x y in
      let P : Status → Type 0 = λ u. HasSelfRun count (Some written) (Some b) write write' u in
      (both.0, record { whole = both.1; as_long = as_long s written a b write write' can_write x (subst P (sym both.0) y) })

  pub self_calm_one : CalmRunIsTheOne (SelfRun count)
  self_calm_one before after other input written a b s t left old new new' calm calm' some some' x y =
      let same : after.write_failures ≡ before.write_failures = calm_self count s before.written after.written before.write_failures after.write_failures calm.1 x in
      let same' : other.write_failures ≡ before.write_failures = calm_self count t before.written other.written before.write_failures other.write_failures calm'.1 y in
      let p : HasSelfRun count (Some written) (Some a) before.write_failures before.write_failures s = rw (old, new, same) at x in
      let q : HasSelfRun count (Some written) (Some b) before.write_failures before.write_failures t = rw (old, new', same') at y in
      let both = self count written a b before.write_failures before.write_failures s t (can_fail before.write_failures after.write_failures calm.1 same) p q in
      (both.0, both.1 (unbroken count s before.written after.written before.write_failures after.write_failures calm.1 x))
