-- Refused operands and options of `fixed fit`.
use Rattle.std.proofs.Common.{◌≡◌, ◌<◌, [], ◌∷◌, ℕ, List, ap, arith, inl, inr, length, subst}
use Rattle.std.specs.Prelude.{◌⊎◌, Option, codes, is_some, map}
use Rattle.command_line.specs.Words.{has_flag, value_of}
use Rattle.command_line.specs.declared.given.Given.{Given}
use Rattle.fixed_bits.specs.Formats.{FormatParts}
use Rattle.fixed_command.specs.Layout.{LineLayout}
use Rattle.fixed_fit.specs.Run.{HasFitRun}
use Rattle.fixed_fit.specs.declared.answer.Unfit.{Unfit}
use Rattle.fixed_fit.specs.declared.question.Fractions.{Fractions}
use Rattle.fixed_fit.specs.declared.question.Question.{Question}
use Rattle.fixed_fit.specs.declared.question.Widths.{Widths}
use Rattle.line_engine.specs.Asked.{Asked}
use Rattle.line_engine.specs.Program.{outside}
use Rattle.line_engine.specs.declared.status.Status.{Status}
use Rattle.line_engine.specs.declared.status.Status.TheVariants.{NoMemory}
use Rattle.run_engine.specs.Seen.{seen_of}
use Rattle.fixed.specs.Fit.{AreEnds, IsFitAsked, IsFractionsAsked}
use Rattle.fixed.specs.FitRuns.{RunsFit, RunsFitWithin}
use Rattle.fixed.specs.Lines.{IsKindAsked}
use Rattle.fixed.specs.declared.commands.fit.FitTask.{FitTask}
use Rattle.fixed.proofs.LawLemmas.{lines_one}

-- no fraction lengths of the given width are valid
pub fractions_refused : (given : Given) (kind : FormatParts)
    → IsKindAsked (has_flag given (codes "signed")) (is_some (value_of given (codes "error"))) (value_of given (codes "width")) kind
    → ((a : Fractions) → ¬ IsFractionsAsked kind.width (value_of given (codes "whole")) (has_flag given (codes "beyond")) a)
    → (task : FitTask) → ¬ IsFitAsked given task
fractions_refused given kind is none task x =
    none task.question.fractions
    (subst (λ (k : FormatParts). IsFractionsAsked k.width (value_of given (codes "whole")) (has_flag given (codes "beyond")) task.question.fractions)
    (lines_one.kind (has_flag given (codes "signed")) (is_some (value_of given (codes "error"))) (value_of given (codes "width")) task.question.kind kind x.kind is)
    x.fractions)

-- fewer than two operands are no range
pub few_ends : {A : Type 0} (word : A → List ℕ) (words : List A) (list : List ℕ) → length words < 2 → ¬ AreEnds (map word words) list
few_ends word [] list few x = x
few_ends word (a ∷ []) list few x = x
few_ends word (a ∷ b ∷ words) list few x = absurd (omega (arith, few))

-- a question was answered, or for lack of memory nothing was read or written
ran : {S K : Type 0} (left : S → Option (List ℕ)) (asked : S → Option Asked) (reads : S → ℕ)
    (written : K → Option (List ℕ)) (writes : K → ℕ) (s s' : S) (k k' : K) (n n' limit : ℕ) (l : Option LineLayout)
    (q : Question) (widths : Option Widths) (bound : List ℕ) (status : Status) (unfit : Option Unfit)
    → HasFitRun limit l q widths bound (seen_of (left s) (asked s) (reads s) (written k) (writes k))
    (seen_of (left s') (asked s') (reads s') (written k') (writes k')) unfit status
    ⊎ ((status ≡ NoMemory) × (s' ≡ s) × (k' ≡ k))
    → RunsFit limit l q widths bound status (outside (left s) (asked s) (reads s) (written k) (writes k) n)
    (outside (left s') (asked s') (reads s') (written k') (writes k') n')
ran left asked reads written writes s s' k k' n n' limit l q widths bound status unfit (inl run) = inl (unfit, run)
ran left asked reads written writes s s' k k' n n' limit l q widths bound status unfit (inr none) = inr (record {
  status_is = none.0;
  reads = record { left = ap left none.1; asked = ap asked none.1; failures = ap reads none.1 };
  writes = record { written = ap written none.2; failures = ap writes none.2 };
})

-- the same with a bound that equals the given one
pub fits : {S K : Type 0} (left : S → Option (List ℕ)) (asked : S → Option Asked) (reads : S → ℕ)
    (written : K → Option (List ℕ)) (writes : K → ℕ) (s s' : S) (k k' : K) (n n' limit : ℕ) (l : Option LineLayout)
    (q : Question) (widths : Option Widths) (given bound : List ℕ) (status : Status) (unfit : Option Unfit)
    → HasFitRun limit l q widths given (seen_of (left s) (asked s) (reads s) (written k) (writes k))
    (seen_of (left s') (asked s') (reads s') (written k') (writes k')) unfit status
    ⊎ ((status ≡ NoMemory) × (s' ≡ s) × (k' ≡ k)) → given ≡ bound
    → RunsFit limit l q widths bound status (outside (left s) (asked s) (reads s) (written k) (writes k) n)
    (outside (left s') (asked s') (reads s') (written k') (writes k') n')
fits left asked reads written writes s s' k k' n n' limit l q widths given bound status unfit runs same =
    subst (λ (b : List ℕ). RunsFit limit l q widths b status (outside (left s) (asked s) (reads s) (written k) (writes k) n)
    (outside (left s') (asked s') (reads s') (written k') (writes k') n')) same
    (ran left asked reads written writes s s' k k' n n' limit l q widths given status unfit runs)

-- the same with a writer seen otherwise
pub fits_as : (error : Option (List ℕ)) (limit : ℕ) (task : FitTask) (status : Status) (left left' : Option (List ℕ))
    (asked asked' : Option Asked) (reads reads' : ℕ) (old old' new new' : Option (List ℕ)) (fails fails' failed n n' : ℕ)
    → RunsFitWithin error limit task status (outside left asked reads old fails n) (outside left' asked' reads' new failed n')
    → old ≡ old' → fails ≡ fails' → new ≡ new'
    → RunsFitWithin error limit task status (outside left asked reads old' fails' n) (outside left' asked' reads' new' failed n')
fits_as error limit task status left left' asked asked' reads reads' old old' new new' fails fails' failed n n' runs from none to =
    subst (λ (w : Option (List ℕ)). RunsFitWithin error limit task status (outside left asked reads old' fails' n) (outside left' asked' reads' w failed n')) to
    (subst (λ (m : ℕ). RunsFitWithin error limit task status (outside left asked reads old' m n) (outside left' asked' reads' new failed n')) none
    (subst (λ (w : Option (List ℕ)). RunsFitWithin error limit task status (outside left asked reads w fails n) (outside left' asked' reads' new failed n')) from runs))
