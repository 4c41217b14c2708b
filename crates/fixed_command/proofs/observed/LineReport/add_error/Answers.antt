use Rattle.std.proofs.Common.{◌≡◌, ◌∙◌, ℕ, List, Bool, true, subst, sym}
use Rattle.fixed_report.specs.Report.{Kept}
use Rattle.fixed_command.specs.Observed.{ErrorAddedIf, IsErrorAdded}
use Rattle.fixed_command.proofs.observed.LineReport.add_error.Goals as goal

added_if : (b : Bool) (k then : Kept) (number : ℕ) (numeral told : List ℕ) → b ≡ true → told ≡ numeral → IsErrorAdded k number told then → ErrorAddedIf b k number numeral then
added_if b k then number numeral told is same added = subst (λ x. ErrorAddedIf x k number numeral then) (sym is) (subst (λ n. IsErrorAdded k number n then) same added)

pub returns-then-has_error-clause-errors : goal.returns-then-has_error-clause-errors
returns-then-has_error-clause-errors g c =
    let e = c.add.ensures in
    added_if _ _ _ _ _ _ (sym (rw c.settings.ensures at c.has_error.ensures) ∙ c.if-has_error.true) c.numeral_of.ensures.value (record { radix = e.radix; format = e.format; mode = e.mode; one_more = e.one_more; sums = e.sums; lost = e.lost })
