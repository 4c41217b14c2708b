use Rattle.std.proofs.Common.{◌≡◌, ◌∙◌, ℤ, FitsSigned, rules, subst}
use Rattle.std.specs.Int.{w128}
use Rattle.std.proofs.lemmas.Int.{to_z-of_z}
use Rattle.fixed_show.specs.Blocks.{Appends}
use Rattle.fixed_show.specs.ShortError.{IsErrorText}
use Rattle.fixed_show.specs.declared.form.Form.TheVariants.{Lines}
use Rattle.fixed_show.proofs.measure.push_error_by.Goals as goal
use Rattle.fixed_show.proofs.measure.push_error_by.Goals.{in-Some+else-push_narrow_error, in_default}

pub returns-then-push_narrow_error-clause-error : goal.returns-then-push_narrow_error-clause-error
returns-then-push_narrow_error-clause-error g c = λ p numeral.
    let b : ℤ = c.args.bits in
    let fit : FitsSigned w128 b = search rules in
    let written : Appends (IsErrorText Lines c.args.measure c.args.radix p c.args.frac b) 1380 c.args.out.now c.push_narrow_error.new.out
    = rw (to_z-of_z w128 b fit) at (c.push_narrow_error.ensures.error c.if-push_narrow_error.true c.args.radix p (c.in-Some.ensures.value p numeral)) in
    written

pub returns-clause-error : goal.returns-clause-error
returns-clause-error g c = λ p numeral.
    let b : ℤ = c.args.bits in
    let fit : FitsSigned w128 b = search rules in
    let same : c.match-narrow_numeral.out ≡ c.args.out.now = elim c.match-narrow_numeral.branch [
      | in-Some+else-push_narrow_error w ↦ w.out-is ∙ w.push_narrow_error.ensures.none w.if-push_narrow_error.false
      | in_default w ↦ w.out-is
    ] in
    let error : Appends (IsErrorText Lines c.args.measure c.args.radix p c.args.frac b) 1380 c.match-narrow_numeral.out c.push_long.new.out = rw (to_z-of_z w128 b fit) at (c.push_long.ensures.error p numeral) in
    subst (λ before. Appends (IsErrorText Lines c.args.measure c.args.radix p c.args.frac b) 1380 before c.push_long.new.out) same error
