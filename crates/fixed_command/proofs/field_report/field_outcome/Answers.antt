use Rattle.std.proofs.Common.{◌≡◌, ◌==◌, ◌∙◌, List, ℕ, ap, false, flat_map, length, sym, true}
use Rattle.fixed_command.specs.Fields.{bare, is_misplaced, read_for}
use Rattle.fixed_command.specs.declared.convert.Settings.{Settings}
use Rattle.fixed_command.proofs.FieldLemmas.{read_outcome, some_so}
use Rattle.fixed_command.proofs.field_report.field_outcome.Goals as goal

pub returns-clause-outcome : goal.returns-clause-outcome
returns-clause-outcome g c =
    read_outcome c.args.form.now c.args.rule.now c.args.field.now c.bare-bytes.result.now c.as_slice.result.now c.outcome_of_line.result
    c.bare-bytes.ensures.value (sym c.is_empty.ensures ∙ c.if-is_empty.false) (ap (λ (s : Settings). is_misplaced c.args.form.now s.radix c.bare-bytes.result.now) (sym c.settings.ensures)
    ∙ (sym c.is_misplaced.ensures ∙ c.if-is_misplaced.false))
    (c.as_slice.ensures.bytes ∙ c.write_read.ensures) c.outcome_of_line.ensures

pub returns-then-is_empty-clause-read : goal.returns-then-is_empty-clause-read
returns-then-is_empty-clause-read g c =
    let yes : (length (bare c.args.form.now c.args.field.now) == 0) ≡ true = ap (λ (l : List ℕ). length l == 0) (sym c.bare-bytes.ensures.value) ∙ sym c.is_empty.ensures ∙ c.if-is_empty.true in
    some_so c.outcome_of_empty.result _ (λ outcome n e. let x : true ≡ false = sym yes ∙ e in cc)

pub returns-clause-read : goal.returns-clause-read
returns-clause-read g c =
    some_so c.outcome_of_line.result _ (λ outcome n e. c.write_read.ensures ∙ ap (flat_map (read_for c.args.form.now.thousands.now c.args.form.now.decimal)) c.bare-bytes.ensures.value)
