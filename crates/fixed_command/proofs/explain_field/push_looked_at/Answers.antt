use Rattle.std.proofs.Common.{◌∙◌, ◌++◌, ◌∷◌, [], arith, ap, sym}
use Rattle.fixed_command.proofs.ExplainFieldLemmas.{looked_full, looked_none, looked_some}
use Rattle.fixed_command.proofs.explain_field.push_looked_at.Goals as goal
use Rattle.fixed_command.proofs.explain_field.push_looked_at.Goals.{else-room-gt0-via-then-room-gt0+else-not-contains, else-room-gt0-via-else-room-gt0}

pub returns-then-not-contains : goal.returns-then-not-contains
returns-then-not-contains c =
    let form = c.args.form.now in
    looked_some 640 c.args.numeral.now c.push.new.self form.thousands.now form.decimal c.args.byte (omega (arith, c.room.ensures, c.if-room-gt0.true))
    (sym c.contains.ensures.value ∙ c.if-not-contains.true) (c.push.ensures ∙ ap (λ b. c.args.numeral.now ++ b ∷ []) c.swapped.ensures)

pub returns-else-room-gt0 : goal.returns-else-room-gt0
returns-else-room-gt0 c = elim c.else-room-gt0.branch [
  | else-room-gt0-via-then-room-gt0+else-not-contains w ↦ looked_none 640 c.args.numeral.now c.args.form.now.thousands.now c.args.form.now.decimal
      c.args.byte (omega (arith, c.room.ensures)) (sym w.contains.ensures.value ∙ w.if-not-contains.false)
  | else-room-gt0-via-else-room-gt0 w ↦ looked_full 640 c.args.numeral.now _ (omega (arith, c.room.ensures))
]
