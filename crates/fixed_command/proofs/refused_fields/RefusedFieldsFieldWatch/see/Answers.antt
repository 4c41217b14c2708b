use Rattle.std.proofs.Common.{◌≡◌, refl, subst}
use Rattle.line_engine.specs.AnswerText.{AnswerText}
use Rattle.fixed_command.specs.declared.refused_fields.RefusedFields.{RefusedFields}
use Rattle.fixed_command.proofs.refused_fields.RefusedFieldsFieldWatch.see.Goals as goal
use Rattle.fixed_command.proofs.refused_fields.RefusedFieldsFieldWatch.see.Goals.{else-is_refused, then-is_refused}

told_of : {W J : Type 0} (Told : W → Type 0) (a b : RefusedFields W J) → a ≡ b → Told a.watch → Told b.watch
told_of {W = W} {J = J} Told a b same told = subst (λ (fields : RefusedFields W J). Told fields.watch) same told

pub returns : goal.returns
returns g c =
    let reply : AnswerText = record { text = c.args.reply.now; fault = c.args.is_refused } in
    elim c.if-is_refused.branch [
      | then-is_refused w ↦ (
        rw w.self-is (rw w.if-is_refused.true w.refuse.ensures.first),
        rw w.self-is (rw w.if-is_refused.true w.refuse.ensures.rejects),
        subst (λ x. g.W.FieldWatch.Saw c.args.rule.now x c.args.place c.args.field.now reply c.see.new.self) w.refuse.ensures.watch
            (told_of (λ x. g.W.FieldWatch.Saw c.args.rule.now x c.args.place c.args.field.now reply c.see.new.self) c.if-is_refused.self w.refuse.new.self w.self-is c.see.ensures),
      )
      | else-is_refused w ↦ (
        rw w.self-is (rw w.if-is_refused.false refl),
        rw w.self-is (rw w.if-is_refused.false refl),
        told_of (λ x. g.W.FieldWatch.Saw c.args.rule.now x c.args.place c.args.field.now reply c.see.new.self) c.if-is_refused.self c.args.self.now w.self-is c.see.ensures,
      )
    ]
