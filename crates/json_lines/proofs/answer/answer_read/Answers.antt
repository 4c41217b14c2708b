use Rattle.std.proofs.Common.{inl, inr, refl, subst, sym}
use Rattle.json_lines.specs.Answers.{fitted, refusal}
use Rattle.json_lines.specs.declared.fault.JsonFault.TheVariants.{NotJson}
use Rattle.json_lines.specs.Told.{HasReply, IsWithin}
use Rattle.json_lines.specs.declared.answer.Refused.{Refused}
use Rattle.json_lines.proofs.AnswerLemmas.{json_is, json_is_not}
use Rattle.json_lines.proofs.FitLemmas.{fit_keeps}
use Rattle.json_lines.proofs.answer.answer_read.Goals as goal

pub returns-then-not-branch-clause-made : goal.returns-then-not-branch-clause-made
returns-then-not-branch-clause-made g c = (refusal NotJson, inl (record { other = json_is_not c.in_ok-is_json.field-0 c.args.line.now c.in_ok-is_json.ensures c.if-not-branch.true; is = refl }), record { text_is = c.refuse.ensures; fault = refl })

pub returns-then-not-branch-clause-sees : goal.returns-then-not-branch-clause-sees
returns-then-not-branch-clause-sees g c = inl (record { other = json_is_not c.in_ok-is_json.field-0 c.args.line.now c.in_ok-is_json.ensures c.if-not-branch.true; same = refl; is = refl })

pub returns-clause-made : goal.returns-clause-made
returns-clause-made g c =
    let whole = c.answer_values-refused.ensures.whole.whole in
    (fitted whole, inr (record { json = json_is c.in_ok-is_json.field-0 c.args.line.now c.in_ok-is_json.ensures c.if-not-branch.false; whole = whole; is = c.answer_values-refused.ensures.whole.is; fits = refl }), c.fit.ensures.made whole c.answer_values-refused.ensures.whole.held)

pub returns-clause-sees : goal.returns-clause-sees
returns-clause-sees g c =
    let made = c.answer_values-refused.ensures.whole in
    inr (record {
      json = json_is c.in_ok-is_json.field-0 c.args.line.now c.in_ok-is_json.ensures c.if-not-branch.false;
      read = c.answer_values-refused.result;
      sees = c.answer_values-refused.ensures.sees;
      whole = made.whole;
      is = made.is;
      fits = c.fit.ensures.refused made.whole made.held;
    })

pub returns-clause-reply : goal.returns-clause-reply
returns-clause-reply g c =
    let made = c.answer_values-refused.ensures.whole in
    let Has : Refused → Type 0 = λ r. HasReply r (g.A.FieldRule.Answers c.args.task.now.rule.now) c.args.line.now c.answer_values-refused.new.space.reply in
    subst Has (sym (c.fit.ensures.refused made.whole made.held)) (fit_keeps Has made.whole c.answer_values-refused.result tt c.answer_values-refused.ensures.reply)

pub returns-clause-within : goal.returns-clause-within
returns-clause-within g c =
    let made = c.answer_values-refused.ensures.whole in
    let Lies : Refused → Type 0 = λ r. IsWithin r c.args.line.now in
    subst Lies (sym (c.fit.ensures.refused made.whole made.held)) (fit_keeps Lies made.whole c.answer_values-refused.result tt c.answer_values-refused.ensures.within)
