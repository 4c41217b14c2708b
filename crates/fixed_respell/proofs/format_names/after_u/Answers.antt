use Rattle.std.proofs.Common.{◌≡◌, [], ◌∷◌, sym, ◌∙◌}
use Rattle.fixed_respell.proofs.FormatNameLemmas.{after_q_found, counted_after_u, not_q_first}
use Rattle.fixed_respell.proofs.format_names.after_u.Goals as goal
use Rattle.fixed_respell.proofs.format_names.after_u.Goals.{in_default-via-in-Some+else-is_letter, in_default-via-in_default}

pub returns-in-Some : goal.returns-in-Some
returns-in-Some c = after_q_found c.args.rest.now c.in-Some.first c.in-Some.counts.now c.pointed.result c.in-Some.ensures (c.is_letter.ensures.0 c.if-is_letter.true) c.pointed.ensures

pub returns-in_default : goal.returns-in_default
returns-in_default c =
    elim c.in_default.branch [
      | in_default-via-in-Some+else-is_letter w ↦ counted_after_u c.args.rest.now c.counted.result (not_q_first c.args.rest.now w.in-Some.first w.in-Some.counts.now w.is_letter.result w.in-Some.ensures w.is_letter.ensures w.if-is_letter.false) c.counted.ensures
      | in_default-via-in_default w ↦ counted_after_u c.args.rest.now c.counted.result (λ q counts letter is. let e : [] ≡ q ∷ counts = sym w.in_default.ensures ∙ is in absurd (cc)) c.counted.ensures
    ]
