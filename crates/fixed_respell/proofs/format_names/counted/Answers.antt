use Rattle.std.proofs.Common.{◌≡◌, [], ◌∷◌, sym, ap, ◌∙◌}
use Rattle.fixed_numeral.specs.Numeral.{minus}
use Rattle.fixed_respell.proofs.FormatNameLemmas.{counted_after_minus, counted_without_minus}
use Rattle.fixed_respell.proofs.format_names.counted.Goals as goal
use Rattle.fixed_respell.proofs.format_names.counted.Goals.{in_default-via-in-Some+else-first-eq45, in_default-via-in_default}

pub returns-in-Some : goal.returns-in-Some
returns-in-Some c =
    let counts = c.in-Some.counts.now in
    let first : c.args.rest.now ≡ c.in-Some.first ∷ counts = c.in-Some.ensures in
    counted_after_minus c.args.signed c.args.rest.now counts c.counted_beyond.result (first ∙ ap (λ b. b ∷ counts) c.if-first-eq45.true) c.counted_beyond.ensures

pub returns-in_default : goal.returns-in_default
returns-in_default c =
    elim c.in_default.branch [
      | in_default-via-in-Some+else-first-eq45 w ↦ counted_without_minus c.args.signed c.args.rest.now c.counted_within.result (λ counts is. let both : minus ∷ counts ≡ w.in-Some.first ∷ w.in-Some.counts.now = sym is ∙ w.in-Some.ensures in let head : w.in-Some.first ≡ minus = cc in w.if-first-eq45.false head) c.counted_within.ensures
      | in_default-via-in_default w ↦ counted_without_minus c.args.signed c.args.rest.now c.counted_within.result (λ counts is. let e : [] ≡ minus ∷ counts = sym w.in_default.ensures ∙ is in absurd (cc)) c.counted_within.ensures
    ]
