use Rattle.std.proofs.Common.{◌≡◌, ◌∙◌, ◌+◌, ◌-◌, ◌^◌, ◌<◌, ap, arith, map, min, refl, subst, sym, true≢false}
use Rattle.json_lines.specs.Inner.Tracked.{Tracks}
use Rattle.json_lines.specs.Path.{step_of}
use Rattle.json_lines.specs.Places.{element, matches, passed}
use Rattle.json_lines.specs.declared.place.Off.TheVariants.{Array}
use Rattle.json_lines.proofs.PlaceLemmas.{comma_left, comma_same, every_element, none_at, step_at}
use Rattle.json_lines.proofs.place.Place.pass.Goals as goal

pub returns-in-Element-clause-place : goal.returns-in-Element-clause-place
returns-in-Element-clause-place c = λ frames tracks.
    let steps = map step_of c.args.steps.now in
    let p = c.args.self.now in
    let small : c.in-Element.number < 2 ^ 32 = omega arith in
    let next : min (c.in-Element.number + 1) (2 ^ 64 - 1) ≡ c.saturating_add.result = omega (arith, c.from.ensures, c.saturating_add.ensures) in
    subst (λ n. Tracks steps (passed frames) (record { depth = p.depth; on = p.depth - 1; off = Array n })) next
    (comma_left steps frames p c.in-Element.number tracks (omega (arith, c.if-self-eq0.false)) c.if-self.true
    (λ f. step_at c.args.steps.now (p.depth - 1) f _ c.if-index-steps.true ∙ ap (λ s. matches (step_of s) f) c.in-Element.is) small)

pub returns-in_default : goal.returns-in_default
returns-in_default c = record {
  place = λ frames tracks. comma_same (map step_of c.args.steps.now) frames c.args.self.now tracks c.if-self.true
      (every_element c.args.steps.now (c.args.self.now.depth - 1) _ c.if-index-steps.true c.in_default.not-Element);
  depth = refl;
}

pub returns-else-index-steps-clause-place : goal.returns-else-index-steps-clause-place
returns-else-index-steps-clause-place c = λ frames tracks.
    comma_same (map step_of c.args.steps.now) frames c.args.self.now tracks c.if-self.true
    (λ n m is. absurd (true≢false (sym is ∙ none_at c.args.steps.now _ (element n) c.if-index-steps.false)))
