use Rattle.std.proofs.Common.{◌+◌, ◌∷◌, None, subst, sym}
use Rattle.json_lines.specs.Inner.Tracked.{Tracks}
use Rattle.json_lines.specs.Places.{object}
use Rattle.json_lines.specs.declared.place.Off.TheVariants.{Object}
use Rattle.json_lines.specs.declared.place.Place.{Place}
use Rattle.json_lines.proofs.PlaceLemmas.{enter_below, enter_stop, unnamed}
use Rattle.json_lines.proofs.place.Place.open_object.Goals as goal
use Rattle.json_lines.proofs.place.Place.open_object.Goals.{then-self, else-self}

pub returns-clause-place : goal.returns-clause-place
returns-clause-place c = λ steps frames tracks.
    let now = c.args.self.now in
    let made : Place → Place = λ p. record { depth = p.depth + 1; on = p.on; off = p.off } in
    elim c.if-self.branch [
      | then-self w ↦ subst (λ p. Tracks steps (object None ∷ frames) (made p)) (sym w.self-is) (enter_stop steps (object None) frames now Object tracks w.if-self.true (unnamed steps now.depth) tt)
      | else-self w ↦ subst (λ p. Tracks steps (object None ∷ frames) (made p)) (sym w.self-is) (enter_below steps (object None) frames now tracks w.if-self.false)
    ]
