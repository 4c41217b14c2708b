use Rattle.std.proofs.Common.{◌∙◌, map, subst, sym}
use Rattle.json_lines.specs.Inner.Tracked.{Tracks}
use Rattle.json_lines.specs.Path.{step_of}
use Rattle.json_lines.proofs.PlaceLemmas.{after_close}
use Rattle.json_lines.proofs.place.Place.pass_piece.Goals as goal

pub returns-in-125-clause-place : goal.returns-in-125-clause-place
returns-in-125-clause-place c = λ frames tracks.
    subst (λ f. Tracks (map step_of c.args.steps.now) f c.close.new.self)
    (sym (after_close frames c.args.piece.now c.args.rest.now (sym c.is_name.ensures ∙ c.if-is_name.false) c.in-125.is))
    (c.close.ensures.place (map step_of c.args.steps.now) frames tracks)
