use Rattle.std.proofs.Common.{arith, map, sym, ◌∙◌}
use Rattle.json_lines.specs.Path.{step_of}
use Rattle.json_lines.proofs.PlaceLemmas.{name_on, name_stop}
use Rattle.json_lines.proofs.place.Place.pass_name.Goals as goal

pub returns-then-is_member-clause-place : goal.returns-then-is_member-clause-place
returns-then-is_member-clause-place c = λ frames tracks.
    name_on (map step_of c.args.steps.now) frames c.args.self.now c.args.name.now tracks (omega (arith, c.if-self-eq0.false)) c.if-self-index.false (sym c.is_member.ensures ∙ c.if-is_member.true)

pub returns-else-is_member-clause-place : goal.returns-else-is_member-clause-place
returns-else-is_member-clause-place c = λ frames tracks.
    name_stop (map step_of c.args.steps.now) frames c.args.self.now c.args.name.now tracks (omega (arith, c.if-self-eq0.false)) c.if-self-index.false (sym c.is_member.ensures ∙ c.if-is_member.false)
