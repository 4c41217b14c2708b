use Rattle.json_lines.proofs.PlaceLemmas.{leave}
use Rattle.json_lines.proofs.place.Place.close.Goals as goal

pub returns-then-self-gt0-clause-place : goal.returns-then-self-gt0-clause-place
returns-then-self-gt0-clause-place c = λ steps frames tracks. leave steps frames c.args.self.now tracks c.if-self-gt0.true c.min-self.result c.min-self.ensures
