use Rattle.json_lines.proofs.RunLemmas.{told_as}
use Rattle.json_lines.proofs.splitter.JsonLines.tell.Goals as goal

pub returns-clause-saw : goal.returns-clause-saw
returns-clause-saw g c =
    told_as (g.W.FieldWatch.Saw c.args.self.now.task.now.rule.now) _ _ c.as_slice.result.now c.first_bytes-shown.result.now c.args.self.now.line c.message.result.now _ c.args.self.now.observer c.see.new.self
    c.whole_place-place.ensures c.first_bytes-shown.ensures.value c.as_slice.ensures c.message.ensures c.see.ensures
