use Rattle.std.proofs.Common.{◌≡◌, arith, length}
use Rattle.std.proofs.lemmas.Grind.{common_steps}
use Rattle.line_engine.specs.Lines.{lines}
use Rattle.fixed_command.proofs.RenamedLemmas.{text_all, text_more}
use Rattle.fixed_command.proofs.renamed.renamed_text.Goals as goal

pub loop-rest-preserved : goal.loop-rest-preserved
loop-rest-preserved c =
    let pushed = c.in_ok-push_renamed.ensures in
    text_more (lines c.args.text.now) (lines c.loop-rest.rest.now) _ _ c.loop-rest.renamed.items c.push_renamed.new.text.items c.push.new.self.items pushed.0 c.loop-rest.invariant c.first_line.ensures.lines pushed.1 pushed.2 c.in_ok-push.ensures.items

pub returns : goal.returns
returns c =
    let none : length c.loop-rest.rest.now ≡ 0 = grind (arith, common_steps, c.loop-rest-test.false, c.is_empty.ensures) in
    text_all (lines c.args.text.now) c.loop-rest.rest.now c.loop-rest.renamed.items none c.loop-rest.invariant
