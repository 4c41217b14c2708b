use Rattle.std.proofs.Common.{◌≡◌, ◌++◌, ◌∙◌, ap, arith, length}
use Rattle.fixed_command.specs.Blocks.{refused_answer}
use Rattle.fixed_command.specs.LineBlocks.{given_line, line_refusal}
use Rattle.fixed_command.proofs.LineBlockLemmas.{answer_longer}
use Rattle.fixed_command.proofs.line_blocks.BlockRuleRule.push_refusal.Goals as goal

pub push_refused-requires : goal.push_refused-requires
push_refused-requires g c =
    let longer = answer_longer c.args.self.now.form (given_line c.args.line.now) c.args.cause.now.text.now in
    omega (arith, longer.0, c.requires.room, ap length c.new-text.ensures)

pub push_bytes-requires : goal.push_bytes-requires
push_bytes-requires g c =
    let same : c.as_bytes.result.now ≡ line_refusal c.args.self.now.form c.args.line.now c.args.cause.now =
    c.as_bytes.ensures.value ∙ c.push_refused.ensures ∙ ap (λ t. t ++ refused_answer c.args.self.now.form c.given_line.result.now c.args.cause.now.text.now) c.new-text.ensures ∙ ap (λ w. refused_answer c.args.self.now.form w c.args.cause.now.text.now) c.given_line.ensures in
    omega (arith, c.requires.room, ap length same)
