use Rattle.std.proofs.Common.{List, ℕ, is_some, subst, sym}
use Rattle.fixed_show.specs.Blocks.{Appends}
use Rattle.fixed_command.specs.Blocks.{IsBlock}
use Rattle.fixed_command.specs.declared.blocks.Question.{Question}
use Rattle.fixed_command.proofs.blocks.push_block.Goals as goal

pub returns-in-Format-clause-block : goal.returns-in-Format-clause-block
returns-in-Format-clause-block g c =
    subst (λ (q : Question). Appends (λ (text : List ℕ). IsBlock q c.args.word.now (record { text = text; fault = is_some c.push_format.result })) _ c.args.out.now c.push_format.new.out) (sym c.in-Format.is) c.push_format.ensures.block
