use Rattle.std.proofs.Common.{List, ℕ, is_some, subst, sym}
use Rattle.fixed_show.specs.Blocks.{Appends}
use Rattle.fixed_command.specs.Blocks.{IsObject}
use Rattle.fixed_command.specs.declared.blocks.Question.{Question}
use Rattle.fixed_command.proofs.blocks.push_object.Goals as goal

pub returns-in-Format-clause-object : goal.returns-in-Format-clause-object
returns-in-Format-clause-object g c =
    subst (λ (q : Question). Appends (λ (text : List ℕ). IsObject q c.args.word.now (record { text = text; fault = is_some c.push_format_object.result })) _ c.args.out.now c.push_format_object.new.out) (sym c.in-Format.is) c.push_format_object.ensures.object
