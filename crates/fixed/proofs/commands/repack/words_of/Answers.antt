use Rattle.std.specs.Prelude.{codes}
use Rattle.command_line.specs.Words.{value_of}
use Rattle.fixed.specs.Repack.{IsRepackNamed}
use Rattle.fixed_pack.specs.declared.repack.Repack.{Repack}
use Rattle.fixed.proofs.RefusalLemmas.{if_refused}
use Rattle.fixed.proofs.UnpackLemmas.{out_refused}
use Rattle.fixed.proofs.commands.repack.words_of.Goals as goal

pub returns-in_err-endian_out_of-clause-refused : goal.returns-in_err-endian_out_of-clause-refused
returns-in_err-endian_out_of-clause-refused c =
    let given = c.args.given.now in
    if_refused c.from_residual-in_err-endian_out_of.result (λ _. (words : Repack) → ¬ IsRepackNamed given words)
    (λ e words asked. out_refused (value_of given (codes "endian-out")) c.in_ok-endian.endian words.endian c.in_err-endian_out_of.ensures.refused
    words.endian_out asked.endian_out)
