use Rattle.std.proofs.Common.{ℕ}
use Rattle.std.proofs.lemmas.Result.{IfErr-weaker}
use Rattle.fixed.specs.Unpack.{IsBinaryWritten, IsWrittenAsked}
use Rattle.fixed.specs.declared.commands.unpack.Written.{Written}
use Rattle.fixed.proofs.UnpackLemmas.{amounts_refused, binary_refused}
use Rattle.fixed.proofs.commands.unpack.written_of.Goals as goal

pub returns-in-Err-clause-refused : goal.returns-in-Err-clause-refused
returns-in-Err-clause-refused c written files asked =
    amounts_refused c.args.given.now c.in-Some.format written files c.in-Some.ensures (λ x. c.in-Err.ensures.refused x.amounts x.are_amounts) asked

pub returns-in-None-clause-refused : goal.returns-in-None-clause-refused
returns-in-None-clause-refused c =
    let given = c.args.given.now in
    IfErr-weaker c.binary_written.result (λ _. (written : Written) (files : ℕ) → ¬ IsBinaryWritten given written files)
    (λ _. (written : Written) (files : ℕ) → ¬ IsWrittenAsked given written files)
    (λ e none written files. binary_refused given written files c.in-None.ensures (none written files)) c.binary_written.ensures.refused
