use Rattle.fixed.specs.Unpack.{AreAmountsUnpacked}
use Rattle.fixed_pack.specs.declared.amounts.UnpackAmounts.{UnpackAmounts}
use Rattle.fixed.proofs.RefusalLemmas.{if_refused}
use Rattle.fixed.proofs.commands.amounts.unpack_settings.Goals as goal

pub returns-in_err-endian_of-clause-refused : goal.returns-in_err-endian_of-clause-refused
returns-in_err-endian_of-clause-refused c =
    if_refused c.from_residual-in_err-endian_of.result (λ _. (amounts : UnpackAmounts) → ¬ AreAmountsUnpacked c.args.given.now c.args.format amounts)
    (λ e amounts asked. c.in_err-endian_of.ensures.refused amounts.endian asked.endian)
