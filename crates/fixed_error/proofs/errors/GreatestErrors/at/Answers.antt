use Rattle.std.proofs.Common.{sym, subst, arith}
use Rattle.fixed_error.specs.Errors.{IsGreatestAt}
use Rattle.fixed_error.proofs.ErrorsLemmas.{error_at}
use Rattle.fixed_error.proofs.errors.GreatestErrors.at.Goals as goal

pub returns : goal.returns
returns c = λ r count entries h.
    subst (λ e. IsGreatestAt r c.args.frac entries e.greatest) (sym c.index.ensures) (error_at r 0 c.args.frac entries c.args.self.now.errors.items c.args.frac c.index.result.now c.requires (omega arith) h.errors).is_greatest
