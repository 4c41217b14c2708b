use Rattle.std.proofs.Common.{inl, inr}
use Rattle.std.proofs.lemmas.Result.{err_from_is_err_and}
use Rattle.fixed_c.proofs.decimals.decimal_asked_of.Goals as goal

pub returns-in_err-mode : goal.returns-in_err-mode
returns-in_err-mode c =
    let p = err_from_is_err_and c.from_residual-in_err-mode.result c.from_residual-in_err-mode.ensures.1 in
    rw (p.1, p.2) (inr (c.in_ok-format.ensures.1, inr ((c.in_ok-policy.policy, c.in_ok-policy.ensures), inl c.in_err-mode.ensures)))
