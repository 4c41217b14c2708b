use Rattle.std.proofs.Common.{inl, inr}
use Rattle.std.proofs.lemmas.Result.{err_from_is_err_and}
use Rattle.fixed_c.proofs.asked.asked_of.Goals as goal

pub returns-in_err-mode : goal.returns-in_err-mode
returns-in_err-mode c =
    let p = err_from_is_err_and c.from_residual-in_err-mode.result c.from_residual-in_err-mode.ensures.1 in
    rw (p.1, p.2) (inr ((c.in_ok-radix.radix, c.in_ok-radix.ensures), inr (c.in_ok-format.ensures.1, inr ((c.in_ok-policy.policy, c.in_ok-policy.ensures), inl c.in_err-mode.ensures))))

pub returns-in_err-policy : goal.returns-in_err-policy
returns-in_err-policy c =
    let p = err_from_is_err_and c.from_residual-in_err-policy.result c.from_residual-in_err-policy.ensures.1 in
    rw (p.1, p.2) (inr ((c.in_ok-radix.radix, c.in_ok-radix.ensures), inr (c.in_ok-format.ensures.1, inl c.in_err-policy.ensures)))
