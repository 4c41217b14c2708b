use Rattle.fixed_fit.proofs.serving.Within.new.Goals as goal

pub returns-clause-served : goal.returns-clause-served
returns-clause-served g c = λ n. record {
  plain_bound = c.in_ok-plain.ensures.bound;
  signed_bound = c.in_ok-signed.ensures.bound;
  plain = c.in_ok-plain.ensures.kept;
  signed = c.in_ok-signed.ensures.kept;
}
