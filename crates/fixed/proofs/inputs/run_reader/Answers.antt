use Rattle.std.proofs.Common.{refl}
use Rattle.fixed.proofs.RunLemmas.{fit_ends}
use Rattle.fixed.proofs.inputs.run_reader.Goals as goal

pub returns-in-Fit : goal.returns-in-Fit
returns-in-Fit g c = fit_ends _ c.in-Fit.task _ _ _ _ _ _ _ c.in-Fit.is (record {
  before = _;
  after = _;
  runs = c.run_on-in-Fit.ensures.1;
  input = rw c.new-source.ensures.reader c.new.ensures;
  from = refl;
  to = refl;
  no_read_failed = c.new-source.ensures.failures;
  no_write_failed = refl;
})
