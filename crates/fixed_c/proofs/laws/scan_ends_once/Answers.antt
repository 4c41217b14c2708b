use Rattle.fixed_c.proofs.ScanEndLemmas
use Rattle.fixed_c.proofs.laws.scan_ends_once.Goals as goal

pub returns : goal.returns
returns c = ScanEndLemmas.scan_ends_once c.leading_is_the_one.ensures
