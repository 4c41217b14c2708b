use Rattle.fixed_error.proofs.rest.behind_by_digits.Goals as goal

pub returns : goal.returns
returns g c = let scanned = rw c.in-Ok.is at c.scan-scanned.ensures.reading.read in c.rest_of_scanned.ensures c.args.text.now scanned
