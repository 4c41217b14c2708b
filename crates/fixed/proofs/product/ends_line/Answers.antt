use Rattle.fixed.proofs.FileLemmas.{ends_by_last}
use Rattle.fixed.proofs.product.ends_line.Goals as goal

pub returns-in-len1-up : goal.returns-in-len1-up
returns-in-len1-up c = ends_by_last c.args.bytes.now c.in-len1-up.len_at_least
