use Rattle.std.proofs.Common.{arith}
use Rattle.fixed.proofs.FileLemmas.{lines_are}
use Rattle.fixed.proofs.product.lines_in.Goals as goal

pub returns-then-ends_line : goal.returns-then-ends_line
returns-then-ends_line c = grind (arith, lines_are c.args.bytes.now)

pub returns-else-ends_line : goal.returns-else-ends_line
returns-else-ends_line c = grind (arith, lines_are c.args.bytes.now)
