use Rattle.std.proofs.Common.{refl, inr}
use Rattle.fixed_c.proofs.decimal_rows.print_row.Goals as goal

pub returns-in-Err : goal.returns-in-Err
returns-in-Err c = inr (c.in-Err.refusal, c.code.ensures, c.in-Err.ensures, refl)
