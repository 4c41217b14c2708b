use Rattle.std.proofs.Common.{arith, sym, false, append_assoc, append-nil}
use Rattle.fixed_write.proofs.Public.{fraction_some}
use Rattle.fixed_decimal.proofs.TextLemmas.{fraction_none}
use Rattle.fixed_decimal.proofs.text.push_fraction.Goals as goal

pub returns-then-places-gt0 : goal.returns-then-places-gt0
returns-then-places-gt0 g c = rw (c.push_last.ensures, c.push.ensures, fraction_some 10 false c.args.places c.args.number c.if-places-gt0.true) (append_assoc c.args.out.now _ _)

pub returns-else-places-gt0 : goal.returns-else-places-gt0
returns-else-places-gt0 g c = rw (fraction_none c.args.places c.args.number (omega arith)) (sym (append-nil c.args.out.now))
