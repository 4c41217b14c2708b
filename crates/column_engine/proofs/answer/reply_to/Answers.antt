use Rattle.std.proofs.Common.{arith}
use Rattle.column_engine.specs.declared.place.Place.TheVariants.{Start}
use Rattle.column_engine.proofs.RowLemmas.{content_short}
use Rattle.column_engine.proofs.answer.reply_to.Goals as goal

pub answer_text-requires-clause-short : goal.answer_text-requires-clause-short
answer_text-requires-clause-short g c = rw c.in-Some.ensures (omega (arith, content_short Start c.args.raw.now, c.requires))
