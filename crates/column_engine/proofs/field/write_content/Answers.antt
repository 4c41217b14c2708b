use Rattle.std.proofs.Common.{arith}
use Rattle.column_engine.proofs.RowLemmas.{content_last, content_more}
use Rattle.column_engine.proofs.field.write_content.Goals as goal

pub bytes-preserved : goal.bytes-preserved
bytes-preserved c = record {
  text_is = rw (c.push_kept.ensures.text, c.within_after-place.ensures) (content_more c.bytes.place c.args.raw.now c.bytes.text c.bytes.at (omega arith) c.bytes.invariant.text_is);
  short = omega (arith, c.push_kept.ensures.short, c.bytes.invariant.short);
}

pub returns : goal.returns
returns c = content_last c.bytes.place c.args.raw.now c.bytes.text c.bytes.at (omega arith) c.bytes.invariant.text_is
