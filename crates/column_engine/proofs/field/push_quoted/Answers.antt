use Rattle.std.proofs.Common.{◌++◌, ◌∷◌, [], sym, ◌∙◌, ap, arith, append_assoc}
use Rattle.csv.specs.Writing.{default_writer, escaped}
use Rattle.column_engine.proofs.RowLemmas.{escaped_last, escaped_more}
use Rattle.column_engine.proofs.field.push_quoted.Goals as goal

pub bytes-preserved : goal.bytes-preserved
bytes-preserved c = record {
  shown_is = rw c.push_escaped.ensures.text (escaped_more c.args.delimiter _ c.bytes.shown c.args.text.now c.bytes.at (omega arith) c.bytes.invariant.shown_is);
  short = omega (arith, c.push_escaped.ensures.short, c.bytes.invariant.short);
}

pub returns : goal.returns
returns c =
    let inner = escaped (record default_writer { delimiter = c.args.delimiter }) c.args.text.now in
    c.push-2.ensures ∙ ap (λ l. l ++ 34 ∷ []) (sym (escaped_last c.args.delimiter (c.args.shown.now ++ 34 ∷ inner) c.bytes.shown c.args.text.now c.bytes.at c.bytes-test.false c.bytes.invariant.shown_is))
    ∙ append_assoc c.args.shown.now (34 ∷ inner) (34 ∷ [])
