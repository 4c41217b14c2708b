use Rattle.std.proofs.Common.{arith, inl, inr}
use Rattle.fixed.proofs.ColumnLemmas.{part_in, parts_more}
use Rattle.fixed.proofs.commands.column_words.listed.Goals as goal

pub returns-in-Err-column_of-clause-refused : goal.returns-in-Err-column_of-clause-refused
returns-in-Err-column_of-clause-refused c = elim c.in-Err-column_of.ensures.refused [
  | inl e ↦ inl e
  | inr never ↦ inr (λ a x.
      let found = part_in c.args.has_header c.in-Ok.parts.items c.parts.at c.index.result.now _ a (omega arith) c.index.ensures c.in-Ok.ensures x in
      never found.0 found.1)
]

pub parts-preserved : goal.parts-preserved
parts-preserved c =
    parts_more c.args.has_header c.in-Ok.parts.items c.parts.at c.index.result.now c.parts.columns.items c.push.new.columns.items c.in-Ok-column_of.column
    (omega arith) c.index.ensures c.parts.invariant c.in-Ok-column_of.ensures.value c.in_ok-push.ensures.ok
