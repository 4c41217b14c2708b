use Rattle.std.proofs.Common.{◌<◌, length, arith}
use Rattle.std.proofs.lemmas.Grind.{common_steps}
use Rattle.column_engine.specs.Rows.{field_texts}
use Rattle.column_engine.proofs.HeaderLemmas.{found_more, missing_at}
use Rattle.column_engine.proofs.row.find_columns.Goals as goal

pub returns-in-None-clause-missing : goal.returns-in-None-clause-missing
returns-in-None-clause-missing c = λ e.
    missing_at (field_texts c.args.delimiter c.args.header.now) c.args.columns.now c.index-columns-at.result c.columns.at c.columns-test.true c.index-columns-at.is c.in-None.ensures

pub columns-preserved : goal.columns-preserved
columns-preserved c =
    let short : c.columns.at < length c.columns.asked = omega (arith, c.columns.invariant.as_many, c.columns-test.true) in
    record {
      as_many = grind (arith, common_steps, c.columns.invariant.as_many);
      found = found_more (field_texts c.args.delimiter c.args.header.now) c.args.columns.now c.columns.asked c.index-columns-at.result c.in-Some.range c.columns.at c.columns-test.true short
          c.index-columns-at.is c.columns.invariant.found c.in-Some.ensures;
    }
