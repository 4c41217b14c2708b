use Rattle.std.proofs.Common.{rules, ◌≡◌, length, refl}
use Rattle.fixed_columns.proofs.ReadingLemmas.{all_read, one_read}
use Rattle.fixed_columns.proofs.cells.read_cells.Goals as goal

pub loop-rest-preserved : goal.loop-rest-preserved
loop-rest-preserved c = one_read c.args.text.now c.loop-rest.rest.now c.first_line.result.0.now c.first_line.result.1.now c.loop-rest.number _ c.loop-rest.cells.items c.push.new.self.items c.in-Ok.cell c.first_line.ensures.lines c.first_line.ensures.shorter refl c.in-Ok.ensures.cell c.in-Ok-push.ensures.items c.loop-rest.invariant

pub returns-clause-cells : goal.returns-clause-cells
returns-clause-cells c =
    let none : length c.loop-rest.rest.now ≡ 0 = search rules in
    all_read c.args.text.now c.loop-rest.rest.now c.loop-rest.number c.loop-rest.cells.items none c.loop-rest.invariant
