use Rattle.std.proofs.Common.{rules, ◌≡◌, ◌∙◌}
use Rattle.std.specs.declared.cmp.Ordering.TheVariants.{Equal}
use Rattle.std.specs.Ordering.{int_cmp}
use Rattle.fixed_columns.specs.Cells.{format_order}
use Rattle.fixed_columns.proofs.CompareLemmas.{order_in_format}
use Rattle.fixed_columns.proofs.cell.CellOrd.cmp.Goals as goal

pub returns-in-Equal : goal.returns-in-Equal
returns-in-Equal c =
    let tie : format_order c.args.self.now.format c.args.other.now.format ≡ Equal = search rules in
    let bits : c.cmp.result ≡ int_cmp c.args.self.now.bits c.args.other.now.bits = search rules in
    bits ∙ order_in_format c.args.self.now c.args.other.now tie
