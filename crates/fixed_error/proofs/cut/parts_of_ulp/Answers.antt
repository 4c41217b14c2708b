use Rattle.std.proofs.Common.{◌∙◌, sym, ap, arith}
use Rattle.fixed_error.specs.Cut.{cut_parts}
use Rattle.fixed_error.proofs.CutLemmas.{other_parts, ten_parts}
use Rattle.fixed_error.proofs.cut.parts_of_ulp.Goals as goal

pub returns-in-Dec-clause-parts : goal.returns-in-Dec-clause-parts
returns-in-Dec-clause-parts c = sym (ap cut_parts c.in-Dec.is ∙ ten_parts)

pub returns-in_default : goal.returns-in_default
returns-in_default c = record {
  parts = sym (other_parts c.args.radix c.in_default.not-Dec);
  least = omega arith;
  most = omega arith;
}
