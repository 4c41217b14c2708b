use Rattle.fixed_names.proofs.ToolNameLemmas.{has_tail, mapped, no_tail}
use Rattle.fixed_names.proofs.tool_names.before.Goals as goal

pub returns : goal.returns
returns c =
    let bytes = c.args.bytes.now in
    let tail = c.args.tail.now in
    mapped c.strip_suffix.result c.strip_suffix.ensures.cases (λ other rest. no_tail bytes tail rest other) (λ rest found. has_tail bytes tail rest.now found.0 found.1)
