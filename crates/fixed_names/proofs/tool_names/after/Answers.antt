use Rattle.fixed_names.proofs.ToolNameLemmas.{has_head, mapped, no_head}
use Rattle.fixed_names.proofs.tool_names.after.Goals as goal

pub returns : goal.returns
returns c =
    let bytes = c.args.bytes.now in
    let head = c.args.head.now in
    mapped c.strip_prefix.result c.strip_prefix.ensures.cases (λ other rest. no_head bytes head rest other) (λ rest found. has_head bytes head rest.now found.0 found.1)
