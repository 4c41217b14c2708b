use Rattle.std.proofs.Common.{◌∙◌, arith, ap, drop}
use Rattle.json_lines.specs.Pieces.{string_rest}
use Rattle.json_lines.proofs.PieceLemmas.{rest_end, rest_escaped, rest_other, rest_quote}
use Rattle.json_lines.proofs.piece.string_end.Goals as goal

pub bytes-preserved-then-is_escaped : goal.bytes-preserved-then-is_escaped
bytes-preserved-then-is_escaped c =
    let here = ap (λ e. string_rest e (drop c.bytes.at c.args.line.now)) c.if-is_escaped.true
    ∙ rest_escaped c.args.line.now c.bytes.at c.bytes-test.true in
    (omega (arith, c.bytes.invariant.0, here), omega (arith, c.bytes-test.true))

pub returns-then-byte-eq34-clause-value : goal.returns-then-byte-eq34-clause-value
returns-then-byte-eq34-clause-value c =
    let here = ap (λ e. string_rest e (drop c.bytes.at c.args.line.now)) c.if-is_escaped.false
    ∙ rest_quote c.args.line.now c.bytes.at c.bytes-test.true c.if-byte-eq34.true in
    omega (arith, c.bytes.invariant.0, here)

pub bytes-preserved : goal.bytes-preserved
bytes-preserved c =
    let here = ap (λ e. string_rest e (drop c.bytes.at c.args.line.now)) c.if-is_escaped.false
    ∙ rest_other c.args.line.now c.bytes.at c.bytes-test.true c.if-byte-eq34.false in
    (omega (arith, c.bytes.invariant.0, here), omega (arith, c.bytes-test.true))

pub returns-clause-value : goal.returns-clause-value
returns-clause-value c =
    let here = rest_end c.args.line.now c.bytes.at c.bytes.is_escaped c.bytes-test.false in
    omega (arith, c.bytes.invariant.0, here)
