use Rattle.std.proofs.Common.{◌≡◌, ◌<◌, ◌-◌, length, sym, ◌∙◌, arith, drop, take, false, get_or}
use Rattle.std.specs.Prelude.{◌==◌}
use Rattle.std.proofs.lemmas.List.{take_rest}
use Rattle.column_engine.proofs.RowLemmas.{between_raw, plain_empty, plain_first}
use Rattle.column_engine.proofs.field.plain_content.Goals as goal

pub returns-then-is_empty : goal.returns-then-is_empty
returns-then-is_empty c = plain_empty c.args.raw.now (sym c.is_empty.ensures ∙ c.if-is_empty.true)

pub returns-in-Some : goal.returns-in-Some
returns-in-Some c =
    let raw = c.args.raw.now in
    let empty : (length raw == 0) ≡ false = sym c.is_empty.ensures ∙ c.if-is_empty.false in
    let some : 0 < length raw = grind (arith, empty) in
    between_raw raw (take (length raw - 1) (drop 1 raw)) c.in-Some.end (take_rest raw 1) some c.if-raw-ne34.false c.if-end-rest.true c.in-Some.ensures.1 c.in-Some.ensures.0.before

pub returns-then-raw-ne34 : goal.returns-then-raw-ne34
returns-then-raw-ne34 c =
    let other : (get_or c.args.raw.now 0 0 == 34) ≡ false = grind (arith, c.if-raw-ne34.true) in
    sym (plain_first c.args.raw.now other)
