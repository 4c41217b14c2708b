use Rattle.std.proofs.Common.{◌≡◌, ◌++◌, ◌∷◌, List, ℕ, sym, ap, ◌∙◌, subst}
use Rattle.std.proofs.lemmas.Result.{on_err_weaker}
use Rattle.line_engine.specs.Inner.Progress.{Flushes}
use Rattle.column_engine.specs.Answers.{as_field, name_of, new_name}
use Rattle.column_engine.proofs.row.put_header.Goals as goal

pub returns-in-NewColumn-clause-err : goal.returns-in-NewColumn-clause-err
returns-in-NewColumn-clause-err g c =
    let d = c.args.delimiter in
    let body = c.args.body.now in
    let end = c.args.end.now in
    let held = c.args.work.now.out in
    let a = g.K.Sink.written c.args.sink.now in
    let b = g.K.Sink.written c.put_longer.new.sink in
    let field = c.as_slice.result.now in
    let text : body ++ d ∷ field ++ end ≡ body ++ new_name d (name_of c.args.destination.now) ++ end =
    ap (λ l. body ++ d ∷ l ++ end) (c.as_slice.ensures.bytes ∙ c.write_as_field.ensures ∙ ap (as_field d) c.as_bytes.ensures.value)
    ∙ ap (λ w. body ++ new_name d (name_of w) ++ end) (sym c.in-NewColumn.is) in
    on_err_weaker c.put_longer.result
    (λ (last : (left : List ℕ) × Flushes held (body ++ d ∷ field ++ end) left a b). (last.0, subst (λ l. Flushes held l last.0 a b) text last.1))
    c.put_longer.ensures.err
