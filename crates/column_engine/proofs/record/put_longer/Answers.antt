use Rattle.std.proofs.Common.{◌≡◌, ◌++◌, [], ◌∷◌, List, ℕ, sym, ◌∙◌, append_assoc, subst}
use Rattle.std.proofs.lemmas.Result.{on_ok_weaker, on_err_weaker}
use Rattle.line_engine.specs.Inner.Progress.{Flushes}
use Rattle.column_engine.proofs.GatherLemmas.{flushes_both, flushes_more}
use Rattle.column_engine.proofs.record.put_longer.Goals as goal

joined : (body field end : List ℕ) (d : ℕ) → (body ++ d ∷ []) ++ (field ++ end) ≡ body ++ d ∷ field ++ end
joined body field end d =
    append_assoc body (d ∷ []) (field ++ end) ∙ sym (append_assoc body (d ∷ field) end)

pub returns-in-Err-clause-err : goal.returns-in-Err-clause-err
returns-in-Err-clause-err g c =
    let p = c.in-Err.ensures.err in
    let a = g.K.Sink.written c.args.sink.now in
    let b = g.K.Sink.written c.put_row.new.sink in
    let rest = c.args.field.now ++ c.args.end.now in (
      p.0 ++ rest,
      subst (λ l. Flushes c.args.out.now l (p.0 ++ rest) a b) (joined c.args.body.now c.args.field.now c.args.end.now c.args.delimiter)
          (flushes_more c.args.out.now (c.args.body.now ++ c.args.delimiter ∷ []) p.0 rest a b p.1),
    )

pub returns-in-Ok-clause-ok : goal.returns-in-Ok-clause-ok
returns-in-Ok-clause-ok g c =
    let a = g.K.Sink.written c.args.sink.now in
    let b = g.K.Sink.written c.put_row.new.sink in
    let e = g.K.Sink.written c.put_row-in-Ok.new.sink in
    let rest = c.args.field.now ++ c.args.end.now in
    on_ok_weaker c.put_row-in-Ok.result
    (λ (last : Flushes c.put_row.new.out rest c.put_row-in-Ok.new.out b e).
    subst (λ l. Flushes c.args.out.now l c.put_row-in-Ok.new.out a e) (joined c.args.body.now c.args.field.now c.args.end.now c.args.delimiter)
    (flushes_both c.args.out.now (c.args.body.now ++ c.args.delimiter ∷ []) rest c.put_row.new.out c.put_row-in-Ok.new.out a b e c.in-Ok.ensures.ok last))
    c.put_row-in-Ok.ensures.ok

pub returns-in-Ok-clause-err : goal.returns-in-Ok-clause-err
returns-in-Ok-clause-err g c =
    let a = g.K.Sink.written c.args.sink.now in
    let b = g.K.Sink.written c.put_row.new.sink in
    let e = g.K.Sink.written c.put_row-in-Ok.new.sink in
    let rest = c.args.field.now ++ c.args.end.now in
    on_err_weaker c.put_row-in-Ok.result
    (λ (last : (left : List ℕ) × Flushes c.put_row.new.out rest left b e). (
      last.0,
      subst (λ l. Flushes c.args.out.now l last.0 a e) (joined c.args.body.now c.args.field.now c.args.end.now c.args.delimiter)
          (flushes_both c.args.out.now (c.args.body.now ++ c.args.delimiter ∷ []) rest c.put_row.new.out last.0 a b e c.in-Ok.ensures.ok last.1),
    ))
    c.put_row-in-Ok.ensures.err
