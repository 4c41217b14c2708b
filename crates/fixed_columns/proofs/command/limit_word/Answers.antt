use Rattle.std.proofs.Common.{◌≡◌, arith, ap, sym, ◌∙◌}
use Rattle.std.specs.Prelude.{Ok, decimal}
use Rattle.std.proofs.lemmas.Bool.{false≢true}
use Rattle.std.proofs.lemmas.Slice.Eq.{bytes_eq-Decides}
use Rattle.std.proofs.lemmas.Fmt.{parse-decimal}
use Rattle.fixed_columns.proofs.command.limit_word.Goals.{else-number-ge1-via-then-number-ge1+then-number-le-MAX_LIMIT+else-eq, else-number-ge1-via-then-number-ge1+else-number-le-MAX_LIMIT, else-number-ge1-via-else-number-ge1}
use Rattle.fixed_columns.proofs.command.limit_word.Goals as goal

pub returns-in_default-clause-number : goal.returns-in_default-clause-number
returns-in_default-clause-number c n low high is =
    let read : c.parse.result ≡ Ok n = parse-decimal 64 n c.args.word.now c.parse.result (omega (arith, high)) (omega (arith, high)) is c.parse.ensures.value.0 in
    let not : c.parse.result ≡ _ = c.in_default.is in
    absurd cc

pub returns-else-number-ge1-clause-number : goal.returns-else-number-ge1-clause-number
returns-else-number-ge1-clause-number c n low high is =
    let read : c.parse.result ≡ Ok n = parse-decimal 64 n c.args.word.now c.parse.result (omega (arith, high)) (omega (arith, high)) is c.parse.ensures.value.0 in
    let found : c.parse.result ≡ Ok c.in-Ok.number = c.in-Ok.is in
    let same : c.in-Ok.number ≡ n = cc in
    elim c.else-number-ge1.branch [
      | else-number-ge1-via-then-number-ge1+then-number-le-MAX_LIMIT+else-eq w ↦ false≢true (sym (sym w.eq.ensures ∙ w.if-eq.false) ∙ (bytes_eq-Decides w.format.result.now c.args.word.now).1 (w.format.ensures.text ∙ (ap decimal same ∙ sym is)))
      | else-number-ge1-via-then-number-ge1+else-number-le-MAX_LIMIT w ↦ omega (arith, w.if-number-le-MAX_LIMIT.false, same, high)
      | else-number-ge1-via-else-number-ge1 w ↦ omega (arith, w.if-number-ge1.false, same, low)
    ]
