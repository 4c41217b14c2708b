use Rattle.std.proofs.Common.{◌≡◌, ◌<◌, arith, sym, ◌∙◌, ap, length, get_or}
use Rattle.std.specs.Fmt.{decimal}
use Rattle.fixed_respell.proofs.NumberLemmas.{plain, plain_is}
use Rattle.fixed_respell.proofs.decimal.number_word.Goals as goal
use Rattle.fixed_respell.proofs.decimal.number_word.Goals.{then-is_empty-via-then-is_empty, then-is_empty-via-else-is_empty+then-word-gt10, else-word-eq48-via-then-word-eq48+else-word-gt1, else-word-eq48-via-else-word-eq48}

pub returns-then-is_empty-clause-number : goal.returns-then-is_empty-clause-number
returns-then-is_empty-clause-number c n most e =
    let p = plain c.args.word.now n (omega arith) e in
    elim c.then-is_empty.branch [
      | then-is_empty-via-then-is_empty w ↦ grind (arith, p.some, c.is_empty.ensures)
      | then-is_empty-via-else-is_empty+then-word-gt10 w ↦ omega (arith, p.short)
    ]

pub returns-then-word-gt1-clause-number : goal.returns-then-word-gt1-clause-number
returns-then-word-gt1-clause-number c n most e =
    let p = plain c.args.word.now n (omega arith) e in
    omega (arith, p.no_spare c.if-word-eq48.true)

pub returns-in-Some-clause-number : goal.returns-in-Some-clause-number
returns-in-Some-clause-number c =
    let some : 0 < length c.args.word.now = grind (arith, c.is_empty.ensures, c.if-is_empty.false) in
    let no_spare : get_or c.args.word.now 0 0 ≡ 48 → length c.args.word.now ≡ 1 = λ is.
    elim c.else-word-eq48.branch [
      | else-word-eq48-via-then-word-eq48+else-word-gt1 w ↦ omega (arith, some)
      | else-word-eq48-via-else-word-eq48 w ↦ absurd (w.if-word-eq48.false is)
    ] in
    plain_is c.args.word.now some (omega arith) no_spare c.in-Some.ensures.0 ∙ ap decimal (sym c.in-Some.ensures.1)

pub returns-in_default-clause-number : goal.returns-in_default-clause-number
returns-in_default-clause-number c n most e =
    let p = plain c.args.word.now n (omega arith) e in
    omega (arith, p.value, c.in-Some.ensures.1)

pub returns-in_default-2-clause-number : goal.returns-in_default-2-clause-number
returns-in_default-2-clause-number c n most e =
    let p = plain c.args.word.now n (omega arith) e in
    c.in_default.ensures p.digits
