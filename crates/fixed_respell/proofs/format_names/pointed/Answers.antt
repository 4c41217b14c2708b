use Rattle.std.proofs.Common.{◌≡◌, ◌<◌, true, arith}
use Rattle.fixed_respell.proofs.FormatNameLemmas.{no_sign_bit, pointed_found}
use Rattle.fixed_respell.proofs.format_names.pointed.Goals as goal
use Rattle.fixed_respell.proofs.format_names.pointed.Goals.{else-signed-via-then-signed+else-whole-eq0, else-signed-via-else-signed}

pub returns-then-whole-eq0 : goal.returns-then-whole-eq0
returns-then-whole-eq0 c f is =
    let counts = c.in-Some.ensures in
    no_sign_bit c.args.signed c.in-Some.whole c.in-Some.frac c.args.rest.now c.if-signed.true c.if-whole-eq0.true counts.0 counts.1 counts.2 f is

pub returns : goal.returns
returns c =
    let counts = c.in-Some.ensures in
    let some : c.args.signed ≡ true → 0 < c.in-Some.whole =
    (λ e. elim c.else-signed.branch [
      | else-signed-via-then-signed+else-whole-eq0 w ↦ omega (arith, w.if-whole-eq0.false)
      | else-signed-via-else-signed w ↦ absurd (cc)
    ]) in
    pointed_found c.args.signed c.in-Some.whole c.in-Some.frac c.args.rest.now c.of_any_width.result counts.0 counts.1 some counts.2 c.of_any_width.ensures.exists c.of_any_width.ensures.parts
