use Rattle.std.proofs.Common.{arith, sym, ◌∙◌}
use Rattle.std.proofs.lemmas.Fmt.{decimal_injective}
use Rattle.fixed.proofs.settings.limit_named.Goals as goal

pub returns-in-None-new : goal.returns-in-None-new
returns-in-None-new c n is =
    let same = sym is.text ∙ (sym c.as_bytes.ensures.value ∙ c.in-Some.ensures.number) in
    let e = decimal_injective n c.in-Some.bytes (omega (arith, is.most)) (omega (arith, c.in-Some.ensures.most)) same in
    c.in-None-new.ensures (omega (arith, is.some, e), omega (arith, is.most, e))
