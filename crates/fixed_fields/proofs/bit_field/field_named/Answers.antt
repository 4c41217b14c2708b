use Rattle.std.proofs.Common.{◌≡◌, ◌∙◌, ⊎_elim, arith, sym, ap, true≢false}
use Rattle.std.proofs.lemmas.Bool.{cases_lt}
use Rattle.fixed_fields.specs.Names.{field_text}
use Rattle.fixed_fields.proofs.bit_field.field_named.Goals as goal

pub lows-preserved : goal.lows-preserved
lows-preserved c = λ low below is. ⊎_elim
    (λ less. c.lows.invariant low less is)
    (λ more.
    let same : low ≡ c.lows.low = omega (arith, below, more) in
    true≢false (sym (c.is_field.ensures.1 (is ∙ ap (field_text c.width-width.result) same)) ∙ c.if-is_field.false))
    (cases_lt low c.lows.low)

pub returns : goal.returns
returns c = λ low within is. c.lows.invariant low (omega (arith, within, c.lows-test.false, c.width-width.ensures.width)) (is ∙ ap (λ w. field_text w low) (sym c.width-width.ensures.width))
