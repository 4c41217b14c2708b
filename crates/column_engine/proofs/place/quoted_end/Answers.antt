use Rattle.std.proofs.Common.{◌≡◌, ◌<◌, ◌+◌, ◌∙◌, arith, get_or, length, refl, subst, sym}
use Rattle.std.proofs.lemmas.Bool.{eq-eqb}
use Rattle.std.proofs.lemmas.List.{get_or-drop, length-drop, take_rest}
use Rattle.column_engine.specs.Places.{HasNoBefore}
use Rattle.column_engine.specs.declared.place.Place.TheVariants.{AfterQuote}
use Rattle.column_engine.proofs.PlaceLemmas.{quoted_field}
use Rattle.column_engine.proofs.RowLemmas.{fields_end}
use Rattle.column_engine.proofs.place.quoted_end.Goals as goal

pub returns-then-body-close-clause-more : goal.returns-then-body-close-clause-more
returns-then-body-close-clause-more c =
    let d = c.args.delimiter in
    let body = c.args.body.now in
    let k = c.before_byte-close.result in
    let opened = c.if-not-opens_quotes.ensures in
    let low : 1 + k + 1 < length body = omega (arith, c.if-body-close-lt2.false) in
    let none = subst (λ l. HasNoBefore 34 l k) (take_rest body 1) c.before_byte-close.ensures.none in
    let found = subst (λ l. k < length l → get_or l k 0 ≡ 34) (take_rest body 1) c.before_byte-close.ensures.found in
    let close = sym (get_or-drop 1 body k 0) ∙ found (omega (arith, low, length-drop 1 body)) in
    fields_end d AfterQuote body (1 + k + 1) low (eq-eqb _ d c.if-body-close.true)
    (quoted_field d body k (opened.some refl) (opened.quote refl) (opened.other refl) (omega (arith, low)) none close)
