use Rattle.std.proofs.Common.{◌∙◌, refl, subst, sym}
use Rattle.std.proofs.lemmas.List.{take_rest}
use Rattle.column_engine.specs.Places.{HasNoBefore}
use Rattle.column_engine.proofs.PlaceLemmas.{opened_over, outside_is, plain_over, quoted_over}
use Rattle.column_engine.specs.declared.place.Place.TheVariants.{AfterQuote}
use Rattle.column_engine.proofs.RowLemmas.{places_none, unended_none}
use Rattle.column_engine.proofs.place.pass_over.Goals as goal

pub returns-in-Quoted-clause-unended : goal.returns-in-Quoted-clause-unended
returns-in-Quoted-clause-unended c = rw c.in-Quoted.is (quoted_over c.args.delimiter c.args.bytes.now c.before_byte-in-Quoted.result c.before_byte-in-Quoted.ensures.none).0

pub returns-in-Quoted-clause-after : goal.returns-in-Quoted-clause-after
returns-in-Quoted-clause-after c = rw c.in-Quoted.is (quoted_over c.args.delimiter c.args.bytes.now c.before_byte-in-Quoted.result c.before_byte-in-Quoted.ensures.none).1

pub returns-in-AfterQuote-clause-unended : goal.returns-in-AfterQuote-clause-unended
returns-in-AfterQuote-clause-unended c = unended_none c.args.delimiter c.args.place

pub returns-in-AfterQuote-clause-after : goal.returns-in-AfterQuote-clause-after
returns-in-AfterQuote-clause-after c = rw c.in-AfterQuote.is (sym (places_none c.args.delimiter AfterQuote))

pub returns-in_default : goal.returns-in_default
returns-in_default c =
    let passed = plain_over c.args.delimiter c.args.place c.args.bytes.now c.before_mark-count.result (outside_is c.args.place c.in_default.not-Quoted) c.before_mark-count.ensures.plain in
    record {
      within = c.before_mark-count.ensures.within;
      unended = passed.unended;
      after = c.behind_plain.ensures ∙ passed.behind;
    }

pub returns-then-opens_field-clause-unended : goal.returns-then-opens_field-clause-unended
returns-then-opens_field-clause-unended c =
    let bytes = c.args.bytes.now in
    let opened = c.if-opens_field.ensures in
    let none = subst (λ l. HasNoBefore 34 l c.before_byte.result) (take_rest bytes 1) c.before_byte.ensures.none in
    rw (opened.start refl) (opened_over c.args.delimiter bytes c.before_byte.result (opened.some refl) (opened.quote refl) (opened.other refl) none).0

pub returns-then-opens_field-clause-after : goal.returns-then-opens_field-clause-after
returns-then-opens_field-clause-after c =
    let bytes = c.args.bytes.now in
    let opened = c.if-opens_field.ensures in
    let none = subst (λ l. HasNoBefore 34 l c.before_byte.result) (take_rest bytes 1) c.before_byte.ensures.none in
    rw (opened.start refl) (opened_over c.args.delimiter bytes c.before_byte.result (opened.some refl) (opened.quote refl) (opened.other refl) none).1
