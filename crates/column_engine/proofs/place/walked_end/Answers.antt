use Rattle.std.proofs.Common.{◌<◌, ◌+◌, length, sym, ◌∙◌, arith, subst}
use Rattle.std.proofs.lemmas.List.{take_rest}
use Rattle.column_engine.specs.Places.{StaysFor}
use Rattle.column_engine.proofs.PlaceLemmas.{ends_is, stay_more}
use Rattle.column_engine.proofs.RowLemmas.{fields_end, fields_from, fields_last, fields_more}
use Rattle.column_engine.proofs.place.walked_end.Goals as goal

pub bytes-init : goal.bytes-init
bytes-init c = record {
  within = omega arith;
  fields = c.first_place-place.ensures c.args.delimiter ∙ fields_from c.args.delimiter c.first_place-place.result c.args.body.now;
}

pub returns-then-at-body-clause-last : goal.returns-then-at-body-clause-last
returns-then-at-body-clause-last c =
    let d = c.args.delimiter in
    let body = c.args.body.now in
    let count = c.staying-at.result in
    let stays = subst (λ l. StaysFor d c.bytes.place l count) (take_rest body c.bytes.at) c.staying-at.ensures.stays in
    λ e. fields_last d c.bytes.place body (c.bytes.at + count) (omega (arith, e)) (stay_more d c.bytes.place body c.bytes.at count (omega (arith, e)) stays c.bytes.invariant.fields)

pub returns-then-ends_field-clause-more : goal.returns-then-ends_field-clause-more
returns-then-ends_field-clause-more c =
    let d = c.args.delimiter in
    let body = c.args.body.now in
    let count = c.staying-at.result in
    let stays = subst (λ l. StaysFor d c.bytes.place l count) (take_rest body c.bytes.at) c.staying-at.ensures.stays in
    λ low. fields_end d c.bytes.place body (c.bytes.at + count) low (sym c.ends_field.ensures ∙ c.if-ends_field.true)
    (stay_more d c.bytes.place body c.bytes.at count (omega (arith, low)) stays c.bytes.invariant.fields)

pub returns-then-ends_field-clause-delimiter : goal.returns-then-ends_field-clause-delimiter
returns-then-ends_field-clause-delimiter c = λ low. ends_is c.args.delimiter c.bytes.place _ (sym c.ends_field.ensures ∙ c.if-ends_field.true)

pub bytes-preserved : goal.bytes-preserved
bytes-preserved c =
    let d = c.args.delimiter in
    let body = c.args.body.now in
    let count = c.staying-at.result in
    let stays = subst (λ l. StaysFor d c.bytes.place l count) (take_rest body c.bytes.at) c.staying-at.ensures.stays in
    let low : c.bytes.at + count < length body = omega (arith, c.if-at-body.false, c.staying-at.ensures.within) in
    let before = stay_more d c.bytes.place body c.bytes.at count (omega (arith, low)) stays c.bytes.invariant.fields in
    record {
      within = omega (arith, low);
      fields = rw c.within_after-place.ensures (fields_more d c.bytes.place body (c.bytes.at + count) low (sym c.ends_field.ensures ∙ c.if-ends_field.false) before);
    }
