use Rattle.std.proofs.Common.{◌≡◌, ◌<◌, ◌+◌, ◌-◌, ◌++◌, [], ◌∷◌, refl, ap, ◌∙◌, length, arith, length-append, subst, take, drop}
use Rattle.std.proofs.lemmas.List.{take_rest}
use Rattle.column_engine.specs.Gathered.{IsFieldAt}
use Rattle.column_engine.specs.Rows.{raw_fields}
use Rattle.column_engine.specs.declared.place.Place.TheVariants.{Start}
use Rattle.column_engine.proofs.FieldsLemmas.{before_next, field_at, field_here, last_count}
use Rattle.column_engine.proofs.RowLemmas.{cut_more}
use Rattle.column_engine.proofs.fields.find_field.Goals as goal

pub fields-init : goal.fields-init
fields-init c = record { some = []; cut = refl; many = refl; fits = omega arith; span = omega arith; low = omega arith; before = refl }

pub returns-then-count-column-clause-ok : goal.returns-then-count-column-clause-ok
returns-then-count-column-clause-ok c =
    let inv = c.fields.invariant in
    let d = c.args.delimiter in
    let body = c.args.body.now in
    let start = c.fields.start in
    let found = field_at d body _ start c.field_end.result inv.fits (take_rest body start) c.field_end.ensures.within c.field_end.ensures.last c.field_end.ensures.more c.field_end.ensures.delimiter in
    let here = field_here d body start (start + c.field_end.result) c.fields.count inv.some (omega arith) found inv.cut inv.many inv.before in
    (refl, subst (λ k. IsFieldAt d body k start (start + c.field_end.result)) c.if-count-column.true here)

pub returns-then-end-body-clause-err : goal.returns-then-end-body-clause-err
returns-then-end-body-clause-err c =
    let inv = c.fields.invariant in
    let d = c.args.delimiter in
    let body = c.args.body.now in
    let start = c.fields.start in
    let end = start + c.field_end.result in
    let found = field_at d body _ start c.field_end.result inv.fits (take_rest body start) c.field_end.ensures.within c.field_end.ensures.last c.field_end.ensures.more c.field_end.ensures.delimiter in
    let raw = take (end - start) (drop start body) in
    let cut : raw_fields d Start body ≡ inv.some ++ raw ∷ [] = inv.cut ∙ ap (λ l. inv.some ++ l) (found.last c.if-end-body.true) in
    (last_count (raw_fields d Start body) inv.some raw c.fields.count cut inv.many, omega (arith, inv.low, c.if-count-column.false))

pub fields-preserved : goal.fields-preserved
fields-preserved c =
    let inv = c.fields.invariant in
    let d = c.args.delimiter in
    let body = c.args.body.now in
    let start = c.fields.start in
    let end = start + c.field_end.result in
    let found = field_at d body _ start c.field_end.result inv.fits (take_rest body start) c.field_end.ensures.within c.field_end.ensures.last c.field_end.ensures.more c.field_end.ensures.delimiter in
    let raw = take (end - start) (drop start body) in
    let low : end < length body = omega (arith, found.within, c.if-end-body.false) in
    record {
      some = inv.some ++ raw ∷ [];
      cut = cut_more (raw_fields d Start body) inv.some (raw_fields d Start (drop start body)) (raw_fields d Start (drop (end + 1) body)) raw inv.cut (found.more low);
      many = omega (arith, inv.many, length-append inv.some (raw ∷ []));
      fits = omega (arith, low);
      span = omega (arith, inv.span);
      low = omega (arith, inv.low, c.if-count-column.false);
      before = before_next d body start end c.fields.count inv.some (omega arith) inv.many (found.delimiter low) inv.before;
    }
