use Rattle.std.proofs.Common.{[], ◌≡◌, ◌≢◌, ◌<◌, ◌+◌, ◌-◌, ◌++◌, ◌∷◌, true, false, length, arith, sym, ap, ◌∙◌, length-append, take, drop, map, subst}
use Rattle.std.proofs.lemmas.List.{take_all}
use Rattle.column_engine.specs.Answers.{HasNoNamed}
use Rattle.column_engine.specs.Rows.{content, raw_fields}
use Rattle.column_engine.specs.declared.place.Place.TheVariants.{Start}
use Rattle.column_engine.proofs.HeaderLemmas.{named_at, named_more}
use Rattle.column_engine.proofs.RowLemmas.{cut_more, first_field, rest_is, rest_length}
use Rattle.column_engine.proofs.header.place_of_name.Goals as goal

pub returns-then-is_named : goal.returns-then-is_named
returns-then-is_named c =
    let inv = c.fields.invariant in
    let d = c.args.delimiter in
    let rest = c.fields.rest.now in
    let raw = take c.field_end-end.result rest in
    let first = first_field d rest c.field_end-end.result c.field_end-end.ensures.within c.field_end-end.ensures.last c.field_end-end.ensures.more in
    named_at (map (content Start) (raw_fields d Start c.args.header.now)) inv.some (map (content Start) first.0) (content Start raw) c.args.name.now c.fields.column
    (inv.cut ∙ ap (λ l. inv.some ++ map (content Start) l) first.1) inv.many inv.others (c.is_named.ensures.0 c.if-is_named.true)

pub returns-then-end-rest : goal.returns-then-end-rest
returns-then-end-rest c =
    let inv = c.fields.invariant in
    let d = c.args.delimiter in
    let rest = c.fields.rest.now in
    let raw = take c.field_end-end.result rest in
    let whole : raw ≡ rest = take_all c.field_end-end.result rest (omega (arith, c.if-end-rest.true)) in
    let other : content Start raw ≢ c.args.name.now = λ e. let t : c.is_named.result ≡ true = c.is_named.ensures.1 e in let both : true ≡ false = sym t ∙ c.if-is_named.false in cc in
    let cut : map (content Start) (raw_fields d Start c.args.header.now) ≡ inv.some ++ content Start raw ∷ [] =
    inv.cut ∙ ap (λ l. inv.some ++ map (content Start) l) (c.field_end-end.ensures.last c.if-end-rest.true ∙ ap (λ l. l ∷ []) (sym whole)) in
    subst (HasNoNamed c.args.name.now) (sym cut) (named_more c.args.name.now (content Start raw) inv.some inv.others other)

pub fields-preserved : goal.fields-preserved
fields-preserved c =
    let inv = c.fields.invariant in
    let d = c.args.delimiter in
    let rest = c.fields.rest.now in
    let end = c.field_end-end.result in
    let raw = take end rest in
    let other : content Start raw ≢ c.args.name.now = λ e. let t : c.is_named.result ≡ true = c.is_named.ensures.1 e in let both : true ≡ false = sym t ∙ c.if-is_named.false in cc in
    let low : end < length rest = omega (arith, c.field_end-end.ensures.within, c.if-end-rest.false) in
    let next = take (length rest - (end + 1)) (drop (end + 1) rest) in
    let size : length next + end + 1 ≡ length rest = rest_length rest end low in
    record {
      some = inv.some ++ content Start raw ∷ [];
      cut = cut_more (map (content Start) (raw_fields d Start c.args.header.now)) inv.some (map (content Start) (raw_fields d Start rest)) (map (content Start) (raw_fields d Start next)) (content Start raw) inv.cut
          (ap (map (content Start)) (c.field_end-end.ensures.more low ∙ ap (λ l. raw ∷ raw_fields d Start l) (sym (rest_is rest end))));
      many = omega (arith, inv.many, length-append inv.some (content Start raw ∷ []));
      others = named_more c.args.name.now (content Start raw) inv.some inv.others other;
      fits = omega (arith, inv.fits, size);
    }
