use Rattle.std.proofs.Common.{◌≡◌, ⊎_elim, arith, length, subst}
use Rattle.std.proofs.lemmas.Bool.{cases_lt}
use Rattle.fixed_fields.specs.Fields.{IsFieldAt}
use Rattle.fixed_fields.proofs.NameLemmas.{at_colon, within}
use Rattle.fixed_fields.proofs.named.field_of_name.Goals as goal

pub colons-preserved : goal.colons-preserved
colons-preserved c = λ index field below at. ⊎_elim
    (λ less. c.colons.invariant index field less at)
    (λ more.
    let same : index ≡ c.colons.index = omega (arith, below, more) in
    c.in-None.ensures field (subst (λ n. IsFieldAt c.args.word.now n field) same at))
    (cases_lt index c.colons.index)

pub returns : goal.returns
returns c = λ field named. c.colons.invariant (length named.bits) field (omega (arith, within c.args.word.now field named, c.colons-test.false)) (at_colon c.args.word.now field named)
