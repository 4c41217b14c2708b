use Rattle.std.proofs.Common.{◌≡◌, ◌∙◌, ap, subst, inr, refl, ℤ, FitsSigned, rules}
use Rattle.std.specs.Int.{w128}
use Rattle.std.proofs.lemmas.Int.{to_z-of_z}
use Rattle.fixed_bits.specs.Ranges.{IsOutOfRange}
use Rattle.fixed_enclose.specs.Lemmas.EnclosureLemmas.{upper}
use Rattle.fixed_enclose.proofs.enclosing.ends_of.Goals as goal

pub returns-then-contains : goal.returns-then-contains
returns-then-contains c =
    let found = c.args.found.now in
    let lo : FitsSigned w128 c.in_ok-lo.lo = search rules in
    let hi : FitsSigned w128 c.upper_end-hi.result = search rules in
    let next : c.upper_end-hi.result ≡ upper found.exact c.in_ok-lo.lo = rw (to_z-of_z w128 c.in_ok-lo.lo lo, c.is_exact.ensures) at c.upper_end-hi.ensures in
    rw (to_z-of_z w128 c.in_ok-lo.lo lo, to_z-of_z w128 c.upper_end-hi.result hi) (record {
      ends = λ v holds. let same = (c.in_ok-lo.ensures.image v holds).same in (same, next ∙ ap (λ w. upper found.exact w) same);
      low = c.in_ok-lo.ensures.range;
      high = rw (to_z-of_z w128 c.upper_end-hi.result hi, c.format.ensures) at (c.if-contains.ensures.inside.0 refl);
      low_wide = c.in_ok-lo.ensures.wide;
      high_wide = rw (to_z-of_z w128 c.upper_end-hi.result hi) at (c.if-contains.ensures.wide refl);
      none = tt;
    })

pub returns-else-contains-clause-none : goal.returns-else-contains-clause-none
returns-else-contains-clause-none c v holds =
    let found = c.args.found.now in
    let lo : FitsSigned w128 c.in_ok-lo.lo = search rules in
    let hi : FitsSigned w128 c.upper_end-hi.result = search rules in
    let same = (c.in_ok-lo.ensures.image v holds).same in
    let next : c.upper_end-hi.result ≡ upper found.exact c.in_ok-lo.lo = rw (to_z-of_z w128 c.in_ok-lo.lo lo, c.is_exact.ensures) at c.upper_end-hi.ensures in
    let past : IsOutOfRange found.format.signed found.format.width c.upper_end-hi.result = rw (to_z-of_z w128 c.upper_end-hi.result hi, c.format.ensures) at (c.if-contains.ensures.outside.0 refl) in
    let P : ℤ → Type 0 = λ w. IsOutOfRange found.format.signed found.format.width w in
    inr (subst P (next ∙ ap (λ w. upper found.exact w) same) past)
