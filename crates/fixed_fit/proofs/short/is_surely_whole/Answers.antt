use Rattle.std.proofs.Common.{◌≡◌, ◌≤◌, ◌*◌, ◌/◌, ◌%◌, ◌^◌, ℕ, arith}
use Rattle.std.proofs.lemmas.Bool.{eqb-true}
use Rattle.fixed_fit.proofs.ShortLemmas.{whole_found}
use Rattle.fixed_fit.proofs.short.is_surely_whole.Goals as goal

pub returns-then-found-le18 : goal.returns-then-found-le18
returns-then-found-le18 c = λ is.
    let n = c.args.found in
    let word : ℕ = c.fraction_parts.result in
    let ulp : ℕ = c.ulp_parts.result in
    let none : word % ulp ≡ 0 = eqb-true (word % ulp) 0 is in
    let whole : word ≡ word / ulp * ulp = omega (arith, none, c.ulp_parts.ensures.some) in
    let few : n.places ≤ 18 = omega (arith, c.if-found-le18.true) in
    let count = c.ulp_parts.ensures.ulps in
    (word / ulp * count.0, whole_found word ulp (word / ulp) n.fraction (10 ^ n.places) (2 ^ c.args.frac) count.0 whole (c.fraction_parts.ensures.same few) count.1)
