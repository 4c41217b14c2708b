use Rattle.std.proofs.Common.{◌≡◌, ◌∙◌, ◌<◌, ap, arith, get_or, take}
use Rattle.std.proofs.lemmas.List.{length-take, take_all}
use Rattle.fixed_bits.specs.Order.{rank}
use Rattle.fixed_bits.proofs.Public.{rank_below}
use Rattle.fixed_least.proofs.least.least_of.Goals as goal

pub returns-clause-short : goal.returns-clause-short
returns-clause-short c = omega (arith, length-take 248 c.loop-i.places, c.loop-i.invariant.size)

pub returns-clause-places : goal.returns-clause-places
returns-clause-places c f is low =
    let all : take 248 c.loop-i.places ≡ c.loop-i.places = take_all 248 c.loop-i.places (omega (arith, c.loop-i.invariant.size)) in
    let past : rank f < c.loop-i.i = omega (arith, rank_below f is, c.loop-i-test.false) in
    let h = c.loop-i.invariant.passed f is past in
    (ap (λ l. get_or l (rank f) 0) all ∙ h.0, h.1)

pub returns-clause-first : goal.returns-clause-first
returns-clause-first c f is e = absurd (omega (arith, e, length-take 248 c.loop-i.places, c.loop-i.invariant.size, rank_below f is))
