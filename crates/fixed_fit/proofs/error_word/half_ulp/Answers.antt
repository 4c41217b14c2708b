use Rattle.std.proofs.Common.{◌≡◌, ◌∙◌, ◌++◌, ◌∷◌, [], List, ℕ, ap, arith}
use Rattle.fixed_fit.proofs.HalfLemmas.{half_is, more_zeros}
use Rattle.fixed_fit.proofs.error_word.half_ulp.Goals as goal

pub loop-place-init : goal.loop-place-init
loop-place-init c = record { zeros = c.push_bytes.ensures ∙ ap (λ (l : List ℕ). l ++ 48 ∷ 46 ∷ []) c.new-text.ensures; most = omega arith }

pub loop-place-preserved : goal.loop-place-preserved
loop-place-preserved c = record { zeros = more_zeros c.loop-place.place c.loop-place.text c.push.new.self c.loop-place.invariant.zeros c.push.ensures; most = omega (arith, c.loop-place-test.true) }

pub returns : goal.returns
returns c =
    let same : c.loop-place.place ≡ c.args.frac = omega (arith, c.loop-place-test.false, c.loop-place.invariant.most) in
    half_is c.loop-place.place c.args.frac c.loop-place.text c.push-2.new.self same c.loop-place.invariant.zeros c.push-2.ensures
