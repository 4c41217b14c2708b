use Rattle.std.proofs.Common.{◌≡◌, ◌<◌, ◌≤◌, ◌⊎◌, length, sym, subst, arith}
use Rattle.fixed_fit.specs.Inner.Serving.{IsIn}
use Rattle.fixed_fit.specs.declared.lengths.Lengths.{Lengths}
use Rattle.fixed_fit.proofs.ServingLemmas.{best_all, best_more, in_get, some_items}
use Rattle.fixed_fit.proofs.serving.best_of.Goals as goal

pub bounds-lengths-0 : goal.bounds-lengths-0
bounds-lengths-0 c = let some = some_items c.args.low c.args.lengths.now c.requires in omega (arith, some)

pub loop-left-init : goal.loop-left-init
loop-left-init c =
    let items = c.args.lengths.now in
    record {
      among = subst (λ (l : Lengths). IsIn l items) (sym c.index-lengths-0.is) (in_get items 0 c.index-lengths-0.result (some_items c.args.low items c.requires));
      least = λ x none longer. absurd none;
    }

pub loop-left-preserved : goal.loop-left-preserved
loop-left-preserved c =
    let items = c.args.lengths.now in
    let low = c.args.low in
    let k = c.loop-left.left-index in
    let d = c.left-item.result in
    let best = c.loop-left.best in
    let new = c.better-best.result in
    let less : k < length items = c.loop-left-test.true in
    let one = subst (λ (x : Lengths). (new ≡ best) ⊎ (new ≡ x)) c.left-item.is c.better-best.ensures.one in
    let left = subst (λ (x : Lengths). low < x.count → (low < new.count) × (new.kind.width ≤ x.kind.width)) c.left-item.is c.better-best.ensures.left in
    let both = best_more low items k d best new less one left c.better-best.ensures.best c.loop-left.invariant.among c.loop-left.invariant.least in
    record { among = both.0; least = both.1 }

pub returns : goal.returns
returns c =
    let items = c.args.lengths.now in
    best_all c.args.low items c.loop-left.left-index c.loop-left.best c.loop-left-test.false c.requires c.loop-left.invariant.among c.loop-left.invariant.least
