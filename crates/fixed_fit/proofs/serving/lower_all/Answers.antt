use Rattle.std.proofs.Common.{◌≡◌, ◌<◌, ◌≤◌, ◌+◌, ◌++◌, ◌∷◌, [], List, ℕ, length, take, get_or, max, set, sym, ap, subst, ◌∙◌, arith, rules}
use Rattle.std.proofs.lemmas.Grind.{common_steps}
use Rattle.std.proofs.lemmas.List.{drop-set-lt, length-set, take_more, take_more_set}
use Rattle.fixed_fit.specs.Inner.Lengths.{AreLowered}
use Rattle.fixed_fit.specs.Inner.Serving.{AreAllLowered, AreFew, most_left}
use Rattle.fixed_fit.specs.declared.lengths.Lengths.{Lengths}
use Rattle.fixed_fit.proofs.ServingLemmas.{few_at, left_one_less, lowered_more, most_more, same_element}
use Rattle.fixed_fit.proofs.serving.lower_all.Goals as goal

pub lowered-requires-clause-most : goal.lowered-requires-clause-most
lowered-requires-clause-most g c =
    let k = c.loop-left.left-index in
    let items = c.loop-left.left-items in
    let initial = c.deref_mut-left-items.result.now in
    let d = c.left-item.result in
    let few : AreFew initial = subst (λ (l : List Lengths). AreFew l) (sym c.deref_mut-left-items.ensures.value) c.requires.few in
    subst (λ (l : Lengths). l.count ≤ 65) (sym (same_element items initial k d c.loop-left.invariant.left)) (few_at initial k d c.loop-left-test.true few)

pub loop-left-preserved : goal.loop-left-preserved
loop-left-preserved g c =
    let inv = c.loop-left.invariant in
    let k = c.loop-left.left-index in
    let items = c.loop-left.left-items in
    let initial = c.deref_mut-left-items.result.now in
    let d = c.left-item.result in
    let new = c.lowered.result in
    let within : k < length initial = c.loop-left-test.true in
    let less : k < length items = let long = inv.long in omega (arith, within, long) in
    let r = c.args.radix in
    let line = c.args.line.now in
    let place = c.args.place in
    let here : AreLowered r line place (get_or initial k d) new = subst (λ (l : Lengths). AreLowered r line place l new) (same_element items initial k d inv.left) c.lowered.ensures in
    let both = lowered_more r line place (take k initial) (take k items) (get_or initial k d) new inv.done here in
    let taken = take_more_set items k new less in
    let max_is : c.max-most.result ≡ max c.loop-left.most new.count = first_of (search (rules, c.max-most.ensures), grind (arith, common_steps, c.max-most.ensures)) in
    record {
      long = length-set items k new ∙ inv.long;
      left = drop-set-lt (k + 1) items k new (omega arith) ∙ left_one_less items initial k inv.left;
      done = subst (λ (l : List Lengths). AreAllLowered r line place l (take (k + 1) (set items k new))) (sym (take_more initial k d within)) (subst (λ (l : List Lengths). AreAllLowered r line place (take k initial ++ get_or initial k d ∷ []) l) (sym taken) both);
      most = max_is ∙ (ap (λ (m : ℕ). max m new.count) inv.most ∙ sym (ap most_left taken ∙ most_more (take k items) new));
    }
