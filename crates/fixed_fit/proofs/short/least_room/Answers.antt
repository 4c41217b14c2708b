use Rattle.std.proofs.Common.{◌≡◌, ◌≤◌, List, take, get_or, min, sym, subst, arith, rules}
use Rattle.std.proofs.lemmas.Grind.{common_steps}
use Rattle.std.proofs.lemmas.List.{take_all, take_more}
use Rattle.fixed_fit.specs.Inner.Lengths.{IsRoomOf}
use Rattle.fixed_fit.specs.Inner.Serving.{HaveRoom}
use Rattle.fixed_fit.specs.declared.lengths.Lengths.{Lengths}
use Rattle.fixed_fit.proofs.KeptLemmas.{less_rooms, more_room}
use Rattle.fixed_fit.proofs.ShortLemmas.{less_room}
use Rattle.fixed_fit.proofs.ServingLemmas.{few_at}
use Rattle.fixed_fit.proofs.short.least_room.Goals as goal

pub room_left-requires : goal.room_left-requires
room_left-requires c =
    subst (λ (l : Lengths). l.count ≤ 65) (sym c.left-item.is) (few_at c.args.lengths.now c.loop-left.left-index c.left-item.result c.loop-left-test.true c.requires)

pub loop-left-preserved : goal.loop-left-preserved
loop-left-preserved c =
    let items = c.args.lengths.now in
    let k = c.loop-left.left-index in
    let d = c.left-item.result in
    let old = c.loop-left.least in
    let here = subst (λ (l : Lengths). IsRoomOf c.room_left.result l) c.left-item.is c.room_left.ensures in
    let new : c.min-least.result ≡ min c.room_left.result old = first_of (search (rules, c.min-least.ensures), grind (arith, common_steps, c.min-least.ensures)) in
    let before = less_rooms c.min-least.result old (take k items) (omega (arith, new)) c.loop-left.invariant in
    subst (λ (l : List Lengths). HaveRoom c.min-least.result l) (sym (take_more items k d c.loop-left-test.true)) (more_room c.min-least.result (take k items) (get_or items k d) before (less_room c.min-least.result c.room_left.result (get_or items k d) (omega (arith, new)) here))

pub returns : goal.returns
returns c =
    let items = c.args.lengths.now in
    subst (λ (l : List Lengths). HaveRoom c.loop-left.least l) (take_all c.loop-left.left-index items c.loop-left-test.false) c.loop-left.invariant
