use Rattle.std.proofs.Common.{rules, ◌≡◌, ◌++◌, ◌∷◌, [], true, false, arith}
use Rattle.fixed_arrays.specs.Slots.{parts_of}
use Rattle.fixed_arrays.proofs.SlotLemmas.{next_byte, next_mark, next_slot}
use Rattle.fixed_arrays.proofs.slots.push_next.Goals as goal

pub returns-in_ok-push_slot : goal.returns-in_ok-push_slot
returns-in_ok-push_slot g c = λ more.
    let test : c.args.is_slot ≡ true = search rules in
    next_slot (parts_of c.args.filling.now) c.args.is_slot c.args.byte c.args.text.now.items c.push_slot.new.text.items more test c.in_ok-push_slot.ensures

pub returns-then-byte-eq-MARK : goal.returns-then-byte-eq-MARK
returns-then-byte-eq-MARK g c = λ more.
    let test : c.args.is_slot ≡ false = search rules in
    let mark : c.args.byte ≡ 64 = omega arith in
    next_mark (parts_of c.args.filling.now) c.args.is_slot c.args.byte c.args.text.now.items more test mark

pub returns-in_ok-push : goal.returns-in_ok-push
returns-in_ok-push g c = λ more.
    let test : c.args.is_slot ≡ false = search rules in
    let pushed : c.push.new.self.items ≡ c.args.text.now.items ++ c.args.byte ∷ [] = search rules in
    next_byte (parts_of c.args.filling.now) c.args.is_slot c.args.byte c.args.text.now.items c.push.new.self.items more test (λ e. omega (arith, e)) pushed
