use Rattle.std.proofs.Common.{rules, ◌≡◌, arith}
use Rattle.fixed_arrays.specs.Slots.{parts_of}
use Rattle.fixed_arrays.proofs.SlotLemmas.{is_c_number, is_literal, is_hex, is_binary, is_value}
use Rattle.fixed_arrays.proofs.slots.push_number_slot.Goals as goal

pub returns-in-100 : goal.returns-in-100
returns-in-100 g c = let key : c.args.key ≡ 100 = omega arith in rw (is_c_number (parts_of c.args.filling.now) c.args.key key) (search rules)

pub returns-in-120 : goal.returns-in-120
returns-in-120 g c = let key : c.args.key ≡ 120 = omega arith in rw (is_literal (parts_of c.args.filling.now) c.args.key key) (search rules)

pub returns-in-104 : goal.returns-in-104
returns-in-104 g c = let key : c.args.key ≡ 104 = omega arith in rw (is_hex (parts_of c.args.filling.now) c.args.key key) (search rules)

pub returns-in-122 : goal.returns-in-122
returns-in-122 g c = let key : c.args.key ≡ 122 = omega arith in rw (is_binary (parts_of c.args.filling.now) c.args.key key) (search rules)

pub returns-in_default : goal.returns-in_default
returns-in_default g c =
    let n0 : c.args.key ≡ 100 → ⊥ = λ e. omega (arith, e) in
    let n1 : c.args.key ≡ 120 → ⊥ = λ e. omega (arith, e) in
    let n2 : c.args.key ≡ 104 → ⊥ = λ e. omega (arith, e) in
    let n3 : c.args.key ≡ 122 → ⊥ = λ e. omega (arith, e) in
    rw (is_value (parts_of c.args.filling.now) c.args.key n0 n1 n2 n3) (search rules)
