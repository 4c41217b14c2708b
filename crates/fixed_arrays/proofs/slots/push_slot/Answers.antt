use Rattle.std.proofs.Common.{rules, ◌≡◌, arith}
use Rattle.fixed_arrays.specs.Slots.{parts_of}
use Rattle.fixed_arrays.proofs.SlotLemmas.{is_name, is_guard, is_format, is_c_sign, is_rust_sign, is_vhdl_sign, is_separator, is_label, is_counted}
use Rattle.fixed_arrays.proofs.slots.push_slot.Goals as goal

pub returns-in-110 : goal.returns-in-110
returns-in-110 g c = let key : c.args.key ≡ 110 = omega arith in rw (is_name (parts_of c.args.filling.now) c.args.key key) (search rules)

pub returns-in-103 : goal.returns-in-103
returns-in-103 g c = let key : c.args.key ≡ 103 = omega arith in rw (is_guard (parts_of c.args.filling.now) c.args.key key) (search rules)

pub returns-in-102 : goal.returns-in-102
returns-in-102 g c = let key : c.args.key ≡ 102 = omega arith in rw (is_format (parts_of c.args.filling.now) c.args.key key) (search rules)

pub returns-in-117 : goal.returns-in-117
returns-in-117 g c = let key : c.args.key ≡ 117 = omega arith in rw (is_c_sign (parts_of c.args.filling.now) c.args.key key) (search rules)

pub returns-in-114 : goal.returns-in-114
returns-in-114 g c = let key : c.args.key ≡ 114 = omega arith in rw (is_rust_sign (parts_of c.args.filling.now) c.args.key key) (search rules)

pub returns-in-113 : goal.returns-in-113
returns-in-113 g c = let key : c.args.key ≡ 113 = omega arith in rw (is_vhdl_sign (parts_of c.args.filling.now) c.args.key key) (search rules)

pub returns-in-44 : goal.returns-in-44
returns-in-44 g c = let key : c.args.key ≡ 44 = omega arith in rw (is_separator (parts_of c.args.filling.now) c.args.key key) (search rules)

pub returns-in-107 : goal.returns-in-107
returns-in-107 g c = let key : c.args.key ≡ 107 = omega arith in rw (is_label (parts_of c.args.filling.now) c.args.key key) (search rules)

pub returns-in_default : goal.returns-in_default
returns-in_default g c =
    let n0 : c.args.key ≡ 110 → ⊥ = λ e. omega (arith, e) in
    let n1 : c.args.key ≡ 103 → ⊥ = λ e. omega (arith, e) in
    let n2 : c.args.key ≡ 102 → ⊥ = λ e. omega (arith, e) in
    let n3 : c.args.key ≡ 117 → ⊥ = λ e. omega (arith, e) in
    let n4 : c.args.key ≡ 114 → ⊥ = λ e. omega (arith, e) in
    let n5 : c.args.key ≡ 113 → ⊥ = λ e. omega (arith, e) in
    let n6 : c.args.key ≡ 44 → ⊥ = λ e. omega (arith, e) in
    let n7 : c.args.key ≡ 107 → ⊥ = λ e. omega (arith, e) in
    rw (is_counted (parts_of c.args.filling.now) c.args.key n0 n1 n2 n3 n4 n5 n6 n7) (search rules)
