use Rattle.std.proofs.Common.{rules, ◌≡◌, arith}
use Rattle.fixed_arrays.specs.Slots.{parts_of}
use Rattle.fixed_arrays.proofs.SlotLemmas.{is_count, is_last, is_index, is_type_width, is_width, is_most, is_frac, is_number}
use Rattle.fixed_arrays.proofs.slots.push_count_slot.Goals as goal

pub returns-in-99 : goal.returns-in-99
returns-in-99 g c = let key : c.args.key ≡ 99 = omega arith in rw (is_count (parts_of c.args.filling.now) c.args.key key) (search rules)

pub returns-in-108 : goal.returns-in-108
returns-in-108 g c = let key : c.args.key ≡ 108 = omega arith in rw (is_last (parts_of c.args.filling.now) c.args.key key) (search rules)

pub returns-in-105 : goal.returns-in-105
returns-in-105 g c = let key : c.args.key ≡ 105 = omega arith in rw (is_index (parts_of c.args.filling.now) c.args.key key) (search rules)

pub returns-in-119 : goal.returns-in-119
returns-in-119 g c = let key : c.args.key ≡ 119 = omega arith in rw (is_type_width (parts_of c.args.filling.now) c.args.key key) (search rules)

pub returns-in-98 : goal.returns-in-98
returns-in-98 g c = let key : c.args.key ≡ 98 = omega arith in rw (is_width (parts_of c.args.filling.now) c.args.key key) (search rules)

pub returns-in-109 : goal.returns-in-109
returns-in-109 g c = let key : c.args.key ≡ 109 = omega arith in rw (is_most (parts_of c.args.filling.now) c.args.key key) (search rules)

pub returns-in-112 : goal.returns-in-112
returns-in-112 g c = let key : c.args.key ≡ 112 = omega arith in rw (is_frac (parts_of c.args.filling.now) c.args.key key) (search rules)

pub returns-in_default : goal.returns-in_default
returns-in_default g c =
    let n0 : c.args.key ≡ 99 → ⊥ = λ e. omega (arith, e) in
    let n1 : c.args.key ≡ 108 → ⊥ = λ e. omega (arith, e) in
    let n2 : c.args.key ≡ 105 → ⊥ = λ e. omega (arith, e) in
    let n3 : c.args.key ≡ 119 → ⊥ = λ e. omega (arith, e) in
    let n4 : c.args.key ≡ 98 → ⊥ = λ e. omega (arith, e) in
    let n5 : c.args.key ≡ 109 → ⊥ = λ e. omega (arith, e) in
    let n6 : c.args.key ≡ 112 → ⊥ = λ e. omega (arith, e) in
    rw (is_number (parts_of c.args.filling.now) c.args.key n0 n1 n2 n3 n4 n5 n6) (search rules)
