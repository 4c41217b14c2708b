use Rattle.std.proofs.Common.{◌≡◌, ◌+◌, ◌≤◌, ◌++◌, length, codes, ℤ, pos, FitsSigned, rules, arith}
use Rattle.std.specs.Int.{w128}
use Rattle.std.proofs.lemmas.Int.{to_z-of_z}
use Rattle.std.specs.Fmt.{signed_decimal}
use Rattle.fixed_show.proofs.LineLemmas.{four_pushed, pushed_length}
use Rattle.fixed_show.proofs.formats.push_digits_line.Goals as goal

pub push-requires : goal.push-requires
push-requires g c =
    let a : length c.push_bytes.new.self ≤ length c.args.out.now + 10 = pushed_length c.args.out.now c.push_bytes.new.self (codes "digits    ") 10 c.push_bytes.ensures (omega arith) in
    let b : length c.push_integer.new.out ≤ length c.push_bytes.new.self + 21 = pushed_length c.push_bytes.new.self c.push_integer.new.out _ 21 c.push_integer.ensures.appended c.push_integer.ensures.short in
    let d : length c.push_bytes-2.new.self ≤ length c.push_integer.new.out + 19 = pushed_length c.push_integer.new.out c.push_bytes-2.new.self (codes " before the point, ") 19 c.push_bytes-2.ensures (omega arith) in
    let e : length c.push_integer-2.new.out ≤ length c.push_bytes-2.new.self + 21 = pushed_length c.push_bytes-2.new.self c.push_integer-2.new.out _ 21 c.push_integer-2.ensures.appended c.push_integer-2.ensures.short in
    let f : length c.push_bytes-3.new.self ≤ length c.push_integer-2.new.out + 9 = pushed_length c.push_integer-2.new.out c.push_bytes-3.new.self (codes " after it") 9 c.push_bytes-3.ensures (omega arith) in
    (search rules, omega (arith, a, b, d, e, f, c.requires.room))

pub returns-clause-appended : goal.returns-clause-appended
returns-clause-appended g c =
    let a : ℤ = c.from.result in
    let b : ℤ = c.from-2.result in
    let first : FitsSigned w128 a = search rules in
    let second : FitsSigned w128 b = search rules in
    let whole : c.push_integer.new.out ≡ c.push_bytes.new.self ++ signed_decimal (pos c.args.whole) = rw (to_z-of_z w128 a first, c.from.ensures) at c.push_integer.ensures.appended in
    let places : c.push_integer-2.new.out ≡ c.push_bytes-2.new.self ++ signed_decimal (pos c.args.places) = rw (to_z-of_z w128 b second, c.from-2.ensures) at c.push_integer-2.ensures.appended in
    four_pushed c.args.out.now c.push_bytes.new.self c.push_integer.new.out c.push_bytes-2.new.self c.push_integer-2.new.out c.push_bytes-3.new.self c.push.new.self (codes "digits    ") (signed_decimal (pos c.args.whole)) (codes " before the point, ") (signed_decimal (pos c.args.places)) (codes " after it") c.push_bytes.ensures whole c.push_bytes-2.ensures places c.push_bytes-3.ensures c.push.ensures

pub returns-clause-short : goal.returns-clause-short
returns-clause-short g c =
    let a : length c.push_bytes.new.self ≤ length c.args.out.now + 10 = pushed_length c.args.out.now c.push_bytes.new.self (codes "digits    ") 10 c.push_bytes.ensures (omega arith) in
    let b : length c.push_integer.new.out ≤ length c.push_bytes.new.self + 21 = pushed_length c.push_bytes.new.self c.push_integer.new.out _ 21 c.push_integer.ensures.appended c.push_integer.ensures.short in
    let d : length c.push_bytes-2.new.self ≤ length c.push_integer.new.out + 19 = pushed_length c.push_integer.new.out c.push_bytes-2.new.self (codes " before the point, ") 19 c.push_bytes-2.ensures (omega arith) in
    let e : length c.push_integer-2.new.out ≤ length c.push_bytes-2.new.self + 21 = pushed_length c.push_bytes-2.new.self c.push_integer-2.new.out _ 21 c.push_integer-2.ensures.appended c.push_integer-2.ensures.short in
    let f : length c.push_bytes-3.new.self ≤ length c.push_integer-2.new.out + 9 = pushed_length c.push_integer-2.new.out c.push_bytes-3.new.self (codes " after it") 9 c.push_bytes-3.ensures (omega arith) in
    let h : length c.push.new.self ≤ length c.push_bytes-3.new.self + 1 = pushed_length c.push_bytes-3.new.self c.push.new.self _ 1 c.push.ensures (omega arith) in
    omega (arith, a, b, d, e, f, h)
