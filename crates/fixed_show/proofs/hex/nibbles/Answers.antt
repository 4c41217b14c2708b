use Rattle.std.proofs.Common.{◌≡◌, ◌/◌, ◌%◌, ◌^◌, ◌+◌, [], ◌∷◌, arith, bit_and}
use Rattle.std.proofs.lemmas.Nat.{and_mask}
use Rattle.fixed_show.proofs.hex.nibbles.Goals as goal

pub returns : goal.returns
returns c =
    let w = c.args.word in
    let u7 : (w + 0) / 256 / 256 / 256 / 256 / 256 / 256 / 256 % 256 / 16 ≡ w / 16 ^ 15 % 16 = omega arith in
    let l7 : bit_and ((w + 0) / 256 / 256 / 256 / 256 / 256 / 256 / 256 % 256) 15 ≡ w / 16 ^ 14 % 16 = omega (arith, and_mask ((w + 0) / 256 / 256 / 256 / 256 / 256 / 256 / 256 % 256) 4) in
    let u6 : (w + 0) / 256 / 256 / 256 / 256 / 256 / 256 % 256 / 16 ≡ w / 16 ^ 13 % 16 = omega arith in
    let l6 : bit_and ((w + 0) / 256 / 256 / 256 / 256 / 256 / 256 % 256) 15 ≡ w / 16 ^ 12 % 16 = omega (arith, and_mask ((w + 0) / 256 / 256 / 256 / 256 / 256 / 256 % 256) 4) in
    let u5 : (w + 0) / 256 / 256 / 256 / 256 / 256 % 256 / 16 ≡ w / 16 ^ 11 % 16 = omega arith in
    let l5 : bit_and ((w + 0) / 256 / 256 / 256 / 256 / 256 % 256) 15 ≡ w / 16 ^ 10 % 16 = omega (arith, and_mask ((w + 0) / 256 / 256 / 256 / 256 / 256 % 256) 4) in
    let u4 : (w + 0) / 256 / 256 / 256 / 256 % 256 / 16 ≡ w / 16 ^ 9 % 16 = omega arith in
    let l4 : bit_and ((w + 0) / 256 / 256 / 256 / 256 % 256) 15 ≡ w / 16 ^ 8 % 16 = omega (arith, and_mask ((w + 0) / 256 / 256 / 256 / 256 % 256) 4) in
    let u3 : (w + 0) / 256 / 256 / 256 % 256 / 16 ≡ w / 16 ^ 7 % 16 = omega arith in
    let l3 : bit_and ((w + 0) / 256 / 256 / 256 % 256) 15 ≡ w / 16 ^ 6 % 16 = omega (arith, and_mask ((w + 0) / 256 / 256 / 256 % 256) 4) in
    let u2 : (w + 0) / 256 / 256 % 256 / 16 ≡ w / 16 ^ 5 % 16 = omega arith in
    let l2 : bit_and ((w + 0) / 256 / 256 % 256) 15 ≡ w / 16 ^ 4 % 16 = omega (arith, and_mask ((w + 0) / 256 / 256 % 256) 4) in
    let u1 : (w + 0) / 256 % 256 / 16 ≡ w / 16 ^ 3 % 16 = omega arith in
    let l1 : bit_and ((w + 0) / 256 % 256) 15 ≡ w / 16 ^ 2 % 16 = omega (arith, and_mask ((w + 0) / 256 % 256) 4) in
    let u0 : (w + 0) % 256 / 16 ≡ w / 16 % 16 = omega arith in
    let l0 : bit_and ((w + 0) % 256) 15 ≡ w % 16 = omega (arith, and_mask ((w + 0) % 256) 4) in
    λ i. u7 i ∷ l7 i ∷ u6 i ∷ l6 i ∷ u5 i ∷ l5 i ∷ u4 i ∷ l4 i ∷ u3 i ∷ l3 i ∷ u2 i ∷ l2 i ∷ u1 i ∷ l1 i ∷ u0 i ∷ l0 i ∷ []
