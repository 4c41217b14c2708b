use Rattle.std.proofs.Common.{◌≡◌, ◌/◌, ◌%◌, ◌^◌, [], ◌∷◌, refl, arith}
use Rattle.fixed_write.proofs.LaneLemmas.{rest_of}
use Rattle.fixed_write.proofs.digits.pairs.Goals as goal

pub returns : goal.returns
returns c =
    let n = c.args.number in
    let a : n / 10 ^ 12 / 100 ≡ n / 10 ^ 14 = omega arith in
    let b : n / 10 ^ 8 % 10000 / 100 ≡ n / 10 ^ 10 % 100 = omega arith in
    let d : n / 10000 % 10000 / 100 ≡ n / 10 ^ 6 % 100 = omega arith in
    let e : n % 10000 / 100 ≡ n / 100 % 100 = omega arith in
    let a2 = rest_of (n / 10 ^ 12) (n / 10 ^ 12 % 100) (omega arith) refl in
    let b2 = rest_of (n / 10 ^ 8 % 10000) (n / 10 ^ 8 % 100) (omega arith) (omega arith) in
    let d2 = rest_of (n / 10000 % 10000) (n / 10000 % 100) (omega arith) (omega arith) in
    let e2 = rest_of (n % 10000) (n % 100) (omega arith) (omega arith) in
    rw c.fours-fours.ensures (λ i. a i ∷ a2 i ∷ b i ∷ b2 i ∷ d i ∷ d2 i ∷ e i ∷ e2 i ∷ [])
