use Rattle.std.proofs.Common.{◌∙◌, ◌/◌, ◌%◌, ◌^◌, [], ◌∷◌, arith}
use Rattle.fixed_show.proofs.NibbleLemmas.{lane, sixteen_are}
use Rattle.fixed_show.proofs.hex.sixteen_digits.Goals as goal

pub returns : goal.returns
returns c =
    let w = c.args.word in
    rw c.nibbles-nibbles.ensures (λ i. lane (w / 16 ^ 15 % 16) (omega arith) i ∷ lane (w / 16 ^ 14 % 16) (omega arith) i ∷ lane (w / 16 ^ 13 % 16) (omega arith) i ∷ lane (w / 16 ^ 12 % 16) (omega arith) i ∷ lane (w / 16 ^ 11 % 16) (omega arith) i ∷ lane (w / 16 ^ 10 % 16) (omega arith) i ∷ lane (w / 16 ^ 9 % 16) (omega arith) i ∷ lane (w / 16 ^ 8 % 16) (omega arith) i ∷ lane (w / 16 ^ 7 % 16) (omega arith) i ∷ lane (w / 16 ^ 6 % 16) (omega arith) i ∷ lane (w / 16 ^ 5 % 16) (omega arith) i ∷ lane (w / 16 ^ 4 % 16) (omega arith) i ∷ lane (w / 16 ^ 3 % 16) (omega arith) i ∷ lane (w / 16 ^ 2 % 16) (omega arith) i ∷ lane (w / 16 % 16) (omega arith) i ∷ lane (w % 16) (omega arith) i ∷ []) ∙ sixteen_are w
