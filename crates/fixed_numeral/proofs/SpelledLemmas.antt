-- How moving the point and removing zeros change the number that two lists spell.
use Rattle.std.proofs.Common.{◌≡◌, ℕ, zero, suc, ◌+◌, ◌*◌, ◌^◌, List, [], ◌∷◌, ◌++◌, length, replicate, refl, sym, ap, ◌∙◌, arith}
use Rattle.std.proofs.lemmas.Int.Digits.{number_after_append}
use Rattle.std.proofs.Math.Nat.{pow-zero, pow-suc}
use Rattle.std.proofs.lemmas.Nat.{pow-add}
use Rattle.std.specs.Int.Digits.{number_from_digits, number_from_digits_after}

-- the number that digits spell after n
pub number_after_is : (b n : ℕ) (ds : List ℕ) → number_from_digits_after b n ds ≡ n * b ^ length ds + number_from_digits b ds
number_after_is b n [] = omega (arith, ap (λ i. n * i) (pow-zero b))
number_after_is b n (d ∷ ds) =
    number_after_is b (n * b + d) ds ∙
    (let prefix = number_after_is b (0 * b + d) ds in
    rw (pow-suc b (length ds)) (omega (arith, prefix)))

pub number_append : (b : ℕ) (xs ys : List ℕ) → number_from_digits b (xs ++ ys) ≡ number_from_digits b xs * b ^ length ys + number_from_digits b ys
number_append b xs ys = number_after_append b 0 xs ys ∙ number_after_is b (number_from_digits b xs) ys

pub number_zeros : (b k : ℕ) → number_from_digits b (replicate k 0) ≡ 0
number_zeros b zero = refl
number_zeros b (suc k) = number_after_is b (0 * b + 0) (replicate k 0) ∙ omega (arith, number_zeros b k)

-- (b^k)^j = b^(k·j)
pub pow-mul : (b k j : ℕ) → (b ^ k) ^ j ≡ b ^ (k * j)
pow-mul b k zero = omega (arith, pow-zero (b ^ k), ap (λ i. b ^ i) (let z : k * 0 ≡ 0 = omega arith in z), pow-zero b)
pow-mul b k (suc j) =
    pow-suc (b ^ k) j ∙ ap (λ i. i * b ^ k) (pow-mul b k j) ∙ sym (pow-add b (k * j) k) ∙ ap (λ i. b ^ i) (sym (omega arith))
