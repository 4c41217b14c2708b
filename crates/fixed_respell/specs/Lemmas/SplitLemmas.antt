-- Bytes are split at the first byte with a given value in one way.
use Rattle.std.proofs.Common.{◌≡◌, ℕ, ◌+◌, cond, eqb, List, [], ◌∷◌, ◌++◌, refl, sym, ap, ◌∙◌, arith, eq-eqb}
use Rattle.std.proofs.lemmas.List.Sums.{sum_by-append}
use Rattle.fixed_respell.specs.Split.{count_of, IsSplit}

-- two splits are the same
pub record IsSameSplit (xs ys rest rest' : List ℕ) : Type 0 where
  pub before : xs ≡ ys
  pub after : rest ≡ rest'

pub count-append : (b : ℕ) (xs ys : List ℕ) → count_of b (xs ++ ys) ≡ count_of b xs + count_of b ys
count-append b xs ys = sum_by-append (λ x. cond (eqb x b) 1 0) xs ys

pub count_cons : (b x : ℕ) (xs : List ℕ) → count_of b (x ∷ xs) ≡ cond (eqb x b) 1 0 + count_of b xs
count_cons b x xs =
    let split : count_of b (x ∷ xs) ≡ count_of b (x ∷ []) + count_of b xs = count-append b (x ∷ []) xs in
    let one : count_of b (x ∷ []) ≡ 0 + cond (eqb x b) 1 0 = refl in
    omega (arith, split, one)

pub count_yes : (b x : ℕ) (xs : List ℕ) → b ≡ x → count_of b (x ∷ xs) ≡ 1 + count_of b xs
count_yes b x xs e = count_cons b x xs ∙ ap (λ t. cond t 1 0 + count_of b xs) (eq-eqb x b (sym e))

pub count_one : (b : ℕ) (xs ys : List ℕ) → count_of b (xs ++ b ∷ ys) ≡ count_of b xs + (1 + count_of b ys)
count_one b xs ys = count-append b xs (b ∷ ys) ∙ ap (λ n. count_of b xs + n) (count_yes b b ys refl)

pub same_split : (b : ℕ) (xs ys rest rest' : List ℕ) → xs ++ b ∷ rest ≡ ys ++ b ∷ rest' → count_of b xs ≡ 0
    → count_of b ys ≡ 0 → IsSameSplit xs ys rest rest'
same_split b [] [] rest rest' e none none' = record { before = refl; after = cc }
same_split b [] (y ∷ ys) rest rest' e none none' = let h : b ≡ y = cc
    in absurd (omega (arith, none', count_yes b y ys h))
same_split b (x ∷ xs) [] rest rest' e none none' = let h : b ≡ x = cc
    in absurd (omega (arith, none, count_yes b x xs h))
same_split b (x ∷ xs) (y ∷ ys) rest rest' e none none' =
    let head : x ≡ y = cc in
    let tail : xs ++ b ∷ rest ≡ ys ++ b ∷ rest' = cc in
    let later = same_split b xs ys rest rest' tail (omega (arith, none, count_cons b x xs))
    (omega (arith, none', count_cons b y ys)) in
    let before : xs ≡ ys = later.before in
    record { before = cc; after = later.after }

-- bytes have one split
pub split_is_one : (b : ℕ) (bytes xs rest ys rest' : List ℕ) → IsSplit b bytes xs rest → IsSplit b bytes ys rest'
    → IsSameSplit xs ys rest rest'
split_is_one b bytes xs rest ys rest' p q = same_split b xs ys rest rest' (sym p.split ∙ q.split) p.first q.first

-- bytes without b have no split
pub split_has_one : (b : ℕ) (bytes xs rest : List ℕ) → bytes ≡ xs ++ b ∷ rest → count_of b bytes ≡ 0 → ⊥
split_has_one b bytes xs rest e none = omega (arith, ap (count_of b) e, none, count_one b xs rest)
