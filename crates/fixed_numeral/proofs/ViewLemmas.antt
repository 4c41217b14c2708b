-- Two lists between two counts of zeros.
use Rattle.std.proofs.Common.{◌≡◌, ℕ, zero, suc, ◌+◌, ◌-◌, ◌<◌, ◌≤◌, List, [], ◌∷◌, ◌++◌, length, take, drop, refl, sym, ap, ◌∙◌, min, arith, append-nil, length-append}
use Rattle.std.proofs.lemmas.List.{length-replicate, take-replicate, drop-replicate, take_min, drop_min}
use Rattle.fixed_numeral.specs.Digits.{between_zeros, zeros}

pub length_between : (b : ℕ) (l r : List ℕ) (a : ℕ) → length (between_zeros b l r a) ≡ b + length l + length r + a
unfolding between_zeros
length_between b l r a = simp (length-append, length-replicate) (omega arith)

pub between_none : (b : ℕ) (l r : List ℕ) (a : ℕ) → b ≤ 0 → l ≡ [] → r ≡ [] → a ≤ 0 → between_zeros b l r a ≡ []
unfolding between_zeros
between_none zero l r zero h e f g = rw (e, f) refl
between_none x l r a h e f g = absurd (omega arith)

-- ---- the first digit, and the others
pub take_before : (b : ℕ) (l r : List ℕ) (a : ℕ) → 0 < b → between_zeros b l r a ≡ 0 ∷ between_zeros (b - 1) l r a
unfolding between_zeros
take_before zero l r a h = absurd (omega arith)
take_before (suc b) l r a h = let e : suc b - 1 ≡ b = omega arith in rw e refl

pub take_left : (b : ℕ) (l t r : List ℕ) (a d : ℕ) → b ≤ 0 → l ≡ d ∷ t → between_zeros b l r a ≡ d ∷ between_zeros 0 t r a
unfolding between_zeros
take_left zero l t r a d h e = rw e refl
take_left (suc b) l t r a d h e = absurd (omega arith)

pub take_right : (b : ℕ) (l r t : List ℕ) (a d : ℕ) → b ≤ 0 → l ≡ [] → r ≡ d ∷ t → between_zeros b l r a ≡ d ∷ between_zeros 0 [] t a
unfolding between_zeros
take_right zero l r t a d h n e = rw (n, e) refl
take_right (suc b) l r t a d h n e = absurd (omega arith)

pub take_after : (b : ℕ) (l r : List ℕ) (a : ℕ) → b ≤ 0 → l ≡ [] → r ≡ [] → 0 < a → between_zeros b l r a ≡ 0 ∷ between_zeros 0 [] [] (a - 1)
unfolding between_zeros
take_after zero l r (suc a) h n m p = let e : suc a - 1 ≡ a = omega arith in rw (n, m, e) refl
take_after x l r a h n m p = absurd (omega arith)

pub between_left : (l r : List ℕ) → r ≡ [] → between_zeros 0 l r 0 ≡ l
unfolding between_zeros
between_left l r e = rw e (append-nil l)

-- ---- a cut at an index
pub take_over : (i : ℕ) (xs ys : List ℕ) → take i (xs ++ ys) ≡ take i xs ++ take (i - length xs) ys
take_over zero [] ys = refl
take_over zero (x ∷ xs) ys = let e : 0 - length (x ∷ xs) ≡ 0 = omega arith in rw e refl
take_over (suc i) [] ys = let e : suc i - 0 ≡ suc i = omega arith in rw e refl
take_over (suc i) (x ∷ xs) ys = let e : suc i - suc (length xs) ≡ i - length xs = omega arith in rw e (ap (λ zs. x ∷ zs) (take_over i xs ys))

pub drop_over : (i : ℕ) (xs ys : List ℕ) → drop i (xs ++ ys) ≡ drop i xs ++ drop (i - length xs) ys
drop_over zero [] ys = refl
drop_over zero (x ∷ xs) ys = let e : 0 - length (x ∷ xs) ≡ 0 = omega arith in rw e refl
drop_over (suc i) [] ys = let e : suc i - 0 ≡ suc i = omega arith in rw e refl
drop_over (suc i) (x ∷ xs) ys = let e : suc i - suc (length xs) ≡ i - length xs = omega arith in rw e (drop_over i xs ys)

first_zeros : (i b b' : ℕ) → b' ≡ min i b → take i (zeros b) ≡ zeros b'
first_zeros i b b' e =
    let m : min i (length (zeros b)) ≡ b' = omega (arith, length-replicate {A = ℕ} b 0) in
    sym (take_min i (zeros b)) ∙ ap (λ n. take n (zeros b)) m ∙ take-replicate b' b 0 (omega arith)

-- the cut at index i takes this many zeros and digits of each part
pub record SplitAt (i b l r a b' l' r' a' : ℕ) : Type 0 where
  pub before : b' ≡ min i b
  pub left : l' ≡ min (i - b') l
  pub right : r' ≡ min (i - b' - l') r
  pub after : a' ≡ i - b' - l' - r'
  pub within : i ≤ b + l + r + a

pub split_prefix : (i b : ℕ) (l r : List ℕ) (a b' l' r' a' : ℕ) → SplitAt i b (length l) (length r) a b' l' r' a' → between_zeros b' (take l' l) (take r' r) a' ≡ take i (between_zeros b l r a)
unfolding between_zeros
split_prefix i b l r a b' l' r' a' s =
    let er : r' ≡ min (i - b - length l) (length r) = omega (arith, s.before, s.left, s.right) in
    let ea : i - b - length l - length r ≡ a' = omega (arith, s.before, s.left, s.right, s.after) in
    let la : a' ≤ a = omega (arith, s.before, s.left, s.right, s.after, s.within) in
    let first : take i (zeros b) ≡ zeros b' = first_zeros i b b' s.before in
    let left : take l' l ≡ take (i - b) l = ap (λ n. take n l) (omega (arith, s.before, s.left)) ∙ take_min (i - b) l in
    let right : take r' r ≡ take (i - b - length l) r = ap (λ n. take n r) er ∙ take_min (i - b - length l) r in
    let last : take (i - b - length l - length r) (zeros a) ≡ zeros a' = ap (λ n. take n (zeros a)) ea ∙ take-replicate a' a 0 la in
    sym (take_over i (zeros b) (l ++ (r ++ zeros a)) ∙ rw (length-replicate {A = ℕ} b 0, take_over (i - b) l (r ++ zeros a), take_over (i - b - length l) r (zeros a), first, left, right, last) refl)

pub split_back : (i b : ℕ) (l r : List ℕ) (a b' l' r' a' : ℕ) → SplitAt i b (length l) (length r) a b' l' r' a' → between_zeros (b - b') (drop l' l) (drop r' r) (a - a') ≡ drop i (between_zeros b l r a)
unfolding between_zeros
split_back i b l r a b' l' r' a' s =
    let er : r' ≡ min (i - b - length l) (length r) = omega (arith, s.before, s.left, s.right) in
    let ea : i - b - length l - length r ≡ a' = omega (arith, s.before, s.left, s.right, s.after) in
    let first : drop i (zeros b) ≡ zeros (b - b') = drop-replicate i b 0 ∙ ap zeros (omega (arith, s.before)) in
    let left : drop l' l ≡ drop (i - b) l = ap (λ n. drop n l) (omega (arith, s.before, s.left)) ∙ drop_min (i - b) l in
    let right : drop r' r ≡ drop (i - b - length l) r = ap (λ n. drop n r) er ∙ drop_min (i - b - length l) r in
    let last : drop (i - b - length l - length r) (zeros a) ≡ zeros (a - a') = ap (λ n. drop n (zeros a)) ea ∙ drop-replicate a' a 0 in
    sym (drop_over i (zeros b) (l ++ (r ++ zeros a)) ∙ rw (length-replicate {A = ℕ} b 0, drop_over (i - b) l (r ++ zeros a), drop_over (i - b - length l) r (zeros a), first, left, right, last) refl)

-- ---- restated for the goals
pub view_prefix : (v lf rf l r : List ℕ) (i b a b' l' r' a' : ℕ) → between_zeros b l r a ≡ v → SplitAt i b (length l) (length r) a b' l' r' a' → lf ≡ take l' l → rf ≡ take r' r → between_zeros b' lf rf a' ≡ take i v
view_prefix v lf rf l r i b a b' l' r' a' e s p q = rw (p, q) (split_prefix i b l r a b' l' r' a' s ∙ ap (take i) e)

pub view_back : (v lb rb l r : List ℕ) (i b a b' l' r' a' : ℕ) → between_zeros b l r a ≡ v → SplitAt i b (length l) (length r) a b' l' r' a' → lb ≡ drop l' l → rb ≡ drop r' r → between_zeros (b - b') lb rb (a - a') ≡ drop i v
view_back v lb rb l r i b a b' l' r' a' e s p q = rw (p, q) (split_back i b l r a b' l' r' a' s ∙ ap (drop i) e)

-- a cut within the first piece, if no zeros stand before it
pub left_prefix : (v lf l r : List ℕ) (i b a : ℕ) → between_zeros b l r a ≡ v → b ≡ 0 → i ≤ length l → lf ≡ take i l → lf ≡ take i v
unfolding between_zeros
left_prefix v lf l r i zero a e z h f =
    let none : i - length l ≡ 0 = omega arith in
    f ∙ sym (take_over i l (r ++ zeros a) ∙ rw none (append-nil (take i l))) ∙ ap (take i) e
left_prefix v lf l r i (suc b) a e z h f = absurd (omega arith)

pub left_back : (v lb l r : List ℕ) (i b a : ℕ) → between_zeros b l r a ≡ v → b ≡ 0 → i ≤ length l → lb ≡ drop i l → between_zeros 0 lb r a ≡ drop i v
unfolding between_zeros
left_back v lb l r i zero a e z h f =
    let none : i - length l ≡ 0 = omega arith in
    rw f (sym (drop_over i l (r ++ zeros a) ∙ rw none refl) ∙ ap (drop i) e)
left_back v lb l r i (suc b) a e z h f = absurd (omega arith)

pub right_alone : (v l r : List ℕ) (b a : ℕ) → between_zeros b l r a ≡ v → b ≡ 0 → length l ≡ 0 → between_zeros 0 r [] a ≡ v
unfolding between_zeros
right_alone v [] r zero a e z h = e
right_alone v l r x a e z h = absurd (omega arith)
