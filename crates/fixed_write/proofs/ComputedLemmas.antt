-- The computed pair is the shortest decimal.
use Rattle.std.proofs.Common.{◌≡◌, ℕ, zero, suc, ◌+◌, ◌*◌, ◌/◌, ◌%◌, ◌^◌, ◌<◌, ◌≤◌, ◌⊎◌, ◌==◌, true, false, sym, ◌∙◌, inl, inr, ⊎_elim, refl, arith, pow_pos, div-add-mod', mod-lt, add-zero}
use Rattle.std.specs.Prelude.{nat_lt, if◌then◌else◌}
use Rattle.std.proofs.lemmas.Bool.{cases_Bool, cases_lt, eqb-true, lt-ltb, le-ltb}
use Rattle.std.proofs.lemmas.Bool.Decides.{nat_tests}
use Rattle.std.proofs.Math.Nat.{one-le-pow}
use Rattle.fixed_bits.specs.Nearest.{IsNearest, distance}
use Rattle.fixed_bits.proofs.Public.{nearest_by_rest, nearest_by_rest_up, nearest_unique}
use Rattle.fixed_write.specs.Shortest.{ReadsBack, IsShortest, nearest_number, reads_back_at, least_places_from, shortest_places, shortest_number}
use Rattle.fixed_write.proofs.ShortestLemmas.{exact_pair, nearer_reads_back, nearest_least, shortest_from_least}

-- ---- the nearest number
pub nearest_number_is : (num den : ℕ) → 0 < den → IsNearest num den (nearest_number num den)
unfolding nearest_number
nearest_number_is num den some = ⊎_elim below not_below (cases_lt (2 * (num % den)) den)
  where
    split : num ≡ num / den * den + num % den
    split = sym (div-add-mod' num den)

    below : 2 * (num % den) < den → IsNearest num den (if nat_lt (2 * (num % den)) den then num / den else (if nat_lt den (2 * (num % den)) then num / den + 1 else num / den + num / den % 2))
    below l = rw (lt-ltb (2 * (num % den)) den l) (nearest_by_rest num den (num / den) (num % den) split (omega arith) (λ e. absurd (omega arith)))

    parity : (q : ℕ) → (q % 2 ≡ 0) ⊎ (q % 2 ≡ 1)
    parity q = grind arith

    half : (q : ℕ) → num ≡ q * den + num % den → den ≡ 2 * (num % den) → (q % 2 ≡ 0) ⊎ (q % 2 ≡ 1) → IsNearest num den (q + q % 2)
    half q s e (inl even) = rw (even, add-zero) (nearest_by_rest num den q (num % den) s (omega arith) (λ t. even))
    half q s e (inr odd) = rw odd (nearest_by_rest_up num den q (num % den) s (mod-lt num some) (omega arith) (λ t. omega arith))

    not_below : den ≤ 2 * (num % den) → IsNearest num den (if nat_lt (2 * (num % den)) den then num / den else (if nat_lt den (2 * (num % den)) then num / den + 1 else num / den + num / den % 2))
    not_below l = rw (le-ltb (2 * (num % den)) den l) (⊎_elim
        (λ a. rw (lt-ltb den (2 * (num % den)) a) (nearest_by_rest_up num den (num / den) (num % den) split (mod-lt num some) (omega arith) (λ t. absurd (omega arith))))
        (λ a. rw (le-ltb den (2 * (num % den)) a) (half (num / den) split (omega arith) (parity (num / den))))
        (cases_lt den (2 * (num % den))))

-- ---- decimals with k digits that read back
nearest_reads_back : (c g k m : ℕ) → k ≤ g → ReadsBack m k c g → ReadsBack (nearest_number (c * 10 ^ k) (2 ^ g)) k c g
nearest_reads_back c g k m l h =
    let near = nearest_number_is (c * 10 ^ k) (2 ^ g) (pow_pos g) in
    nearer_reads_back (nearest_number (c * 10 ^ k) (2 ^ g)) m k c g l h (turned (nearest_number (c * 10 ^ k) (2 ^ g) * 2 ^ g) (m * 2 ^ g) (c * 10 ^ k) (nearest_least (c * 10 ^ k) (2 ^ g) (nearest_number (c * 10 ^ k) (2 ^ g)) m near))
  where
    turned : (a b x : ℕ) → distance x a ≤ distance x b → distance a x ≤ distance b x
    turned a b x l = omega arith

ten_pos : (k : ℕ) → 0 < 10 ^ k
ten_pos k = one-le-pow k 10 (omega arith)

reads_back_true : (c g k : ℕ) → reads_back_at c g k ≡ true → ReadsBack (nearest_number (c * 10 ^ k) (2 ^ g)) k c g
unfolding reads_back_at
reads_back_true c g k e =
    let n : ℕ = nearest_number (c * 10 ^ k) (2 ^ g) in
    let same : nearest_number (n * 2 ^ g) (10 ^ k) ≡ c = eqb-true (nearest_number (n * 2 ^ g) (10 ^ k)) c e in
    rw same at (nearest_number_is (n * 2 ^ g) (10 ^ k) (ten_pos k))

reads_back_false : (c g k m : ℕ) → k ≤ g → reads_back_at c g k ≡ false → ReadsBack m k c g → ⊥
unfolding reads_back_at
reads_back_false c g k m l e h =
    let n : ℕ = nearest_number (c * 10 ^ k) (2 ^ g) in
    let same : nearest_number (n * 2 ^ g) (10 ^ k) ≡ c = nearest_unique (n * 2 ^ g) (10 ^ k) (nearest_number (n * 2 ^ g) (10 ^ k)) c (ten_pos k) (nearest_number_is (n * 2 ^ g) (10 ^ k) (ten_pos k)) (nearest_reads_back c g k m l h) in
    let yes : (nearest_number (n * 2 ^ g) (10 ^ k) == c) ≡ true = eqb_same (nearest_number (n * 2 ^ g) (10 ^ k)) c same in
    let clash : true ≡ false = sym yes ∙ e in
    cc
  where
    eqb_same : (a b : ℕ) → a ≡ b → (a == b) ≡ true
    eqb_same a b e = grind (arith, nat_tests)

-- ---- the least count of digits
pub record IsLeastPlaces (c g k : ℕ) : Type 0 where
  pub within : k ≤ g
  pub number : ℕ
  pub reads : ReadsBack number k c g
  pub none : (i j : ℕ) → j < k → ReadsBack i j c g → ⊥

-- ---- one step of the search
least_here : (more k c g : ℕ) → reads_back_at c g k ≡ true → least_places_from (suc more) k c g ≡ k
unfolding least_places_from
least_here more k c g e = rw e refl

least_later : (more k c g : ℕ) → reads_back_at c g k ≡ false → least_places_from (suc more) k c g ≡ least_places_from more (suc k) c g
unfolding least_places_from
least_later more k c g e = rw e refl

least_none : (k c g : ℕ) → least_places_from zero k c g ≡ k
unfolding least_places_from
least_none k c g = refl

least_places_are : (more k c g : ℕ) → more + k ≡ g → ((i j : ℕ) → j < k → ReadsBack i j c g → ⊥) → IsLeastPlaces c g (least_places_from more k c g)
least_places_are zero k c g e none =
    let same : k ≡ g = omega arith in
    rw (least_none k c g, same) (record { within = omega arith; number = c * 5 ^ g; reads = exact_pair c g; none = rw same at none })
least_places_are (suc more) k c g e none = ⊎_elim
    (λ yes. rw (least_here more k c g yes) (record { within = omega arith; number = nearest_number (c * 10 ^ k) (2 ^ g); reads = reads_back_true c g k yes; none = none }))
    (λ no'. rw (least_later more k c g no') (least_places_are more (suc k) c g (omega arith) (λ i j l h. ⊎_elim
    (λ a. none i j a h)
    (λ a. (let same : j ≡ k = omega arith in reads_back_false c g k i (omega arith) no' (rw same at h)))
    (cases_lt j k))))
    (cases_Bool (reads_back_at c g k))

pub shortest_pair_is : (c g : ℕ) → IsShortest c g (shortest_number c g) (shortest_places c g)
unfolding shortest_number shortest_places
shortest_pair_is c g =
    let least = least_places_are g 0 c g (omega arith) (λ i j l h. absurd (omega arith)) in
    shortest_from_least c g (least_places_from g 0 c g) (nearest_number (c * 10 ^ least_places_from g 0 c g) (2 ^ g)) least.number least.within least.reads least.none (nearest_number_is (c * 10 ^ least_places_from g 0 c g) (2 ^ g) (pow_pos g))
