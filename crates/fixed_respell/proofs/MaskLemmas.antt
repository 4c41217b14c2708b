-- Masks of spaces.
use Rattle.std.proofs.Common.{◌≡◌, ℕ, zero, suc, ◌+◌, ◌-◌, ◌*◌, ◌/◌, ◌^◌, ◌<◌, ◌≤◌, ◌==◌, cond, not, Bool, true, false, List, [], ◌∷◌, ◌++◌, map, length, take, drop, get_or, sym, ap, subst, ◌∙◌, arith, eqb-true, add-one, take-add, take-append-drop, drop-cons, drop-drop, length-take-le, length-drop}
use native.Mathlib.Nat.{pow-suc, mul_comm, zero-div, div-one, div-div-eq-div-mul}
use Rattle.std.specs.List.{prefix_len}
use Rattle.std.proofs.lemmas.List.{drop-map, drop-take, length-map, map-append}
use Rattle.std.proofs.lemmas.Simd.{mask_l-lt, run_in_chunk_fails, run_in_chunk_stops, trailing_mask_l}
use lib.Count.{count_trailing_zeros}
use lib.Lanes.{mask_l}
use Rattle.fixed_respell.specs.LineWords.{space}
use Rattle.fixed_respell.specs.Split.{count_of}
use Rattle.fixed_respell.specs.Inner.Spaces.{HasSpaces, IsFirstSpace}
use Rattle.fixed_respell.proofs.LaneLemmas.{count_none}

abbrev pub is_space : ℕ → Bool
is_space = λ x. x == space

-- equal numbers give equal lists
same_at : (f : ℕ → List ℕ) (m n : ℕ) → m ≡ n → f m ≡ f n
same_at f m n e = ap f e

-- ---- masks of lists
halved : (b : Bool) (n : ℕ) → (cond b 1 0 + 2 * n) / 2 ≡ n
halved true n = omega arith
halved false n = omega arith

mask_drop : (k : ℕ) (ms : List Bool) → mask_l ms / 2 ^ k ≡ mask_l (drop k ms)
mask_drop zero ms = div-one (mask_l ms)
mask_drop (suc k) [] = zero-div (2 ^ suc k)
mask_drop (suc k) (m ∷ ms) =
    ap (λ n. mask_l (m ∷ ms) / n) (pow-suc 2 k ∙ mul_comm (2 ^ k) 2) ∙ sym (div-div-eq-div-mul (mask_l (m ∷ ms)) 2 (2 ^ k)) ∙ ap (λ n. n / 2 ^ k) (halved m (mask_l ms)) ∙ mask_drop k ms

mask_append : (xs ys : List Bool) → mask_l (xs ++ ys) ≡ mask_l xs + 2 ^ length xs * mask_l ys
mask_append [] ys = omega arith
mask_append (x ∷ xs) ys = omega (arith, mask_append xs ys, pow-suc 2 (length xs), ap (λ n. n * mask_l ys) (pow-suc 2 (length xs)))

-- the first set bit of a mask is before the end of the list
goes : (t : Bool) (m p n : ℕ) → 0 < cond t 1 0 + 2 * m → (0 < m → p < n) → cond (not t) (1 + p) 0 < suc n
goes true m p n some later = omega arith
goes false m p n some later = let h : p < n = later (omega (arith, some)) in omega (arith, h)

stops : (is : ℕ → Bool) (xs : List ℕ) → 0 < mask_l (map is xs) → prefix_len (λ x. not (is x)) xs < length xs
stops is [] some = absurd (omega (arith, some))
stops is (x ∷ xs) some = goes (is x) (mask_l (map is xs)) (prefix_len (λ y. not (is y)) xs) (length xs) some (stops is xs)

-- ---- the first space
pub first_space : (line : List ℕ) (mask place rest : ℕ) → HasSpaces line mask → 0 < mask → place ≡ count_trailing_zeros 64 mask → rest ≡ mask / 2 ^ place / 2 → IsFirstSpace line mask place rest
first_space line mask place rest has some is_place is_rest =
    let n = has.count in
    let v : List ℕ = take n line in
    let long : length v ≡ n = length-take-le n line has.within in
    let bits : 0 < mask_l (map is_space v) = omega (arith, some, has.mask_is) in
    let counted : place ≡ prefix_len (λ x. not (is_space x)) v = is_place ∙ ap (count_trailing_zeros 64) has.mask_is ∙ trailing_mask_l is_space 64 v (omega (arith, long, has.few)) bits in
    let below : place < n = omega (arith, counted, stops is_space v bits, long) in
    let found : get_or line place 0 ≡ space = eqb-true (get_or line place 0) space (subst (λ k. is_space (get_or line k 0) ≡ true) (omega arith) (run_in_chunk_stops is_space line 0 n place 0 (omega (arith, has.within)) counted below)) in
    let none : count_of space (take place line) ≡ 0 = count_none space place line (λ k less. run_in_chunk_fails is_space line 0 n place 0 (omega (arith, has.within)) counted k (omega arith) (omega arith)) in
    let cons : drop place line ≡ space ∷ drop (place + 1) line = drop-cons line place 0 (omega (arith, below, has.within)) ∙ (λ i. found i ∷ drop (sym (add-one place) i) line) in
    record {
      within = omega (arith, below, has.within);
      few = omega (arith, below, has.few);
      split = record { split = sym (take-append-drop place line) ∙ ap (λ l. take place line ++ l) cons; first = none };
      after = record {
        count = n - (place + 1);
        within = omega (arith, length-drop (place + 1) line, has.within);
        few = omega (arith, has.few);
        mask_is = is_rest ∙ div-div-eq-div-mul mask (2 ^ place) 2 ∙ ap (λ p. mask / p) (sym (pow-suc 2 place)) ∙ ap (λ m. m / 2 ^ suc place) has.mask_is
            ∙ mask_drop (suc place) (map is_space v) ∙ ap mask_l (drop-map is_space (suc place) v)
            ∙ ap (λ l. mask_l (map is_space l)) (ap (λ k. drop k v) (sym (add-one place)) ∙ same_at (λ k. drop (place + 1) (take k line)) n (place + 1 + (n - (place + 1))) (omega (arith, below)) ∙ drop-take (place + 1) (n - (place + 1)) line);
      };
    }

-- ---- two masks of sixteen bytes each, the second from an index on
pub two_masks : (line : List ℕ) (at low high mask : ℕ) → at ≤ 16 → at + 16 ≤ length line → low ≡ mask_l (map is_space (take 16 line)) → high ≡ mask_l (map is_space (take 16 (drop at line))) → mask ≡ low + high / 2 ^ (16 - at) * 65536 → HasSpaces line mask
two_masks line at low high mask most room is_low is_high is_mask =
    let first : List ℕ = take 16 line in
    let long : length (map is_space first) ≡ 16 = length-map first is_space ∙ length-take-le 16 line (omega arith) in
    let rest : drop (16 - at) (take 16 (drop at line)) ≡ take at (drop 16 line) =
    same_at (λ k. drop (16 - at) (take k (drop at line))) 16 (16 - at + at) (omega arith) ∙ drop-take (16 - at) at (drop at line) ∙ ap (take at) (drop-drop (16 - at) at line ∙ same_at (λ k. drop k line) (at + (16 - at)) 16 (omega arith)) in
    let upper : high / 2 ^ (16 - at) ≡ mask_l (map is_space (take at (drop 16 line))) =
    ap (λ h. h / 2 ^ (16 - at)) is_high ∙ mask_drop (16 - at) (map is_space (take 16 (drop at line))) ∙ ap mask_l (drop-map is_space (16 - at) (take 16 (drop at line)) ∙ ap (map is_space) rest) in
    let whole : map is_space (take (16 + at) line) ≡ map is_space first ++ map is_space (take at (drop 16 line)) = ap (map is_space) (take-add 16 at line) ∙ map-append is_space first (take at (drop 16 line)) in
    let both : mask_l (map is_space (take (16 + at) line)) ≡ mask_l (map is_space first) + 2 ^ 16 * mask_l (map is_space (take at (drop 16 line))) =
    ap mask_l whole ∙ mask_append (map is_space first) (map is_space (take at (drop 16 line))) ∙ ap (λ k. mask_l (map is_space first) + 2 ^ k * mask_l (map is_space (take at (drop 16 line)))) long in
    record {
      count = 16 + at;
      within = omega arith;
      few = omega arith;
      mask_is = omega (arith, both, upper, is_low, is_mask);
    }

-- a mask of sixteen bytes has sixteen bits
pub sixteen_bits : (bytes : List ℕ) (mask : ℕ) → 16 ≤ length bytes → mask ≡ mask_l (map is_space (take 16 bytes)) → mask < 65536
sixteen_bits bytes mask room is = omega (arith, is, mask_l-lt (map is_space (take 16 bytes)), ap (λ k. 2 ^ k) (length-map (take 16 bytes) is_space ∙ length-take-le 16 bytes room))
