-- The first lane that holds a byte.
use Rattle.std.proofs.Common.{◌≡◌, ℕ, zero, suc, ◌+◌, ◌%◌, ◌^◌, ◌<◌, ◌≤◌, cond, eqb, Bool, true, false, List, [], ◌∷◌, map, length, take, get_or, replicate, refl, ap, subst, ◌∙◌, arith, eqb-true}
use Rattle.std.specs.Int.{w8}
use Rattle.std.proofs.lemmas.List.{length-map}
use Rattle.std.proofs.lemmas.Simd.{first_set_mask_l, run_in_chunk_fails, run_in_chunk_le, run_in_chunk_stops, mask_l-mod, tops_compared, zip2_splat, length-chunk}
use lib.Count.{count_trailing_zeros}
use lib.Lanes.{chunk, zip2, mask_l, top}
use Rattle.fixed_respell.specs.Split.{count_of}
use Rattle.fixed_respell.specs.Lemmas.SplitLemmas.{count_cons}

-- w does not occur among the first r bytes if each of them differs
pub count_none : (w r : ℕ) (bytes : List ℕ) → ((k : ℕ) → k < r → eqb (get_or bytes k 0) w ≡ false) → count_of w (take r bytes) ≡ 0
count_none w zero bytes none = refl
count_none w (suc r) [] none = refl
count_none w (suc r) (b ∷ bytes) none =
    let rest = count_none w r bytes (λ k below. none (suc k) (omega arith)) in
    let first : cond (eqb b w) 1 0 + count_of w (take r bytes) ≡ 0 + count_of w (take r bytes) = ap (λ t. cond t 1 0 + count_of w (take r bytes)) (none 0 (omega arith)) in
    omega (arith, count_cons w b (take r bytes), first, rest)

-- r is the index of the first lane that holds w, or 16
pub record IsPlace (w r : ℕ) (bytes : List ℕ) : Type 0 where
  pub within : r ≤ 16
  pub none : count_of w (take r bytes) ≡ 0
  pub found : r < 16 → get_or bytes r 0 ≡ w

pub place_is : (w r mask : ℕ) (bytes : List ℕ) → 16 ≤ length bytes → mask ≡ mask_l (map (top 7) (zip2 (λ a b. cond (eqb a b) 255 0) (take 16 bytes) (replicate 16 w))) % 2 ^ 64 → r ≡ cond (eqb mask 0) 16 (count_trailing_zeros 64 mask) → IsPlace w r bytes
place_is w r mask bytes room found place =
    let is : ℕ → Bool = λ x. eqb x w in
    let v : List ℕ = chunk 0 16 bytes in
    let long : length v ≡ 16 = length-chunk 0 16 bytes room in
    let lanes : map (top 7) (zip2 (λ a b. cond (eqb a b) 255 0) v (replicate 16 w)) ≡ map is v = tops_compared w8 eqb v (replicate 16 w) ∙ zip2_splat eqb v 16 w long in
    let marks : mask ≡ mask_l (map is v) = found ∙ ap (λ l. mask_l l % 2 ^ 64) lanes ∙ mask_l-mod (map is v) 64 (omega (arith, length-map v is, long)) in
    let counted = place ∙ ap (λ m. cond (eqb m 0) 16 (count_trailing_zeros 64 m)) marks ∙ first_set_mask_l is v 16 long (omega arith) in
    record {
      within = run_in_chunk_le is bytes 0 16 r 0 room counted;
      none = count_none w r bytes (λ k below. run_in_chunk_fails is bytes 0 16 r 0 room counted k (omega arith) (omega arith));
      found = λ below. eqb-true (get_or bytes r 0) w (subst (λ k. is (get_or bytes k 0) ≡ true) (omega arith) (run_in_chunk_stops is bytes 0 16 r 0 room counted below));
    }
