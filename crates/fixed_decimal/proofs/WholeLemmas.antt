-- The number that the last digits spell, modulo 2^64.
use Rattle.std.proofs.Common.{◌≡◌, ℕ, zero, suc, ◌+◌, ◌-◌, ◌*◌, ◌%◌, ◌/◌, ◌^◌, ◌<◌, ◌≤◌, ◌⊎◌, ◌↔◌, Bool, IsTrue, List, [], ◌∷◌, ◌++◌, length, take, drop, refl, sym, ap, ◌∙◌, arith, append_assoc, append-nil, take-append-drop, length-drop, length-take, mul-le-mul_right, div-add-mod', min, inl, inr, ⊎_elim}
use Rattle.std.proofs.lemmas.List.{length-take-le}
use Rattle.std.proofs.lemmas.Bool.{cases_lt}
use Rattle.std.proofs.Math.Nat.{one-le-pow, mul-add-mod_self_right, mod-eq_of_lt, mul-le-mul_left}
use Rattle.std.proofs.lemmas.Int.Digits.{number_after_ge}
use Rattle.std.specs.Int.Digits.{number_from_digits, AllBelowBase}
use Rattle.fixed_numeral.proofs.Public.{number_append, below_split}
use Rattle.fixed_numeral.specs.Place.{NoLeadingZero}

-- the number that digits spell
abbrev pub number : List ℕ → ℕ
number ds = number_from_digits 10 ds

-- the last digits taken so far; `long` states that other digits come before the last ones
pub record Trailing (last rest : List ℕ) (value : ℕ) (long : Type 0) (over : Bool) (before now : ℕ) : Type 0 where
  pub taken : List ℕ
  pub split : last ≡ taken ++ rest
  pub low : value ≡ number taken % 2 ^ 64
  pub full : IsTrue over ↔ (long ⊎ (2 ^ 64 ≤ number taken))
  pub digits : AllBelowBase 10 rest
  pub cost : now + length rest ≤ before + length last

pub trailing_none : (last : List ℕ) (long : Type 0) (over : Bool) (s : ℕ) → AllBelowBase 10 last → (IsTrue over ↔ long) → Trailing last last 0 long over s s
trailing_none last long over s below h = record {
  taken = [];
  split = refl;
  low = refl;
  full = (λ t. inl (h.0 t), λ e. ⊎_elim h.1 (λ (l : 2 ^ 64 ≤ 0). absurd (omega arith)) e);
  digits = below;
  cost = omega arith;
}

over_more : (n b v d : ℕ) (long : Type 0) (over next : Bool) → 0 < b → v ≡ n % 2 ^ 64 → (IsTrue over ↔ (long ⊎ (2 ^ 64 ≤ n))) → (IsTrue next ↔ (IsTrue over ⊎ (2 ^ 64 ≤ v * b + d))) → IsTrue next ↔ (long ⊎ (2 ^ 64 ≤ n * b + d))
over_more n b v d long over next pos e h k = (
  λ t. ⊎_elim (λ o. ⊎_elim (λ l. inl l) (λ (l : 2 ^ 64 ≤ n). inr (omega (arith, mul-le-mul_left n pos))) (h.0 o)) (λ (l : 2 ^ 64 ≤ v * b + d). inr (whole l)) (k.0 t),
  λ t. k.1 (⊎_elim (λ l. inl (h.1 (inl l))) (λ (l : 2 ^ 64 ≤ n * b + d). ⊎_elim (λ (s : n < 2 ^ 64). inr (kept s l)) (λ (g : 2 ^ 64 ≤ n). inl (h.1 (inr g))) (cases_lt n (2 ^ 64))) t),
)
  where
    at_most : v ≤ n
    at_most = omega (arith, div-add-mod' n (2 ^ 64))

    whole : 2 ^ 64 ≤ v * b + d → 2 ^ 64 ≤ n * b + d
    whole l = omega (arith, mul-le-mul_right b at_most)

    kept : n < 2 ^ 64 → 2 ^ 64 ≤ n * b + d → 2 ^ 64 ≤ v * b + d
    kept s l = let same : v ≡ n = e ∙ mod-eq_of_lt s in rw same l

pub trailing_more : (last rest others : List ℕ) (value count more whole less : ℕ) (long : Type 0) (over above next : Bool) (before now then : ℕ) → Trailing last rest value long over before now → count ≤ length rest → more ≡ number (take count rest) → others ≡ drop count rest → whole ≡ value * 10 ^ count + more → less ≡ whole % 2 ^ 64 → (IsTrue above ↔ (2 ^ 64 ≤ whole)) → (IsTrue next ↔ (IsTrue over ⊎ IsTrue above)) → then ≡ now + min count (length rest) → Trailing last others less long next before then
trailing_more last rest others value count more whole less long over above next before now then h within en eo ew el ea k c =
    let long_is : length (take count rest) ≡ count = length-take-le count rest within in
    let with_digits : number (h.taken ++ take count rest) ≡ number h.taken * 10 ^ count + more = number_append 10 h.taken (take count rest) ∙ rw (long_is, sym en) refl in
    let split : number h.taken * 10 ^ count + more ≡ (number h.taken / 2 ^ 64 * 10 ^ count) * 2 ^ 64 + (value * 10 ^ count + more) = omega (arith, ap (λ x. x * 10 ^ count) (div-add-mod' (number h.taken) (2 ^ 64)), ap (λ x. x * 10 ^ count) h.low) in
    let bound : IsTrue next ↔ (IsTrue over ⊎ (2 ^ 64 ≤ value * 10 ^ count + more)) = (
      λ t. ⊎_elim (λ o. inl o) (λ a. inr (rw ew at (ea.0 a))) (k.0 t),
      λ t. k.1 (⊎_elim (λ o. inl o) (λ (l : 2 ^ 64 ≤ value * 10 ^ count + more). inr (ea.1 (rw ew l))) t),
    ) in
    record {
      taken = h.taken ++ take count rest;
      split = h.split ∙ ap (λ xs. h.taken ++ xs) (sym (take-append-drop count rest)) ∙ sym (append_assoc h.taken (take count rest) (drop count rest)) ∙ ap (λ xs. (h.taken ++ take count rest) ++ xs) (sym eo);
      low = el ∙ ap (λ x. x % 2 ^ 64) ew ∙ sym (rw (with_digits, split) (mul-add-mod_self_right (number h.taken / 2 ^ 64 * 10 ^ count) (2 ^ 64) (value * 10 ^ count + more)));
      full = rw with_digits (over_more (number h.taken) (10 ^ count) value more long over next (one-le-pow count 10 (omega arith)) h.low h.full bound);
      digits = rw eo (below_split 10 rest count h.digits).1;
      cost = omega (arith, h.cost, c, ap length eo, length-drop count rest);
    }

first_some : (prefix back : List ℕ) → 0 < length prefix → NoLeadingZero (prefix ++ back) → 1 ≤ number prefix
first_some [] back l n = absurd (omega arith)
first_some (zero ∷ ds) back l n = absurd (n (ds ++ back) refl)
first_some (suc d ∷ ds) back l n = omega (arith, number_after_ge 10 (0 * 10 + suc d) ds (omega arith))

-- the lowest 64 bits of the number that all digits spell
pub record Ends (ds : List ℕ) (value : ℕ) (over : Bool) : Type 0 where
  pub low : value ≡ number ds % 2 ^ 64
  pub full : IsTrue over ↔ (2 ^ 64 ≤ number ds)

-- 10^64 is a multiple of 2^64
ten_of_two : (x : ℕ) → x * 10 ^ 64 ≡ x * 5 ^ 64 * 2 ^ 64
ten_of_two x = omega arith

pub trailing_all : (ds rest : List ℕ) (value : ℕ) (over : Bool) (before now : ℕ) → NoLeadingZero ds → rest ≡ [] → Trailing (drop (length ds - 64) ds) rest value (64 < length ds) over before now → Ends ds value over
trailing_all ds rest value over before now none er h =
    let back : h.taken ≡ drop (length ds - 64) ds = sym (h.split ∙ ap (λ xs. h.taken ++ xs) er ∙ append-nil h.taken) in
    let cut : take (length ds - 64) ds ++ drop (length ds - 64) ds ≡ ds = take-append-drop (length ds - 64) ds in
    let n : number ds ≡ number (take (length ds - 64) ds) * 10 ^ length (drop (length ds - 64) ds) + number (drop (length ds - 64) ds) = ap number (sym cut) ∙ number_append 10 (take (length ds - 64) ds) (drop (length ds - 64) ds) in
    ⊎_elim (λ (l : 64 < length ds). at_long l n back cut) (λ (l : length ds ≤ 64). at_short l back) (cases_lt 64 (length ds))
  where
    at_short : length ds ≤ 64 → h.taken ≡ drop (length ds - 64) ds → Ends ds value over
    at_short l back =
        let z : length ds - 64 ≡ 0 = omega arith in
        let same : h.taken ≡ ds = rw z at back in
        record { low = rw (sym same) h.low; full = rw (sym same) (λ t. ⊎_elim (λ (k : 64 < length ds). absurd (omega arith)) (λ g. g) (h.full.0 t), λ g. h.full.1 (inr g)) }

    at_long : 64 < length ds → number ds ≡ number (take (length ds - 64) ds) * 10 ^ length (drop (length ds - 64) ds) + number (drop (length ds - 64) ds) → h.taken ≡ drop (length ds - 64) ds → take (length ds - 64) ds ++ drop (length ds - 64) ds ≡ ds → Ends ds value over
    at_long l n back cut =
        let long : length (drop (length ds - 64) ds) ≡ 64 = omega (arith, length-drop (length ds - 64) ds) in
        let n' : number ds ≡ number (take (length ds - 64) ds) * 10 ^ 64 + number (drop (length ds - 64) ds) = rw long at n in
        let multiple : number ds ≡ number (take (length ds - 64) ds) * 5 ^ 64 * 2 ^ 64 + number (drop (length ds - 64) ds) = n' ∙ ap (λ x. x + number (drop (length ds - 64) ds)) (ten_of_two (number (take (length ds - 64) ds))) in
        let some = first_some (take (length ds - 64) ds) (drop (length ds - 64) ds) (omega (arith, length-take (length ds - 64) ds)) (rw cut none) in
        let large : 2 ^ 64 ≤ number ds = omega (arith, n', some) in
        record {
          low = h.low ∙ ap (λ xs. number xs % 2 ^ 64) back ∙ sym (rw multiple (mul-add-mod_self_right (number (take (length ds - 64) ds) * 5 ^ 64) (2 ^ 64) (number (drop (length ds - 64) ds))));
          full = (λ t. large, λ g. h.full.1 (inl l));
        }
