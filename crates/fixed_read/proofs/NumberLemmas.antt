-- The number that the last digits spell, modulo a power of two.
use Rattle.std.proofs.Common.{◌≡◌, ℕ, zero, suc, ◌+◌, ◌-◌, ◌*◌, ◌%◌, ◌/◌, ◌^◌, ◌<◌, ◌≤◌, ◌⊎◌, ◌↔◌, Bool, true, false, IsTrue, pow_pos, List, [], ◌∷◌, ◌++◌, length, take, drop, refl, sym, ap, ◌∙◌, arith, append_assoc, append-nil, take-append-drop, length-drop, length-take, mul-le-mul_right, div-add-mod', mod-lt, min, inl, inr, ⊎_elim}
use Rattle.std.proofs.lemmas.List.{length-take-le}
use Rattle.std.proofs.lemmas.Bool.{cases_lt}
use Rattle.std.proofs.Math.Nat.{one-le-pow, pow-le-pow_left, pow-le-pow_right, mul-add-mod_self_right, mod-eq_of_lt, mul-le-mul_left}
use Rattle.std.proofs.lemmas.Nat.{mul-pow}
use Rattle.std.proofs.lemmas.Int.Digits.{number_after_ge}
use Rattle.std.specs.Int.Digits.{number_from_digits, AllBelowBase}
use Rattle.fixed_numeral.proofs.Public.{number_append, below_split}
use Rattle.fixed_numeral.specs.Place.{NoLeadingZero}

-- ---- the last digits
base_pow : (b n : ℕ) → b % 2 ≡ 0 → b ^ n ≡ (b / 2) ^ n * 2 ^ n
base_pow b n e = ap (λ x. x ^ n) (let k : b ≡ b / 2 * 2 = omega arith in k) ∙ mul-pow (b / 2) 2 n

-- some digits were taken from the front of `last`; `long` says that others stand before `last`
pub record Trailing (b m : ℕ) (last rest : List ℕ) (value : ℕ) (long : Type 0) (over : Bool) (before now : ℕ) : Type 0 where
  pub taken : List ℕ
  pub split : last ≡ taken ++ rest
  pub number : value ≡ number_from_digits b taken % m
  pub full : IsTrue over ↔ (long ⊎ (m ≤ number_from_digits b taken))
  pub digits : AllBelowBase b rest
  pub cost : now + length rest ≤ before + length last

pub trailing_none : (b m : ℕ) (last : List ℕ) (long : Type 0) (over : Bool) (s : ℕ) → 0 < m → AllBelowBase b last → (IsTrue over ↔ long) → Trailing b m last last 0 long over s s
trailing_none b m last long over s p below h = record {
  taken = [];
  split = refl;
  number = omega arith;
  full = (λ t. inl (h.0 t), λ e. ⊎_elim h.1 (λ (l : m ≤ 0). absurd (omega arith)) e);
  digits = below;
  cost = omega arith;
}

over_more : (m n b v d : ℕ) (long : Type 0) (over next : Bool) → 0 < b → v ≡ n % m → (IsTrue over ↔ (long ⊎ (m ≤ n))) → (IsTrue next ↔ (IsTrue over ⊎ (m ≤ v * b + d))) → IsTrue next ↔ (long ⊎ (m ≤ n * b + d))
over_more m n b v d long over next pos e h k = (
  λ t. ⊎_elim (λ o. ⊎_elim (λ l. inl l) (λ (l : m ≤ n). inr (omega (arith, mul-le-mul_left n pos))) (h.0 o)) (λ (l : m ≤ v * b + d). inr (whole l)) (k.0 t),
  λ t. k.1 (⊎_elim (λ l. inl (h.1 (inl l))) (λ (l : m ≤ n * b + d). ⊎_elim (λ (s : n < m). inr (kept s l)) (λ (g : m ≤ n). inl (h.1 (inr g))) (cases_lt n m)) t),
)
  where
    at_most : v ≤ n
    at_most = omega (arith, div-add-mod' n m)

    whole : m ≤ v * b + d → m ≤ n * b + d
    whole l = omega (arith, mul-le-mul_right b at_most)

    kept : n < m → m ≤ n * b + d → m ≤ v * b + d
    kept s l = let same : v ≡ n = e ∙ mod-eq_of_lt s in rw same l

-- a quotient is positive if the divisor is at most the number
pub quotient_some : (x d : ℕ) → 0 < d → d ≤ x → 0 < x / d
quotient_some x d pos l = ⊎_elim (λ (k : 0 < x / d). k) (λ (k : x / d ≤ 0). let z : x / d ≡ 0 = omega arith in absurd (omega (arith, div-add-mod' x d, mod-lt x pos, ap (λ i. i * d) z))) (cases_lt 0 (x / d))

pub quotient_least : (x d : ℕ) → 0 < x / d → d ≤ x
quotient_least x d l = omega (arith, div-add-mod' x d, mul-le-mul_right d l)

pub trailing_more : (b m : ℕ) (last rest others : List ℕ) (value count number whole high less : ℕ) (long : Type 0) (over next : Bool) (before now then : ℕ) → 0 < b → 0 < m → Trailing b m last rest value long over before now → count ≤ length rest → number ≡ number_from_digits b (take count rest) → others ≡ drop count rest → whole ≡ value * b ^ count + number → high ≡ whole / m → less ≡ whole % m → (IsTrue next ↔ (IsTrue over ⊎ (0 < high))) → then ≡ now + min count (length rest) → Trailing b m last others less long next before then
trailing_more b m last rest others value count number whole high less long over next before now then pos some h within en eo ew eh el k c =
    let long_is : length (take count rest) ≡ count = length-take-le count rest within in
    let with_digits : number_from_digits b (h.taken ++ take count rest) ≡ number_from_digits b h.taken * b ^ count + number = number_append b h.taken (take count rest) ∙ rw (long_is, sym en) refl in
    let split : number_from_digits b h.taken * b ^ count + number ≡ (number_from_digits b h.taken / m * b ^ count) * m + (value * b ^ count + number) = omega (arith, ap (λ x. x * b ^ count) (div-add-mod' (number_from_digits b h.taken) m), ap (λ x. x * b ^ count) h.number) in
    let bound : IsTrue next ↔ (IsTrue over ⊎ (m ≤ value * b ^ count + number)) = (
      λ t. ⊎_elim (λ o. inl o) (λ (l : 0 < high). inr (rw ew at (quotient_least whole m (rw eh at l)))) (k.0 t),
      λ t. k.1 (⊎_elim (λ o. inl o) (λ (l : m ≤ value * b ^ count + number). inr (rw eh (quotient_some whole m some (rw ew l)))) t),
    ) in
    record {
      taken = h.taken ++ take count rest;
      split = h.split ∙ ap (λ xs. h.taken ++ xs) (sym (take-append-drop count rest)) ∙ sym (append_assoc h.taken (take count rest) (drop count rest)) ∙ ap (λ xs. (h.taken ++ take count rest) ++ xs) (sym eo);
      number = el ∙ ap (λ x. x % m) ew ∙ sym (rw (with_digits, split) (mul-add-mod_self_right (number_from_digits b h.taken / m * b ^ count) m (value * b ^ count + number)));
      full = rw with_digits (over_more m (number_from_digits b h.taken) (b ^ count) value number long over next (one-le-pow count b pos) h.number h.full bound);
      digits = rw eo (below_split b rest count h.digits).1;
      cost = omega (arith, h.cost, c, ap length eo, length-drop count rest);
    }

-- up to 15 digits of a base up to 16 fit 64 bits
pub chunk_room : (b count : ℕ) → b ≤ 16 → count ≤ 15 → b ^ count < 2 ^ 64
chunk_room b count small few = omega (arith, pow-le-pow_left {m = 16} small count, pow-le-pow_right {n = 16} (omega arith) few)

-- the exponents of powers that fit 64 bits
pub two_exponent : (k : ℕ) → 2 ^ k < 2 ^ 64 → k < 64
two_exponent k h = ⊎_elim (λ (l : k < 64). l) (λ (l : 64 ≤ k). absurd (omega (arith, h, pow-le-pow_right {n = 2} (omega arith) l))) (cases_lt k 64)

pub ten_exponent : (k : ℕ) → 10 ^ k < 2 ^ 64 → k < 20
ten_exponent k h = ⊎_elim (λ (l : k < 20). l) (λ (l : 20 ≤ k). absurd (omega (arith, h, pow-le-pow_right {n = 10} (omega arith) l))) (cases_lt k 20)

-- 2^w is at most b^w if b is at least 2
pow_two_small : (b w : ℕ) → 2 ≤ b → 2 ^ w ≤ b ^ w
pow_two_small b w h = pow-le-pow_left h w

first_some : (b : ℕ) (prefix back : List ℕ) → 0 < length prefix → NoLeadingZero (prefix ++ back) → 0 < b → 1 ≤ number_from_digits b prefix
first_some b [] back l n p = absurd (omega arith)
first_some b (zero ∷ ds) back l n p = absurd (n (ds ++ back) refl)
first_some b (suc d ∷ ds) back l n p = omega (arith, number_after_ge b (0 * b + suc d) ds p)

pub record Ends (b w : ℕ) (ds : List ℕ) (value : ℕ) (over : Bool) : Type 0 where
  pub number : value ≡ number_from_digits b ds % 2 ^ w
  pub full : IsTrue over ↔ (2 ^ w ≤ number_from_digits b ds)

pub trailing_all : (b w : ℕ) (ds last rest : List ℕ) (value : ℕ) (over : Bool) (before now : ℕ) → 2 ≤ b → b % 2 ≡ 0 → NoLeadingZero ds → last ≡ drop (length ds - w) ds → rest ≡ [] → Trailing b (2 ^ w) last rest value (w < length ds) over before now → Ends b w ds value over
trailing_all b w ds last rest value over before now two even none el er h =
    let whole : last ≡ h.taken = h.split ∙ ap (λ xs. h.taken ++ xs) er ∙ append-nil h.taken in
    let back : h.taken ≡ drop (length ds - w) ds = sym whole ∙ el in
    let cut : take (length ds - w) ds ++ drop (length ds - w) ds ≡ ds = take-append-drop (length ds - w) ds in
    let n : number_from_digits b ds ≡ number_from_digits b (take (length ds - w) ds) * b ^ length (drop (length ds - w) ds) + number_from_digits b (drop (length ds - w) ds) = ap (number_from_digits b) (sym cut) ∙ number_append b (take (length ds - w) ds) (drop (length ds - w) ds) in
    ⊎_elim (λ (l : w < length ds). at_long l n back cut) (λ (l : length ds ≤ w). at_short l back) (cases_lt w (length ds))
  where
    at_short : length ds ≤ w → h.taken ≡ drop (length ds - w) ds → Ends b w ds value over
    at_short l back =
        let z : length ds - w ≡ 0 = omega arith in
        let same : h.taken ≡ ds = rw z at back in
        record { number = rw (sym same) h.number; full = rw (sym same) (λ t. ⊎_elim (λ (k : w < length ds). absurd (omega arith)) (λ g. g) (h.full.0 t), λ g. h.full.1 (inr g)) }

    at_long : w < length ds → number_from_digits b ds ≡ number_from_digits b (take (length ds - w) ds) * b ^ length (drop (length ds - w) ds) + number_from_digits b (drop (length ds - w) ds) → h.taken ≡ drop (length ds - w) ds → take (length ds - w) ds ++ drop (length ds - w) ds ≡ ds → Ends b w ds value over
    at_long l n back cut =
        let long : length (drop (length ds - w) ds) ≡ w = omega (arith, length-drop (length ds - w) ds) in
        let n' : number_from_digits b ds ≡ number_from_digits b (take (length ds - w) ds) * b ^ w + number_from_digits b (drop (length ds - w) ds) = rw long at n in
        let multiple : number_from_digits b ds ≡ number_from_digits b (take (length ds - w) ds) * (b / 2) ^ w * 2 ^ w + number_from_digits b (drop (length ds - w) ds) = n' ∙ omega (arith, ap (λ x. number_from_digits b (take (length ds - w) ds) * x) (base_pow b w even)) in
        let some = first_some b (take (length ds - w) ds) (drop (length ds - w) ds) (omega (arith, length-take (length ds - w) ds)) (rw cut none) (omega arith) in
        let large : 2 ^ w ≤ number_from_digits b ds = omega (arith, n', mul-le-mul_right (b ^ w) some, pow_two_small b w two) in
        record {
          number = h.number ∙ ap (λ xs. number_from_digits b xs % 2 ^ w) back ∙ sym (rw multiple (mul-add-mod_self_right (number_from_digits b (take (length ds - w) ds) * (b / 2) ^ w) (2 ^ w) (number_from_digits b (drop (length ds - w) ds))));
          full = (λ t. large, λ g. h.full.1 (inl l));
        }

-- an empty list of digits spells 0
pub nothing : (b : ℕ) (ds : List ℕ) → ds ≡ [] → 0 ≡ number_from_digits b ds
nothing b ds e = rw e refl

pub nothing_low : (b w : ℕ) (ds : List ℕ) → ds ≡ [] → 0 ≡ number_from_digits b ds % 2 ^ w
nothing_low b w ds e = rw e (let p = pow_pos w in omega (arith, p))

pub nothing_over : (b w : ℕ) (ds : List ℕ) → ds ≡ [] → IsTrue false ↔ (2 ^ w ≤ number_from_digits b ds)
nothing_over b w ds e = rw e (λ t. absurd (let k : false ≡ true = t in cc), λ (l : 2 ^ w ≤ 0). absurd (let p = pow_pos w in omega (arith, p)))
