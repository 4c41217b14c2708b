-- Digits one by one, and the first digits as a block.
use Rattle.std.proofs.Common.{Bool, false, IsTrue, ◌≡◌, ℕ, zero, suc, ◌+◌, ◌-◌, ◌*◌, ◌^◌, ◌<◌, ◌≤◌, ◌↔◌, List, [], ◌∷◌, length, take, drop, refl, sym, ap, ◌∙◌, arith, mul-le-mul_right, mul-le-mul_left, length-drop, take-append-drop, ⊎_elim}
use Rattle.std.proofs.Math.Nat.{one-le-pow, pow-zero, eq_of_mul-eq-mul_left}
use Rattle.std.proofs.lemmas.Bool.{cases_lt}
use Rattle.std.proofs.lemmas.Int.Digits.{number_lt}
use Rattle.std.proofs.lemmas.List.{take_all, drop_all}
use Rattle.std.proofs.lemmas.Nat.{pow-add}
use Rattle.std.specs.Int.Digits.{number_from_digits, AllBelowBase}
use Rattle.fixed_numeral.proofs.Public.{number_append, below_split, trailing_back}
use Rattle.fixed_numeral.specs.Place.{NoTrailingZero}
use Rattle.fixed_read.specs.Inner.Blocks.{IsBlockOf}

pub number_cons : (b d : ℕ) (ds : List ℕ) → number_from_digits b (d ∷ ds) ≡ d * b ^ length ds + number_from_digits b ds
number_cons b d ds = let e = number_append b (d ∷ []) ds in omega (arith, e)

pub trailing_rest : (d : ℕ) (ds : List ℕ) → NoTrailingZero (d ∷ ds) → NoTrailingZero ds
trailing_rest d ds n = λ rest e. n (d ∷ rest) (ap (λ xs. d ∷ xs) e)

pub cancel_lt : (k a b : ℕ) → k * a < k * b → a < b
cancel_lt k a b h = ⊎_elim (λ (l : a < b). l) (λ (l : b ≤ a). absurd (omega (arith, mul-le-mul_left k l))) (cases_lt a b)

-- digits without a trailing zero spell a positive number if the list is not empty
pub some_number : (b : ℕ) (ds : List ℕ) → 0 < b → NoTrailingZero ds → (ds ≡ [] → ⊥) → 0 < number_from_digits b ds
some_number b [] p n e = absurd (e refl)
some_number b (zero ∷ []) p n e = absurd (n [] refl)
some_number b (suc d ∷ []) p n e = omega arith
some_number b (d ∷ c ∷ ds) p n e =
    let more = some_number b (c ∷ ds) p (trailing_rest d (c ∷ ds) n) (λ z. absurd (omega (arith, ap length z))) in
    rw (number_cons b d (c ∷ ds)) (omega (arith, more))

pub some_digits : (b : ℕ) (ds : List ℕ) → 0 < b → NoTrailingZero ds → (0 < length ds) ↔ (0 < number_from_digits b ds)
some_digits b ds p n = (λ l. some_number b ds p n (λ e. absurd (omega (arith, ap length e))), back ds)
  where
    back : (xs : List ℕ) → 0 < number_from_digits b xs → 0 < length xs
    back [] l = absurd (omega arith)
    back (x ∷ xs) l = omega arith

-- ---- whether digits are left after the first ones
pub longer_some : (ds : List ℕ) (count : ℕ) (longer : Bool) → (IsTrue longer ↔ (count < length ds)) → IsTrue longer ↔ (0 < length (drop count ds))
longer_some ds count longer e = (λ t. let l = e.0 t in omega (arith, l, length-drop count ds), λ l. e.1 (omega (arith, l, length-drop count ds)))

pub not_longer : (ds : List ℕ) (count : ℕ) (longer : Bool) → (IsTrue longer ↔ (count < length ds)) → longer ≡ false → length ds ≤ count
not_longer ds count longer e n = ⊎_elim (λ (l : count < length ds). let t = e.1 l in absurd (cc)) (λ (l : length ds ≤ count). l) (cases_lt count (length ds))

pub none_number : (longer : Bool) (rest : List ℕ) → (IsTrue longer ↔ (0 < length rest)) → longer ≡ false → number_from_digits 10 rest ≡ 0
none_number longer [] e n = refl
none_number longer (d ∷ ds) e n = let t = e.1 (omega arith) in absurd (cc)

-- ---- the block
led_enough : (b : ℕ) (ds : List ℕ) (number count : ℕ) → count ≤ length ds → number ≡ number_from_digits b (take count ds) → (number * 1 * b ^ length (drop count ds) + number_from_digits b (drop count ds)) * b ^ length ds ≡ number_from_digits b ds * b ^ (count + length (drop count ds))
led_enough b ds number count l e =
    let long : count + length (drop count ds) ≡ length ds = omega (arith, length-drop count ds) in
    let cut : number_from_digits b ds ≡ number_from_digits b (take count ds) * b ^ length (drop count ds) + number_from_digits b (drop count ds) = ap (number_from_digits b) (sym (take-append-drop count ds)) ∙ number_append b (take count ds) (drop count ds) in
    rw (long, e) (ap (λ x. x * b ^ length ds) (omega (arith, cut)))

led_short : (b : ℕ) (ds : List ℕ) (number count : ℕ) → length ds ≤ count → number ≡ number_from_digits b (take count ds) → (number * b ^ (count - length ds) * b ^ length (drop count ds) + number_from_digits b (drop count ds)) * b ^ length ds ≡ number_from_digits b ds * b ^ (count + length (drop count ds))
led_short b ds number count l e =
    let all : number ≡ number_from_digits b ds = e ∙ ap (number_from_digits b) (take_all count ds l) in
    let power : b ^ count ≡ b ^ (count - length ds) * b ^ length ds = ap (λ i. b ^ i) (let z : count ≡ (count - length ds) + length ds = omega arith in z) ∙ pow-add b (count - length ds) (length ds) in
    let same : count + 0 ≡ count = omega arith in
    rw (drop_all count ds l, all, same, power) (rw (pow-zero b) (omega arith))

short_small : (b : ℕ) (ds : List ℕ) (number count : ℕ) → 0 < b → AllBelowBase b ds → length ds ≤ count → number ≡ number_from_digits b (take count ds) → number * b ^ (count - length ds) < b ^ count
short_small b ds number count p below l e =
    let all : number ≡ number_from_digits b ds = e ∙ ap (number_from_digits b) (take_all count ds l) in
    let power : b ^ count ≡ b ^ length ds * b ^ (count - length ds) = ap (λ i. b ^ i) (let z : count ≡ length ds + (count - length ds) = omega arith in z) ∙ pow-add b (length ds) (count - length ds) in
    let some = one-le-pow (count - length ds) b p in
    let small = number_lt b ds below in
    rw (all, power) (omega (arith, mul-le-mul_right (b ^ (count - length ds)) small))

pub led : (b : ℕ) (ds rest : List ℕ) (number count missing_digits block : ℕ) → 0 < b → AllBelowBase b ds → NoTrailingZero ds → number ≡ number_from_digits b (take count ds) → number < b ^ count → rest ≡ drop count ds → missing_digits ≡ count - length ds → block ≡ number * b ^ missing_digits → IsBlockOf b ds rest block count
led b ds rest number count missing_digits block p below trailing e small er em eb = rw (eb, em, er) (record {
  same = ⊎_elim (λ (l : length ds < count). led_short b ds number count (omega arith) e) (λ (l : count ≤ length ds). let z : b ^ (count - length ds) ≡ 1 = ap (λ i. b ^ i) (let k : count - length ds ≡ 0 = omega arith in k) ∙ pow-zero b in rw z (led_enough b ds number count l e)) (cases_lt (length ds) count);
  small = ⊎_elim (λ (l : length ds < count). short_small b ds number count p below (omega arith) e) (λ (l : count ≤ length ds). let z : b ^ (count - length ds) ≡ 1 = ap (λ i. b ^ i) (let k : count - length ds ≡ 0 = omega arith in k) ∙ pow-zero b in rw z (omega (arith, small))) (cases_lt (length ds) count);
  digits = (below_split b ds count below).1;
  trailing = trailing_back ds count trailing;
})

pub led_room : (b : ℕ) (ds : List ℕ) (number count missing_digits : ℕ) → 0 < b → AllBelowBase b ds → number ≡ number_from_digits b (take count ds) → number < b ^ count → missing_digits ≡ count - length ds → number * b ^ missing_digits < b ^ count
led_room b ds number count missing_digits p below e small em = rw em (⊎_elim (λ (l : length ds < count). short_small b ds number count p below (omega arith) e) (λ (l : count ≤ length ds). let z : b ^ (count - length ds) ≡ 1 = ap (λ i. b ^ i) (let k : count - length ds ≡ 0 = omega arith in k) ∙ pow-zero b in rw z (omega (arith, small))) (cases_lt (length ds) count))

-- ---- one block after another
plain_join : (b1 b2 t1 t2 n1 n2 v l i j : ℕ) → 0 < t1 → (b1 * t1 + n1) * l ≡ v * (i * t1) → (b2 * t2 + n2) * t1 ≡ n1 * (j * t2) → ((b1 * j + b2) * t2 + n2) * l ≡ v * (i * j * t2)
plain_join b1 b2 t1 t2 n1 n2 v l i j pos e f = eq_of_mul-eq-mul_left t1 pos _ _ (omega (arith, ap (λ x. x * (j * t2)) e, ap (λ x. x * l) f))

pub led_join : (b : ℕ) (ds middle rest : List ℕ) (b1 b2 i j : ℕ) → 0 < b → IsBlockOf b ds middle b1 i → IsBlockOf b middle rest b2 j → IsBlockOf b ds rest (b1 * b ^ j + b2) (i + j)
led_join b ds middle rest b1 b2 i j p h k =
    let e : b ^ (i + length middle) ≡ b ^ i * b ^ length middle = pow-add b i (length middle) in
    let f : b ^ (j + length rest) ≡ b ^ j * b ^ length rest = pow-add b j (length rest) in
    let g : b ^ (i + j + length rest) ≡ b ^ i * b ^ j * b ^ length rest = pow-add b (i + j) (length rest) ∙ ap (λ x. x * b ^ length rest) (pow-add b i j) in
    record {
      same = rw g (plain_join b1 b2 (b ^ length middle) (b ^ length rest) (number_from_digits b middle) (number_from_digits b rest) (number_from_digits b ds) (b ^ length ds) (b ^ i) (b ^ j) (one-le-pow (length middle) b p) (rw e at h.same) (rw f at k.same));
      small = rw (pow-add b i j) (omega (arith, mul-le-mul_right (b ^ j) h.small));
      digits = k.digits;
      trailing = k.trailing;
    }

-- zeros after the last digit
zeros_same : (block n x i z t : ℕ) → (block * z + 0) * x ≡ n * i → (block * t * z + 0) * x ≡ n * (i * t)
zeros_same block n x i z t e = omega (arith, ap (λ y. y * t) e)

pub led_zeros : (b : ℕ) (ds rest : List ℕ) (block i j : ℕ) → 0 < b → IsBlockOf b ds rest block i → rest ≡ [] → IsBlockOf b ds rest (block * b ^ j) (i + j)
led_zeros b ds rest block i j p h e =
    let g : IsBlockOf b ds [] block i = rw e at h in
    let first : i + 0 ≡ i = omega arith in
    let both : i + j + 0 ≡ i + j = omega arith in
    let same = rw first at g.same in
    rw e (record {
      same = rw (both, pow-add b i j) (zeros_same block (number_from_digits b ds) (b ^ length ds) (b ^ i) (b ^ 0) (b ^ j) same);
      small = rw (pow-add b i j) (below (b ^ i) (b ^ j) (one-le-pow j b p) g.small);
      digits = g.digits;
      trailing = g.trailing;
    })
  where
    below : (x y : ℕ) → 0 < y → block < x → block * y < x * y
    below x y pos l = omega (arith, mul-le-mul_right y l)

pub led_nothing : (b : ℕ) (ds : List ℕ) (count : ℕ) → 0 < b → AllBelowBase b ds → NoTrailingZero ds → ds ≡ [] → IsBlockOf b ds (drop count ds) 0 count
led_nothing b ds count p below trailing e =
    rw (drop_all count ds (rw e (omega arith))) (record {
      same = rw e (omega arith);
      small = one-le-pow count b p;
      digits = rw e at below;
      trailing = rw e at trailing;
    })
