-- The number that a view's digits spell.
use Rattle.std.proofs.Common.{◌≡◌, ℕ, ◌+◌, ◌*◌, ◌^◌, ◌<◌, ◌≤◌, List, ◌++◌, length, take, drop, min, sym, ap, subst, ◌∙◌, arith, add-one, length-take, mul-le-mul_right, append_assoc}
use Rattle.std.proofs.lemmas.List.{take_min, drop_min, length-replicate}
use Rattle.std.proofs.lemmas.Nat.{pow-add}
use Rattle.std.proofs.lemmas.Int.Digits.{number_lt, number_after_lt}
use Rattle.std.proofs.Math.Nat.{pow-zero, pow-suc, pow-le-pow_right}
use Rattle.std.specs.Int.Digits.{number_from_digits, number_from_digits_after, AllBelowBase}
use Rattle.fixed_numeral.specs.Digits.{between_zeros, zeros}
use Rattle.fixed_numeral.proofs.ViewLemmas.{length_between}
use Rattle.fixed_numeral.proofs.SpelledLemmas.{number_after_is, number_append, number_zeros}
use Rattle.fixed_numeral.proofs.PlaceLemmas.{below_parts, below_split}

-- ---- a number times a power
pub power_none : (n b : ℕ) → n ≡ n * b ^ 0
power_none n b = rw (pow-zero b) (omega arith)

pub power_more : (n b i p : ℕ) → p ≡ n * b ^ i → p * b ≡ n * b ^ (i + 1)
power_more n b i p e = let s : b ^ (i + 1) ≡ b ^ i * b = rw add-one (pow-suc b i) in rw (e, s) (omega arith)

pub power_fits : (n b i count p : ℕ) → p ≡ n * b ^ i → 2 ≤ b → i < count → (n + 1) * b ^ count ≤ 2 ^ 64 → p * b < 2 ^ 64
power_fits n b i count p e two l room =
    let one : b ^ 0 ≤ b ^ count = pow-le-pow_right (omega arith) (omega arith) in
    let product : b ^ (i + 1) * n ≤ b ^ count * n = mul-le-mul_right n (pow-le-pow_right (omega arith) (omega arith)) in
    omega (arith, power_more n b i p e, pow-zero b)

-- ---- two pieces, and the zeros after them
view_below : (b before : ℕ) (l r : List ℕ) (after : ℕ) → AllBelowBase b (between_zeros before l r after) → AllBelowBase b l × AllBelowBase b r
unfolding between_zeros
view_below b before l r after h =
    let two = below_parts b l (r ++ zeros after) ((below_parts b (zeros before) (l ++ (r ++ zeros after)) h).1) in
    (two.0, (below_parts b r (zeros after) two.1).0)

left_room : (b before : ℕ) (l r : List ℕ) (after : ℕ) → 2 ≤ b → b ^ length (between_zeros before l r after) ≤ 2 ^ 64 → (0 + 1) * b ^ length l ≤ 2 ^ 64
left_room b before l r after two room =
    let le : b ^ length l ≤ b ^ length (between_zeros before l r after) = pow-le-pow_right (omega arith) (omega (arith, length_between before l r after)) in
    omega arith

right_room : (b before : ℕ) (l r : List ℕ) (after : ℕ) → 2 ≤ b → AllBelowBase b l → b ^ length (between_zeros before l r after) ≤ 2 ^ 64 → (number_from_digits b l + 1) * b ^ length r ≤ 2 ^ 64
right_room b before l r after two below room =
    let small : number_from_digits b l < b ^ length l = number_lt b l below in
    let product : (number_from_digits b l + 1) * b ^ length r ≤ b ^ length l * b ^ length r = mul-le-mul_right (b ^ length r) (omega arith) in
    let le : b ^ (length l + length r) ≤ b ^ length (between_zeros before l r after) = pow-le-pow_right (omega arith) (omega (arith, length_between before l r after)) in
    omega (arith, pow-add b (length l) (length r))

both : (b : ℕ) (l r : List ℕ) → number_from_digits_after b (number_from_digits b l) r ≡ number_from_digits b (l ++ r)
both b l r = number_after_is b (number_from_digits b l) r ∙ sym (number_append b l r)

after_room : (b before : ℕ) (l r : List ℕ) (after : ℕ) → 2 ≤ b → AllBelowBase b l → AllBelowBase b r → b ^ length (between_zeros before l r after) ≤ 2 ^ 64 → (number_from_digits_after b (number_from_digits b l) r + 1) * b ^ after ≤ 2 ^ 64
after_room b before l r after two hl hr room =
    let small : number_from_digits b l < b ^ length l = number_lt b l hl in
    let under : number_from_digits_after b (number_from_digits b l) r < (number_from_digits b l + 1) * b ^ length r = number_after_lt b (number_from_digits b l) r hr in
    let first : (number_from_digits b l + 1) * b ^ length r ≤ b ^ length l * b ^ length r = mul-le-mul_right (b ^ length r) (omega arith) in
    let product : (number_from_digits_after b (number_from_digits b l) r + 1) * b ^ after ≤ b ^ length l * b ^ length r * b ^ after = mul-le-mul_right (b ^ after) (omega arith) in
    let le : b ^ (length l + length r + after) ≤ b ^ length (between_zeros before l r after) = pow-le-pow_right (omega arith) (omega (arith, length_between before l r after)) in
    omega (arith, pow-add b (length l) (length r), pow-add b (length l + length r) after, ap (λ x. x * b ^ after) (pow-add b (length l) (length r)))

view_number : (b before : ℕ) (l r : List ℕ) (after : ℕ) → number_from_digits_after b (number_from_digits b l) r * b ^ after ≡ number_from_digits b (between_zeros before l r after)
unfolding between_zeros
view_number b before l r after =
    let prefix : number_from_digits b (zeros before ++ (l ++ (r ++ zeros after))) ≡ number_from_digits b (l ++ (r ++ zeros after)) = number_append b (zeros before) (l ++ (r ++ zeros after)) ∙ omega (arith, ap (λ i. i * b ^ length (l ++ (r ++ zeros after))) (number_zeros b before)) in
    rw (both b l r) (sym (prefix ∙ ap (number_from_digits b) (sym (append_assoc l r (zeros after))) ∙ (number_append b (l ++ r) (zeros after) ∙ omega (arith, number_zeros b after, ap (λ i. number_from_digits b (l ++ r) * b ^ i) (length-replicate {A = ℕ} after 0)))))

-- ---- the first digits of a view
pub first_room : (b count n : ℕ) (ds prefix : List ℕ) → 2 ≤ b → b ^ count ≤ 2 ^ 64 → n ≡ min count (length ds) → prefix ≡ take n ds → b ^ length prefix ≤ 2 ^ 64
first_room b count n ds prefix two room e f =
    let le : b ^ length prefix ≤ b ^ count = pow-le-pow_right (omega arith) (omega (arith, ap length f, length-take n ds)) in
    omega arith

pub first_below : (b count n : ℕ) (ds prefix : List ℕ) (number : ℕ) → 2 ≤ b → AllBelowBase b ds → n ≡ min count (length ds) → prefix ≡ take n ds → number ≡ number_from_digits b prefix → number < b ^ count
first_below b count n ds prefix number two below e f g =
    let small : number < b ^ length prefix = rw g (number_lt b prefix (rw f (below_split b ds n below).0)) in
    let le : b ^ length prefix ≤ b ^ count = pow-le-pow_right (omega arith) (omega (arith, ap length f, length-take n ds)) in
    omega arith

pub first_number : (b count n : ℕ) (ds prefix : List ℕ) (number : ℕ) → n ≡ min count (length ds) → prefix ≡ take n ds → number ≡ number_from_digits b prefix → number ≡ number_from_digits b (take count ds)
first_number b count n ds prefix number e f g = g ∙ ap (number_from_digits b) (f ∙ ap (λ i. take i ds) e ∙ take_min count ds)

pub first_rest : (count n : ℕ) (ds back : List ℕ) → n ≡ min count (length ds) → back ≡ drop n ds → back ≡ drop count ds
first_rest count n ds back e f = f ∙ ap (λ i. drop i ds) e ∙ drop_min count ds

-- ---- restated for the goals
pub left_digits : (b before : ℕ) (l r : List ℕ) (after : ℕ) (v : List ℕ) → between_zeros before l r after ≡ v → AllBelowBase b v → AllBelowBase b l
left_digits b before l r after v e h = (view_below b before l r after (subst (AllBelowBase b) (sym e) h)).0

pub right_digits : (b before : ℕ) (l r : List ℕ) (after : ℕ) (v : List ℕ) → between_zeros before l r after ≡ v → AllBelowBase b v → AllBelowBase b r
right_digits b before l r after v e h = (view_below b before l r after (subst (AllBelowBase b) (sym e) h)).1

pub left_fits : (b before : ℕ) (l r : List ℕ) (after : ℕ) (v : List ℕ) → between_zeros before l r after ≡ v → 2 ≤ b → b ^ length v ≤ 2 ^ 64 → (0 + 1) * b ^ length l ≤ 2 ^ 64
left_fits b before l r after v e two room = left_room b before l r after two (subst (λ ds. b ^ length ds ≤ 2 ^ 64) (sym e) room)

pub right_fits : (b before : ℕ) (l r : List ℕ) (after : ℕ) (v : List ℕ) (n : ℕ) → between_zeros before l r after ≡ v → 2 ≤ b → AllBelowBase b v → b ^ length v ≤ 2 ^ 64 → n ≡ number_from_digits b l → (n + 1) * b ^ length r ≤ 2 ^ 64
right_fits b before l r after v n e two h room g = rw g (right_room b before l r after two (left_digits b before l r after v e h) (subst (λ ds. b ^ length ds ≤ 2 ^ 64) (sym e) room))

pub after_fits : (b before : ℕ) (l r : List ℕ) (after : ℕ) (v : List ℕ) (n m : ℕ) → between_zeros before l r after ≡ v → 2 ≤ b → AllBelowBase b v → b ^ length v ≤ 2 ^ 64 → n ≡ number_from_digits b l → m ≡ number_from_digits_after b n r → (m + 1) * b ^ after ≤ 2 ^ 64
after_fits b before l r after v n m e two h room g k = rw (k, g) (after_room b before l r after two (left_digits b before l r after v e h) (right_digits b before l r after v e h) (subst (λ ds. b ^ length ds ≤ 2 ^ 64) (sym e) room))

pub number_is : (b before : ℕ) (l r : List ℕ) (after : ℕ) (v : List ℕ) (n m p : ℕ) → between_zeros before l r after ≡ v → n ≡ number_from_digits b l → m ≡ number_from_digits_after b n r → p ≡ m * b ^ after → p ≡ number_from_digits b v
number_is b before l r after v n m p e g k q = rw (q, k, g) (view_number b before l r after ∙ ap (number_from_digits b) e)

-- a power, factor by factor
pub ruleset powers = (power_none, power_more, power_fits)
