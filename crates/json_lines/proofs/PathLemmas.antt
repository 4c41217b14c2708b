-- The steps of a path.
use Rattle.std.proofs.Common.{◌≡◌, ◌==◌, ◌∙◌, ◌+◌, ◌*◌, ◌-◌, ◌^◌, ◌<◌, ◌≤◌, ◌∷◌, ◌++◌, [], ℕ, zero, suc, List, None, Option, Some, add-one, ap, append_assoc, arith, drop, drop-cons, eqb-true, get_or, length, option_and_then, option_map, refl, sym, true, false, true≢false}
use Rattle.std.proofs.Math.Nat.{pow-le-pow_right}
use Rattle.std.proofs.lemmas.List.{drop_all}
use Rattle.json_lines.specs.Path.{PathStep, digits_number, first_step, steps_of}

pub number_more : (digits : List ℕ) (at number : ℕ) → at < length digits
    → digits_number number (drop at digits) ≡ digits_number (number * 10 + (get_or digits at 0 - 48)) (drop (at + 1) digits)
unfolding digits_number
number_more digits at number low = ap (digits_number number) (drop-cons digits at 0 low)
    ∙ ap (λ n. digits_number (number * 10 + (get_or digits at 0 - 48)) (drop n digits)) (sym (add-one at))

pub number_end : (digits : List ℕ) (at number : ℕ) → length digits ≤ at → digits_number number (drop at digits) ≡ number
unfolding digits_number
number_end digits at number high = ap (digits_number number) (drop_all at digits high)

pub number_small : (number k : ℕ) → k ≤ 8 → number + 23 ≤ 23 * 10 ^ k → number < 2 ^ 32
number_small number k few small =
    let most : 10 ^ k ≤ 10 ^ 8 = pow-le-pow_right {n = 10} (omega arith) few in
    omega (arith, small, most)

-- ---- the steps of a text
pub steps_none : (n : ℕ) (text : List ℕ) → 0 < length text → first_step text ≡ None → steps_of n text ≡ None
unfolding steps_of
steps_none n [] some none = absurd (omega (arith, some))
steps_none zero (b ∷ text) some none = refl
steps_none (suc n) (b ∷ text) some none = ap (option_and_then (λ first. option_map (λ steps. first.0 ∷ steps) (steps_of n first.1))) none

pub steps_more : (n : ℕ) (text : List ℕ) (step : PathStep) (rest : List ℕ) → 0 < length text → length text ≤ n → first_step text ≡ Some (step, rest)
    → steps_of n text ≡ option_map (λ steps. step ∷ steps) (steps_of (n - 1) rest)
unfolding steps_of
steps_more n [] step rest some few is = absurd (omega (arith, some))
steps_more zero (b ∷ text) step rest some few is = absurd (omega (arith, few))
steps_more (suc n) (b ∷ text) step rest some few is =
    let same : n ≡ suc n - 1 = omega arith in
    ap (option_and_then (λ first. option_map (λ steps. first.0 ∷ steps) (steps_of n first.1))) is ∙ ap (λ m. option_map (λ steps. step ∷ steps) (steps_of m rest)) same

pub steps_end : (n : ℕ) → steps_of n [] ≡ Some []
unfolding steps_of
steps_end n = refl

pub map_twice : (front back : List PathStep) (o : Option (List PathStep)) (step : PathStep) → back ≡ front ++ step ∷ []
    → option_map (λ more. front ++ more) (option_map (λ steps. step ∷ steps) o) ≡ option_map (λ more. back ++ more) o
map_twice front back None step is = refl
map_twice front back (Some steps) step is = ap Some (sym (append_assoc front (step ∷ []) steps) ∙ ap (λ l. l ++ steps) (sym is))

-- ---- how large a number is
pub number_grows : (number k digit : ℕ) → digit ≤ 207 → number + 23 ≤ 23 * 10 ^ k → number * 10 + digit + 23 ≤ 23 * 10 ^ (k + 1)
number_grows number k digit few small =
    let next : 10 ^ (k + 1) ≡ 10 * 10 ^ k = rw (add-one k) (omega arith) in
    omega (arith, next, small, few)

pub some_of : (n : ℕ) → (n == 0) ≡ false → 0 < n
some_of zero is = absurd (true≢false is)
some_of (suc n) is = omega arith

pub none_of : (text : List ℕ) → (length text == 0) ≡ true → text ≡ []
none_of [] is = refl
none_of (b ∷ text) is = absurd (omega (arith, eqb-true (length (b ∷ text)) 0 is))
