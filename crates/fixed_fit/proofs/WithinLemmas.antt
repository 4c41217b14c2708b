-- Lists of numerals within a bound, and the formats that serve.
use Rattle.std.proofs.Common.{◌≡◌, ℕ, ◌+◌, ◌-◌, ◌*◌, ◌^◌, ◌<◌, ◌≤◌, Bool, true, false, List, [], ◌∷◌, ◌++◌, length, refl, sym, ap, ◌∙◌, subst, arith, ⊎_elim, append_assoc, mul-le-mul_right, ℤ}
use Rattle.std.proofs.Math.Nat.{pow-le-pow_right}
use Rattle.std.proofs.lemmas.Bool.{cases_lt}
use Rattle.std.proofs.lemmas.Int.{ints}
use Rattle.fixed_bits.specs.Ranges.{IsInRange}
use Rattle.fixed_bits.specs.declared.mode.ReadMode.TheVariants.{NearestEven}
use Rattle.fixed_error.specs.ErrorSize.{HasErrorWithin}
use Rattle.fixed_error.proofs.Public.{within_each_longer}
use Rattle.fixed_numeral.specs.Value.{magnitude}
use Rattle.fixed_numeral.specs.declared.radix.Radix.{Radix}
use Rattle.fixed_fit.specs.Fitting.{AllFit, Choice, frac_lengths}
use Rattle.fixed_fit.specs.Laws.{FirstUnservedIsTheOne, LeastWithinIsTheOne}
use Rattle.fixed_fit.specs.Within.{AllWithin, IsErrorWithin, IsFirstUnserved, IsHalfWithin, IsServed, IsUnservedFrom, Serves}
use Rattle.fixed_fit.specs.declared.question.Fractions.{Fractions}
use Rattle.fixed_fit.specs.declared.question.Fractions.TheVariants.{Beyond, Whole}
use Rattle.fixed_fit.specs.declared.question.Widths.{Widths}

pub all_within_longer : (r : Radix) (f g : ℕ) (bound : List ℕ) (lines : List (List ℕ)) → f ≤ g → AllWithin r f bound lines → AllWithin r g bound lines
all_within_longer r f g bound [] order all = tt
all_within_longer r f g bound (line ∷ lines) order all = (within_each_longer r f g line bound order all.0, all_within_longer r f g bound lines order all.1)

pub within_one_more : (r : Radix) (f : ℕ) (bound : List ℕ) (done : List (List ℕ)) (line : List ℕ) → AllWithin r f bound done → HasErrorWithin NearestEven r f line bound → AllWithin r f bound (done ++ line ∷ [])
within_one_more r f bound [] line all here = (here, tt)
within_one_more r f bound (first ∷ done) line all here = (all.0, within_one_more r f bound done line all.1 here)

pub within_before : (r : Radix) (f : ℕ) (bound : List ℕ) (done more : List (List ℕ)) → AllWithin r f bound (done ++ more) → AllWithin r f bound done
within_before r f bound [] more all = tt
within_before r f bound (first ∷ done) more all = (all.0, within_before r f bound done more all.1)

pub within_last : (r : Radix) (f : ℕ) (bound : List ℕ) (done : List (List ℕ)) (line : List ℕ) → AllWithin r f bound (done ++ line ∷ []) → HasErrorWithin NearestEven r f line bound
within_last r f bound [] line all = all.0
within_last r f bound (first ∷ done) line all = within_last r f bound done line all.1

-- ---- the same for a range
pow_grows : (f g : ℕ) → f ≤ g → 2 ^ (f + 1) ≤ 2 ^ (g + 1)
pow_grows f g order = pow-le-pow_right (omega arith) (omega (arith, order))

times_grows : (a b c : ℕ) → b ≤ c → a * b ≤ a * c
times_grows a b c order = let h : b * a ≤ c * a = mul-le-mul_right a order in omega (arith, h)

pub half_within_longer : (r : Radix) (f g : ℕ) (bound : List ℕ) → f ≤ g → IsHalfWithin r f bound → IsHalfWithin r g bound
half_within_longer r f g bound order h =
    let m = magnitude r h.parts in
    let more : m.num * 2 ^ (f + 1) ≤ m.num * 2 ^ (g + 1) = times_grows m.num (2 ^ (f + 1)) (2 ^ (g + 1)) (pow_grows f g order) in
    let least = h.at_most in
    record { parts = h.parts; numeral = h.numeral; at_most = omega (arith, least, more) }

pub error_within_longer : (range : Bool) (r : Radix) (f g : ℕ) (bound : List ℕ) (lines : List (List ℕ)) → f ≤ g → IsErrorWithin range r f bound lines → IsErrorWithin range r g bound lines
error_within_longer true r f g bound lines order h = half_within_longer r f g bound order h
error_within_longer false r f g bound lines order h = all_within_longer r f g bound lines order h

pub error_before : (range : Bool) (r : Radix) (f : ℕ) (bound : List ℕ) (done more : List (List ℕ)) → IsErrorWithin range r f bound (done ++ more) → IsErrorWithin range r f bound done
error_before true r f bound done more h = h
error_before false r f bound done more h = within_before r f bound done more h

fit_before : (r : Radix) (s : Bool) (n f : ℕ) (done more : List (List ℕ)) → AllFit r s n f (done ++ more) → AllFit r s n f done
fit_before r s n f [] more all = tt
fit_before r s n f (first ∷ done) more all = (all.0, fit_before r s n f done more all.1)

pub serves_before : (range : Bool) (r : Radix) (c : Choice) (bound : List ℕ) (done more : List (List ℕ)) (n f : ℕ) → Serves range r c bound (done ++ more) n f → Serves range r c bound done n f
serves_before range r c bound done more n f h = record {
  chosen = h.chosen;
  fit = fit_before r c.signed n f done more h.fit;
  within = error_before range r f bound done more h.within;
}

pub served_before : (range : Bool) (r : Radix) (c : Choice) (bound : List ℕ) (widths : Widths) (one : ℕ) (done more : List (List ℕ)) → IsServed range r c bound widths one (done ++ more) → IsServed range r c bound widths one done
served_before range r c bound widths one done more h = record { width = h.width; tried = h.tried; frac = h.frac; serves = serves_before range r c bound done more h.width h.frac h.serves }

pub unserved_longer : (range : Bool) (r : Radix) (c : Choice) (bound : List ℕ) (widths : Widths) (one : ℕ) (done : List (List ℕ)) (line : List ℕ) (place : ℕ) → IsFirstUnserved range r c bound widths one done place → IsFirstUnserved range r c bound widths one (done ++ line ∷ []) place
unserved_longer range r c bound widths one done line place h = record {
  before = h.before;
  line = h.line;
  after = h.after ++ line ∷ [];
  split = ap (λ l. l ++ line ∷ []) h.split ∙ append_assoc h.before (h.line ∷ h.after) (line ∷ []);
  served = h.served;
  unserved = h.unserved;
  place_is = h.place_is;
}

-- ---- what fits a width fits each greater width
range_wider : (s : Bool) (n m : ℕ) (v : ℤ) → n ≤ m → IsInRange s n v → IsInRange s m v
range_wider true n m v order h =
    let fewer : n - 1 ≤ m - 1 = omega (arith, order) in
    let up : 2 ^ (n - 1) ≤ 2 ^ (m - 1) = pow-le-pow_right (omega arith) fewer in
    record { low = omega (arith, ints, h.low, up); high = omega (arith, ints, h.high, up) }
range_wider false n m v order h =
    let up : 2 ^ n ≤ 2 ^ m = pow-le-pow_right (omega arith) order in
    record { low = omega (arith, ints, h.low, up); high = omega (arith, ints, h.high, up) }

pub all_fit_wider : (r : Radix) (s : Bool) (n m f : ℕ) (lines : List (List ℕ)) → n ≤ m → AllFit r s n f lines → AllFit r s m f lines
all_fit_wider r s n m f [] order all = tt
all_fit_wider r s n m f (line ∷ lines) order all = (record { parts = all.0.parts; has = all.0.has; number = all.0.number; read = all.0.read; in_range = range_wider s n m all.0.number order all.0.in_range }, all_fit_wider r s n m f lines order all.1)

-- the number of fraction lengths
pub lengths_few : (a : Fractions) (n : ℕ) → n ≤ 64 → frac_lengths a n ≤ 65
lengths_few (Whole least) n most = omega (arith, most)
lengths_few Beyond n most = omega arith

pub more_lengths : (a : Fractions) (n m : ℕ) → n ≤ m → frac_lengths a n ≤ frac_lengths a m
more_lengths (Whole least) n m order = omega (arith, order)
more_lengths Beyond n m order = omega arith

pub serves_wider : (range : Bool) (r : Radix) (c : Choice) (bound : List ℕ) (lines : List (List ℕ)) (n m f : ℕ) → n ≤ m → Serves range r c bound lines n f → Serves range r c bound lines m f
serves_wider range r c bound lines n m f order h = record {
  chosen = let few = h.chosen in let more = more_lengths c.fractions n m order in omega (arith, few, more);
  fit = all_fit_wider r c.signed n m f lines order h.fit;
  within = h.within;
}

-- ---- the least format and the first unserved line are unique
pub least_within_is_the_one : LeastWithinIsTheOne
least_within_is_the_one range r c bound widths one lines n m f g a b =
    let width : n ≡ m = same_width in
    (width, same_frac width)
  where
    same_width : n ≡ m
    same_width =
        ⊎_elim
        (λ (less : n < m). absurd (b.least n f less a.tried a.serves))
        (λ (more : m ≤ n). ⊎_elim
        (λ (less : m < n). absurd (a.least m g less b.tried b.serves))
        (λ (same : n ≤ m). omega (arith, more, same))
        (cases_lt m n))
        (cases_lt n m)

    same_frac : n ≡ m → f ≡ g
    same_frac width =
        let here : Serves range r c bound lines m f = subst (λ k. Serves range r c bound lines k f) width a.serves in
        let there : Serves range r c bound lines n g = subst (λ k. Serves range r c bound lines k g) (sym width) b.serves in
        ⊎_elim
        (λ (less : f < g). absurd (a.greatest g less there))
        (λ (more : g ≤ f). ⊎_elim
        (λ (less : g < f). absurd (b.greatest f less here))
        (λ (same : f ≤ g). omega (arith, more, same))
        (cases_lt g f))
        (cases_lt f g)

pub not_served : (range : Bool) (r : Radix) (c : Choice) (bound : List ℕ) (widths : Widths) (one : ℕ) (lines : List (List ℕ)) (place : ℕ) → IsFirstUnserved range r c bound widths one lines place → IsServed range r c bound widths one lines → ⊥
not_served range r c bound widths one lines place h served =
    let whole : lines ≡ (h.before ++ h.line ∷ []) ++ h.after = h.split ∙ sym (append_assoc h.before (h.line ∷ []) h.after) in
    h.unserved (served_before range r c bound widths one (h.before ++ h.line ∷ []) h.after (subst (λ l. IsServed range r c bound widths one l) whole served))

-- only one line is the first with which no format serves
first_longer : (range : Bool) (r : Radix) (c : Choice) (bound : List ℕ) (widths : Widths) (one : ℕ) (start before before' : List (List ℕ)) (line line' : List ℕ) (after after' : List (List ℕ)) → before ++ line ∷ after ≡ before' ++ line' ∷ after'
    → IsServed range r c bound widths one (start ++ before) → IsServed range r c bound widths one (start ++ before') → ¬ IsServed range r c bound widths one (start ++ (before ++ line ∷ [])) → ¬ IsServed range r c bound widths one (start ++ (before' ++ line' ∷ [])) → length before ≡ length before'
first_longer range r c bound widths one start [] [] line line' after after' e x y b b' = refl
first_longer range r c bound widths one start [] (l ∷ ls) line line' after after' e x y b b' =
    let same : l ≡ line = cc in
    absurd (b (served_before range r c bound widths one (start ++ line ∷ []) ls (subst (λ k. IsServed range r c bound widths one k) (sym (append_assoc start (line ∷ []) ls)) (subst (λ k. IsServed range r c bound widths one (start ++ k ∷ ls)) same y))))
first_longer range r c bound widths one start (l ∷ ls) [] line line' after after' e x y b b' =
    let same : l ≡ line' = cc in
    absurd (b' (served_before range r c bound widths one (start ++ line' ∷ []) ls (subst (λ k. IsServed range r c bound widths one k) (sym (append_assoc start (line' ∷ []) ls)) (subst (λ k. IsServed range r c bound widths one (start ++ k ∷ ls)) same x))))
first_longer range r c bound widths one start (l ∷ ls) (k ∷ ks) line line' after after' e x y b b' =
    let head : k ≡ l = cc in
    let tail : ls ++ line ∷ after ≡ ks ++ line' ∷ after' = cc in
    let S : List (List ℕ) → Type 0 = λ m. IsServed range r c bound widths one m in
    let split : (rest : List (List ℕ)) → (start ++ l ∷ []) ++ rest ≡ start ++ l ∷ rest = λ rest. append_assoc start (l ∷ []) rest in
    let moved : (rest : List (List ℕ)) → start ++ k ∷ rest ≡ start ++ l ∷ rest = λ rest. ap (λ a. start ++ a ∷ rest) head in
    omega (
      arith,
      first_longer range r c bound widths one (start ++ l ∷ []) ls ks line line' after after' tail
          (subst S (sym (split ls)) x)
          (subst S (moved ks ∙ sym (split ks)) y)
          (λ h. b (subst S (split (ls ++ line ∷ [])) h))
          (λ h. b' (subst S (split (ks ++ line' ∷ []) ∙ sym (moved (ks ++ line' ∷ []))) h)),
    )

first_is_one : (range : Bool) (r : Radix) (c : Choice) (bound : List ℕ) (widths : Widths) (one : ℕ) (lines : List (List ℕ)) (p q : ℕ) → IsFirstUnserved range r c bound widths one lines p → IsFirstUnserved range r c bound widths one lines q → p ≡ q
first_is_one range r c bound widths one lines p q a b =
    let same : length a.before ≡ length b.before = first_longer range r c bound widths one [] a.before b.before a.line b.line a.after b.after (sym a.split ∙ b.split) a.served b.served a.unserved b.unserved in
    omega (arith, a.place_is, b.place_is, same)

pub unserved_not : (range : Bool) (r : Radix) (c : Choice) (bound : List ℕ) (widths : Widths) (one : ℕ) (lines : List (List ℕ)) (place : ℕ) → IsUnservedFrom range r c bound widths one lines place → IsServed range r c bound widths one lines → ⊥
unserved_not range r c bound widths one lines place h served =
    ⊎_elim
    (λ (some : 0 < place). not_served range r c bound widths one lines place (h.first some) served)
    (λ (none : place ≤ 0). h.never (omega (arith, none)) (served_before range r c bound widths one [] lines served))
    (cases_lt 0 place)

pub from_longer : (range : Bool) (r : Radix) (c : Choice) (bound : List ℕ) (widths : Widths) (one : ℕ) (done : List (List ℕ)) (line : List ℕ) (place : ℕ) → IsUnservedFrom range r c bound widths one done place → IsUnservedFrom range r c bound widths one (done ++ line ∷ []) place
from_longer range r c bound widths one done line place h = record { never = h.never; first = λ some. unserved_longer range r c bound widths one done line place (h.first some) }

pub from_first : (range : Bool) (r : Radix) (c : Choice) (bound : List ℕ) (widths : Widths) (one : ℕ) (lines : List (List ℕ)) (place : ℕ) → IsFirstUnserved range r c bound widths one lines place → IsUnservedFrom range r c bound widths one lines place
from_first range r c bound widths one lines place h = record { never = λ none. let is = h.place_is in absurd (omega (arith, none, is)); first = λ _. h }

never_not_first : (range : Bool) (r : Radix) (c : Choice) (bound : List ℕ) (widths : Widths) (one : ℕ) (lines : List (List ℕ)) (p q : ℕ) → IsUnservedFrom range r c bound widths one lines p → IsUnservedFrom range r c bound widths one lines q → p ≤ 0 → 0 < q → ⊥
never_not_first range r c bound widths one lines p q a b none some = a.never (omega (arith, none)) (served_before range r c bound widths one [] (b.first some).before (b.first some).served)

pub first_unserved_is_the_one : FirstUnservedIsTheOne
first_unserved_is_the_one range r c bound widths one lines p q a b =
    ⊎_elim
    (λ (some : 0 < p). ⊎_elim
    (λ (some' : 0 < q). first_is_one range r c bound widths one lines p q (a.first some) (b.first some'))
    (λ (none : q ≤ 0). absurd (never_not_first range r c bound widths one lines q p b a none some))
    (cases_lt 0 q))
    (λ (none : p ≤ 0). ⊎_elim
    (λ (some : 0 < q). absurd (never_not_first range r c bound widths one lines p q a b none some))
    (λ (none' : q ≤ 0). omega (arith, none, none'))
    (cases_lt 0 q))
    (cases_lt 0 p)
