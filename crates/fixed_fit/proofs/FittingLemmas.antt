-- A numeral that fits a fraction length fits each shorter one.
use Rattle.std.proofs.Common.{◌≡◌, ℕ, ◌+◌, ◌-◌, ◌*◌, ◌^◌, ◌%◌, ◌<◌, ◌≤◌, ◌↔◌, Bool, true, false, not, IsTrue, List, [], ◌∷◌, ◌++◌, length, refl, sym, ap, ◌∙◌, subst, arith, inl, inr, ⊎_elim, mul-le-mul_right, mul-le-mul_left, pow_pos, zero, suc, append_assoc, ℤ}
use Rattle.std.proofs.Math.Nat.{pow-le-pow_right}
use Rattle.std.proofs.lemmas.Bool.{cases_lt}
use Rattle.std.proofs.lemmas.Int.{ints}
use Rattle.fixed_bits.specs.Nearest.{IsNearest, distance}
use Rattle.fixed_bits.specs.Formats.{FormatParts}
use Rattle.fixed_bits.specs.Numbers.{IsNumber, with_sign}
use Rattle.fixed_bits.specs.Ranges.{IsInRange, IsOutOfRange}
use Rattle.fixed_bits.specs.declared.mode.ReadMode.TheVariants.{NearestEven}
use Rattle.fixed_bits.proofs.Public.{inside, range_decided}
use Rattle.fixed_numeral.specs.Numeral.{Parts, HasNumeral, IsNumeral, is_minus}
use Rattle.fixed_numeral.specs.Value.{magnitude}
use Rattle.fixed_numeral.specs.declared.radix.Radix.{Radix}
use Rattle.fixed_numeral.proofs.Public.{magnitude_pos, parts_unique}
use Rattle.fixed_read.specs.Reading.{IsReadNumber, IsReading, number_in}
use Rattle.fixed_read.specs.declared.read_number.ReadNumber.{ReadNumber}
use Rattle.fixed_read.proofs.Public.{read_number_is_the_one, read_unique}
use Rattle.fixed_fit.specs.Fitting.{AllFit, Exceeds, Fits, IsFirstExceeding}
use Rattle.fixed_fit.specs.Inner.Lengths.{AreLengths, AreLowered}
use Rattle.fixed_fit.specs.declared.lengths.Lengths.{Lengths}
use Rattle.fixed_fit.specs.declared.question.Fractions.{Fractions}
use Rattle.fixed_fit.specs.Laws.{FitsEachShorter, AllFitEachShorter, FinestIsTheOne, SignRuleIsTheOne}

-- the nearest whole number to a smaller fraction is at most that to a greater one
tie_of : (num den q : ℕ) → 2 * num + den ≡ 2 * (q * den) → 2 * distance num (q * den) ≡ den
tie_of num den q e = omega (arith, e)

tie_up : (num den q : ℕ) → 2 * num ≡ 2 * (q * den) + den → 2 * distance num (q * den) ≡ den
tie_up num den q e = omega (arith, e)

pub nearest_grows : (small large den p q : ℕ) → 0 < den → small ≤ large → IsNearest small den p → IsNearest large den q → p ≤ q
nearest_grows small large den p q some order a b =
    ⊎_elim
    (λ (over : q < p). absurd (
    let step : (q + 1) * den ≤ p * den = mul-le-mul_right den (omega (arith, over)) in
    let low : 2 * (p * den) ≤ 2 * small + den = omega (arith, a.near) in
    let high : 2 * large ≤ 2 * (q * den) + den = omega (arith, b.near) in
    let top : 2 * small + den ≡ 2 * (p * den) = omega (arith, step, low, high, order) in
    let bottom : 2 * large ≡ 2 * (q * den) + den = omega (arith, step, low, high, order) in
    let even_p : p % 2 ≡ 0 = a.tie (tie_of small den p top) in
    let even_q : q % 2 ≡ 0 = b.tie (tie_up large den q bottom) in
    let one : p * den ≡ (q + 1) * den = omega (arith, step, low, high, order) in
    let more : p ≤ q + 1 = not_more p q den some one in
    omega (arith, even_p, even_q, over, more)))
    (λ (within : p ≤ q). within)
    (cases_lt q p)
  where
    not_more : (p q den : ℕ) → 0 < den → p * den ≡ (q + 1) * den → p ≤ q + 1
    not_more p q den some one =
        ⊎_elim
        (λ (over : q + 1 < p). absurd (
        let step : (q + 2) * den ≤ p * den = mul-le-mul_right den (omega (arith, over)) in
        omega (arith, step, one, some)))
        (λ (within : p ≤ q + 1). within)
        (cases_lt (q + 1) p)

-- a smaller magnitude of the same sign is in range
pub range_shrinks : (s : Bool) (n : ℕ) (minus : Bool) (a b : ℕ) → a ≤ b → IsInRange s n (with_sign minus b) → IsInRange s n (with_sign minus a)
range_shrinks true n true a b order h = record { low = omega (arith, ints, h.low, order); high = omega (arith, ints, pow_pos (n - 1)) }
range_shrinks true n false a b order h = record { low = omega (arith, ints, pow_pos (n - 1)); high = omega (arith, ints, h.high, order) }
range_shrinks false n true a b order h = record { low = omega (arith, ints, h.low, order); high = omega (arith, ints, pow_pos n) }
range_shrinks false n false a b order h = record { low = omega (arith, ints); high = omega (arith, ints, h.high, order) }

-- a numeral in range stays in range if read with a shorter fraction length
shorter : (r : Radix) (p : Parts) (s : Bool) (n f g : ℕ) (v w : ℤ) → g ≤ f → IsReadNumber NearestEven r p f v → IsReadNumber NearestEven r p g w → IsInRange s n v → IsInRange s n w
shorter r p s n f g v w order x y h =
    let num : ℕ = (magnitude r p).num in
    let fewer : num * 2 ^ g ≤ num * 2 ^ f = mul-le-mul_left num (pow-le-pow_right (omega arith) order) in
    let less : y.ulps ≤ x.ulps = nearest_grows (num * 2 ^ g) (num * 2 ^ f) (magnitude r p).den y.ulps x.ulps (magnitude_pos r p) fewer y.rounded x.rounded in
    let P : ℤ → Type 0 = λ z. IsInRange s n z in
    subst P (sym y.value) (range_shrinks s n (is_minus p.sign) y.ulps x.ulps less (subst P x.value h))

pub fits_each_shorter : FitsEachShorter
fits_each_shorter r s n f g line order h =
    let w = read_number_is_the_one NearestEven r h.parts g in
    record { parts = h.parts; has = h.has; number = w.0; read = w.1; in_range = shorter r h.parts s n f g h.number w.0 order h.read w.1 h.in_range }

pub all_fit_each_shorter : AllFitEachShorter
all_fit_each_shorter r s n f g [] order all = tt
all_fit_each_shorter r s n f g (line ∷ lines) order all = (fits_each_shorter r s n f g line order all.0, all_fit_each_shorter r s n f g lines order all.1)

-- no line both fits and exceeds
pub not_both : (r : Radix) (s : Bool) (n f : ℕ) (line : List ℕ) → Fits r s n f line → Exceeds r s n f line → ⊥
not_both r s n f line h e =
    let same : e.parts ≡ h.parts = parts_unique r line e.parts h.parts e.has.beginning h.has.beginning in
    let P : Parts → Type 0 = λ p. IsReadNumber NearestEven r p f e.number in
    let equal : e.number ≡ h.number = read_unique NearestEven r h.parts f e.number h.number (subst P same e.read) h.read in
    let Q : ℤ → Type 0 = λ v. IsOutOfRange s n v in
    (range_decided s n h.number).1 (subst Q equal e.out_of_range) h.in_range

-- a list with a line that exceeds does not fit
fit_at : (r : Radix) (s : Bool) (n f : ℕ) (before : List (List ℕ)) (line : List ℕ) (after : List (List ℕ)) → AllFit r s n f (before ++ line ∷ after) → Fits r s n f line
fit_at r s n f [] line after all = all.0
fit_at r s n f (first ∷ before) line after all = fit_at r s n f before line after all.1

pub exceeding_not : (r : Radix) (s : Bool) (n f : ℕ) (lines : List (List ℕ)) (place : ℕ) → IsFirstExceeding r s n f lines place → ¬ AllFit r s n f lines
exceeding_not r s n f lines place h all =
    let P : List (List ℕ) → Type 0 = λ l. AllFit r s n f l in
    not_both r s n f h.line (fit_at r s n f h.before h.line h.after (subst P h.split all)) h.exceeds

pub finest_is_the_one : FinestIsTheOne
finest_is_the_one r c n f g lines a b =
    ⊎_elim
    (λ (less : f < g). absurd (a.greatest g less b.chosen b.fit))
    (λ (more : g ≤ f). ⊎_elim
    (λ (less : g < f). absurd (b.greatest f less a.chosen a.fit))
    (λ (same : f ≤ g). omega (arith, more, same))
    (cases_lt g f))
    (cases_lt f g)

pub sign_rule_is_the_one : SignRuleIsTheOne
sign_rule_is_the_one r asked true true lines a b = refl
sign_rule_is_the_one r asked false false lines a b = refl
sign_rule_is_the_one r asked true false lines (inl a) b = let no : true ≡ false = sym a ∙ b.0 in cc
sign_rule_is_the_one r asked true false lines (inr a) b = absurd (b.1 a)
sign_rule_is_the_one r asked false true lines b (inl a) = let no : true ≡ false = sym a ∙ b.0 in cc
sign_rule_is_the_one r asked false true lines b (inr a) = absurd (b.1 a)

-- ---- one more line
pub fit_one_more : (r : Radix) (s : Bool) (n f : ℕ) (done : List (List ℕ)) (line : List ℕ) → AllFit r s n f done → Fits r s n f line → AllFit r s n f (done ++ line ∷ [])
fit_one_more r s n f [] line all here = (here, tt)
fit_one_more r s n f (first ∷ done) line all here = (all.0, fit_one_more r s n f done line all.1 here)

pub exceeding_longer : (r : Radix) (s : Bool) (n f : ℕ) (done : List (List ℕ)) (line : List ℕ) (place : ℕ) → IsFirstExceeding r s n f done place → IsFirstExceeding r s n f (done ++ line ∷ []) place
exceeding_longer r s n f done line place h = record {
  before = h.before;
  line = h.line;
  after = h.after ++ line ∷ [];
  split = ap (λ l. l ++ line ∷ []) h.split ∙ append_assoc h.before (h.line ∷ h.after) (line ∷ []);
  fit = h.fit;
  exceeds = h.exceeds;
  place_is = h.place_is;
}

pub lengths_one_more : (a : Fractions) (r : Radix) (done : List (List ℕ)) (line : List ℕ) (place : ℕ) (old new : Lengths) → place ≡ length done + 1 → AreLengths a r done old → AreLowered r line place old new → AreLengths a r (done ++ line ∷ []) new
lengths_one_more a r done line place old new at h low = subst P (sym low.kind) known
  where
    P : FormatParts → Type 0
    P k = AreLengths a r (done ++ line ∷ []) (record { kind = k; count = new.count; place = new.place })

    known : P old.kind
    known = record {
      most = omega (arith, low.fewer, h.most);
      few = omega (arith, low.fewer, h.few);
      fit = λ f less. fit_one_more r old.kind.signed old.kind.width f done line (h.fit f (omega (arith, less, low.fewer))) (low.fit f less);
      never = λ none. let same : new.count ≡ old.count = omega (arith, low.fewer, h.most, none) in low.same same ∙ h.never none;
      first = λ within. ⊎_elim
          (λ (fewer : new.count < old.count). record {
            before = done;
            line = line;
            after = [];
            split = refl;
            fit = h.fit new.count fewer;
            exceeds = low.exceeds fewer;
            place_is = low.noted fewer ∙ at;
          })
          (λ (more : old.count ≤ new.count).
          let same : old.count ≡ new.count = omega (arith, more, low.fewer) in
          let place_same : old.place ≡ new.place = sym (low.same (sym same)) in
          let C : ℕ → Type 0 = λ c. IsFirstExceeding r old.kind.signed old.kind.width c (done ++ line ∷ []) new.place in
          let D : ℕ → Type 0 = λ q. IsFirstExceeding r old.kind.signed old.kind.width old.count (done ++ line ∷ []) q in
          subst C same (subst D place_same (exceeding_longer r old.kind.signed old.kind.width old.count done line old.place (h.first (omega (arith, same, within))))))
          (cases_lt new.count old.count);
    }

-- ---- the result of one reading
pub fits_by : (r : Radix) (line : List ℕ) (k : FormatParts) (found : ReadNumber) (out : Bool) → IsNumeral r line → found.format ≡ k → ((p : Parts) → HasNumeral r line p → IsReading NearestEven r p found)
    → ((v : ℤ) → IsNumber (number_in found) v → IsTrue out ↔ IsOutOfRange found.format.signed found.format.width v) → not out ≡ true → Fits r k.signed k.width k.frac line
fits_by r line k found false numeral at reading range is = subst P at known
  where
    P : FormatParts → Type 0
    P q = Fits r q.signed q.width q.frac line

    x : IsReading NearestEven r numeral.0 found
    x = reading numeral.0 numeral.1

    known : P found.format
    known = record { parts = numeral.0; has = numeral.1; number = x.number; read = x.read; in_range = inside found.format.signed found.format.width x.number false refl (range x.number x.holds) }
fits_by r line k found true numeral at reading range is = let no : false ≡ true = is in cc

pub exceeds_by : (r : Radix) (line : List ℕ) (k : FormatParts) (found : ReadNumber) (out : Bool) → IsNumeral r line → found.format ≡ k → ((p : Parts) → HasNumeral r line p → IsReading NearestEven r p found)
    → ((v : ℤ) → IsNumber (number_in found) v → IsTrue out ↔ IsOutOfRange found.format.signed found.format.width v) → not out ≡ false → Exceeds r k.signed k.width k.frac line
exceeds_by r line k found true numeral at reading range is = subst P at known
  where
    P : FormatParts → Type 0
    P q = Exceeds r q.signed q.width q.frac line

    x : IsReading NearestEven r numeral.0 found
    x = reading numeral.0 numeral.1

    known : P found.format
    known = record { parts = numeral.0; has = numeral.1; number = x.number; read = x.read; out_of_range = (range x.number x.holds).0 refl }
exceeds_by r line k found false numeral at reading range is = let no : true ≡ false = is in cc

-- a line that fits the greatest fraction length below a count fits each length below it
pub below_count : (r : Radix) (s : Bool) (n count : ℕ) (line : List ℕ) → ((f : ℕ) → f + 1 ≡ count → Fits r s n f line) → (f : ℕ) → f < count → Fits r s n f line
below_count r s n zero line last f less = absurd (omega (arith, less))
below_count r s n (suc top) line last f less = fits_each_shorter r s n top f line (omega (arith, less)) (last top (omega arith))

-- a line leaves the lengths as they were, or fewer
pub not_lowered : (r : Radix) (line : List ℕ) (place : ℕ) (old : Lengths) (left : ℕ) → left ≡ old.count → ((f : ℕ) → f + 1 ≡ left → Fits r old.kind.signed old.kind.width f line) → AreLowered r line place old old
not_lowered r line place old left same fits = record {
  kind = refl;
  fewer = omega arith;
  fit = λ f less. below_count r old.kind.signed old.kind.width left line fits f (omega (arith, less, same));
  same = λ _. refl;
  exceeds = λ less. absurd (omega (arith, less));
  noted = λ less. absurd (omega (arith, less));
}

pub some_lowered : (r : Radix) (line : List ℕ) (place : ℕ) (old : Lengths) (left : ℕ) → left ≤ old.count → (left ≡ old.count → ⊥) → ((f : ℕ) → f + 1 ≡ left → Fits r old.kind.signed old.kind.width f line)
    → (left < old.count → Exceeds r old.kind.signed old.kind.width left line) → AreLowered r line place old (record { kind = old.kind; count = left; place = place })
some_lowered r line place old left fewer other fits exceeds = record {
  kind = refl;
  fewer = fewer;
  fit = below_count r old.kind.signed old.kind.width left line fits;
  same = λ e. absurd (other e);
  exceeds = exceeds;
  noted = λ _. refl;
}
