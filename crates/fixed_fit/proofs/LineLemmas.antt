-- The kept errors after one more line.
use Rattle.std.proofs.Common.{◌≡◌, ℕ, ◌+◌, ◌^◌, ◌<◌, ◌≤◌, Bool, true, false, List, [], ◌∷◌, ◌++◌, length, max, min, Option, None, sym, ap, ◌∙◌, subst, arith, ⊎_elim, ℤ}
use Rattle.std.proofs.lemmas.Bool.{cases_lt}
use Rattle.std.proofs.lemmas.Int.{ints}
use Rattle.fixed_bits.specs.Formats.{FormatParts}
use Rattle.fixed_bits.specs.Numbers.{with_sign}
use Rattle.fixed_bits.specs.Ranges.{IsWide, IsWidth}
use Rattle.fixed_bits.specs.declared.mode.ReadMode.TheVariants.{NearestEven}
use Rattle.fixed_bits.proofs.Public.{in_wide}
use Rattle.fixed_error.specs.ErrorSize.{IsReadWithin}
use Rattle.fixed_error.specs.Errors.{HasGreatestErrors}
use Rattle.fixed_error.specs.Greatest.{Entry}
use Rattle.fixed_error.specs.declared.errors.GreatestErrors.{GreatestErrors}
use Rattle.fixed_least.specs.Holding.{AllNumerals}
use Rattle.fixed_least.specs.declared.least.LeastFault.{LeastFault}
use Rattle.fixed_numeral.specs.Numeral.{IsNumeral, is_minus}
use Rattle.fixed_numeral.specs.declared.radix.Radix.{Radix}
use Rattle.fixed_fit.specs.ErrorWord.{entries_from}
use Rattle.fixed_fit.specs.Fitting.{AllFit, Fits}
use Rattle.fixed_fit.specs.Inner.Lengths.{AreLengths}
use Rattle.fixed_fit.specs.Inner.Progress.{AreFitted, HasProgress, IsKnown}
use Rattle.fixed_fit.specs.Inner.Reading.{AreKept}
use Rattle.fixed_fit.specs.Inner.Serving.{AreServed, Asked}
use Rattle.fixed_fit.specs.declared.lengths.Lengths.{Lengths}
use Rattle.fixed_fit.specs.declared.progress.Progress.{Progress}
use Rattle.fixed_fit.specs.declared.question.Fractions.{Fractions}
use Rattle.fixed_fit.specs.declared.serving.Within.{Within}
use Rattle.fixed_fit.proofs.ErrorWordLemmas.{entries_longer}

-- ---- a numeral that fits is rounded to fewer than 2^64 ulps
few_ulps : (minus : Bool) (ulps : ℕ) → IsWide (with_sign minus ulps) → ulps < 2 ^ 64
few_ulps true ulps h = omega (arith, ints, h.low)
few_ulps false ulps h = omega (arith, ints, h.high)

pub fits_within : (r : Radix) (s : Bool) (n f : ℕ) (line : List ℕ) → n ≤ 64 → Fits r s n f line → IsReadWithin NearestEven r f line
fits_within r s n f line most h = record {
  parts = h.parts;
  numeral = h.has;
  number = h.number;
  read = h.read;
  within = few_ulps (is_minus h.parts.sign) h.read.ulps (subst (λ (v : ℤ). IsWide v) h.read.value (in_wide s n h.number most h.in_range));
}

last_fits : (r : Radix) (s : Bool) (n f : ℕ) (done : List (List ℕ)) (line : List ℕ) → AllFit r s n f (done ++ line ∷ []) → Fits r s n f line
last_fits r s n f [] line all = all.0
last_fits r s n f (first ∷ done) line all = last_fits r s n f done line all.1

last_numeral : (r : Radix) (done : List (List ℕ)) (line : List ℕ) → AllNumerals r (done ++ line ∷ []) → IsNumeral r line
last_numeral r [] line all = all.0
last_numeral r (first ∷ done) line all = last_numeral r done line all.1

by_lengths : (a : Fractions) (r : Radix) (s : Bool) (n f : ℕ) (done : List (List ℕ)) (line : List ℕ) (l : Lengths) → n ≤ 64 → l.kind ≡ record { signed = s; width = n; frac = 0 } → AreLengths a r (done ++ line ∷ []) l → f < l.count → IsReadWithin NearestEven r f line
by_lengths a r s n f done line l most kind h less =
    fits_within r s n f line most (last_fits r s n f done line (subst (λ (k : FormatParts). AllFit r k.signed k.width f (done ++ line ∷ [])) kind (h.fit f less)))

pub fitted : (n : ℕ) (list : List (List ℕ)) (p : Progress) → HasProgress n list p → p.fault ≡ None → AreFitted n list p
fitted n list p h none = subst (λ (f : Option LeastFault). IsKnown n list p f) none h.known

pub line_within : (r : Radix) (n f : ℕ) (done : List (List ℕ)) (line : List ℕ) (p : Progress) → IsWidth n → HasProgress n (done ++ line ∷ []) p → p.radix ≡ r → p.fault ≡ None → f < max p.plain.count p.signed.count → IsReadWithin NearestEven r f line
line_within r n f done line p width h same none less =
    let known : AreFitted n (done ++ line ∷ []) p = fitted n (done ++ line ∷ []) p h none in
    subst (λ (x : Radix). IsReadWithin NearestEven x f line) same
    (⊎_elim
    (λ (plain : f < p.plain.count). by_lengths p.fractions p.radix false n f done line p.plain width.most h.plain_kind known.plain plain)
    (λ (past : p.plain.count ≤ f). by_lengths p.fractions p.radix true n f done line p.signed width.most h.signed_kind known.signed (omega (arith, past, less)))
    (cases_lt f p.plain.count))

pub line_numeral : (r : Radix) (n : ℕ) (done : List (List ℕ)) (line : List ℕ) (p : Progress) → HasProgress n (done ++ line ∷ []) p → p.radix ≡ r → p.fault ≡ None → IsNumeral r line
line_numeral r n done line p h same none =
    let known : AreFitted n (done ++ line ∷ []) p = fitted n (done ++ line ∷ []) p h none in
    subst (λ (x : Radix). IsNumeral x line) same (last_numeral p.radix done line known.numerals)

-- ---- the errors after one more line
pub errors_longer : (r : Radix) (done : List (List ℕ)) (line : List ℕ) (place count old plain signed : ℕ) (errors : GreatestErrors) → place ≡ length done + 1 → plain ≤ old → signed ≤ old → count ≡ max plain signed
    → HasGreatestErrors r (min count old) (entries_from 1 done ++ record { place = place; numeral = line } ∷ []) errors → HasGreatestErrors r (max plain signed) (entries_from 1 (done ++ line ∷ [])) errors
errors_longer r done line place count old plain signed errors at few few' is h =
    let one : min count old ≡ max plain signed = omega (arith, few, few', is) in
    let here : entries_from 1 done ++ record { place = place; numeral = line } ∷ [] ≡ entries_from 1 (done ++ line ∷ []) =
    ap (λ (k : ℕ). entries_from 1 done ++ record { place = k; numeral = line } ∷ []) at ∙ sym (entries_longer 1 done line) in
    subst (λ (l : List Entry). HasGreatestErrors r (max plain signed) l errors) here (subst (λ (c : ℕ). HasGreatestErrors r c (entries_from 1 done ++ record { place = place; numeral = line } ∷ []) errors) one h)

pub ended : (r : Radix) (a : Asked) (done : List (List ℕ)) (line : List ℕ) (p new : Progress) (e errors : GreatestErrors) (w within : Within) → ((m : ℕ) (lines : List (List ℕ)) → HasProgress m lines p → HasProgress m (lines ++ line ∷ []) new)
    → new.radix ≡ p.radix → new.fractions ≡ p.fractions → (new.fault ≡ None → HasGreatestErrors r (max new.plain.count new.signed.count) (entries_from 1 (done ++ line ∷ [])) errors)
    → within.is_bounded ≡ w.is_bounded → (a.is_bounded ≡ true → new.fault ≡ None → AreServed r a (done ++ line ∷ []) within)
    → AreKept r a done p e w → AreKept r a (done ++ line ∷ []) new errors within
ended r a done line p new e errors w within more radix fractions longer is_bounded served h =
    record { width = h.width; progress = more a.width done h.progress; radix = radix ∙ h.radix; fractions = fractions ∙ h.fractions; errors = longer; is_bounded = is_bounded ∙ h.is_bounded; within = served }

-- the errors that `add` requires
pub some_errors : (r : Radix) (a : Asked) (whole : List (List ℕ)) (count : ℕ) (p : Progress) (e errors : GreatestErrors) (w : Within) → AreKept r a whole p e w → p.fault ≡ None
    → ((x : Radix) (c : ℕ) (entries : List Entry) → HasGreatestErrors x c entries e → HasGreatestErrors x (min count c) entries errors) → HasGreatestErrors r (min count (max p.plain.count p.signed.count)) (entries_from 1 whole) errors
some_errors r a whole count p e errors w h none shorter = shorter r (max p.plain.count p.signed.count) (entries_from 1 whole) (h.errors none)

-- the serving formats that are kept for a bound, while all lines are numerals
pub some_served : (r : Radix) (a : Asked) (done : List (List ℕ)) (p : Progress) (e : GreatestErrors) (w : Within) → w.is_bounded ≡ true → p.fault ≡ None → AreKept r a done p e w → AreServed r a done w
some_served r a done p e w bounded none h = h.within (sym h.is_bounded ∙ bounded) none
