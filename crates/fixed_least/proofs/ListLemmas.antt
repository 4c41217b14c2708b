-- Lists of lines that grow by one line, and what is found for them.
use Rattle.std.proofs.Common.{◌≡◌, ℕ, ◌+◌, ◌<◌, ◌≤◌, ◌⊎◌, List, [], ◌∷◌, ◌++◌, length, refl, sym, ap, ◌∙◌, subst, arith, inl, inr, Option, Some, None, get_or, replicate, zero, suc, append_assoc, append-nil}
use Rattle.std.proofs.lemmas.Grind.{flat_map-append}
use Rattle.fixed_bits.specs.Formats.{FormatParts, IsTypeFormat}
use Rattle.fixed_bits.specs.Order.{rank}
use Rattle.line_engine.specs.Output.{reply_line, written_of}
use Rattle.line_engine.specs.AnswerText.{AnswerText}
use Rattle.fixed_numeral.specs.Numeral.{IsNumeral}
use Rattle.fixed_numeral.specs.declared.radix.Radix.{Radix}
use Rattle.fixed_least.specs.Holding.{AllHold, AllNumerals, HoldsLine, IsFirstRefused, RefusesLine}
use Rattle.fixed_least.specs.Least.{AreLines, IsLeast, IsLeastLine}
use Rattle.fixed_least.specs.Inner.Slots.{AreLiving, IsNoted, slot, slot_of, kind_width}
use Rattle.fixed_least.specs.Inner.Valued.{HasValue, IsExactOf}
use Rattle.fixed_least.specs.Lemmas.HoldingLemmas.{exact_decides}
use Rattle.fixed_least.specs.declared.exact.Exact.{Exact}

pub hold_one_more : (r : Radix) (f : FormatParts) (done : List (List ℕ)) (line : List ℕ) → AllHold r f done → HoldsLine r f line → AllHold r f (done ++ line ∷ [])
hold_one_more r f [] line all here = (here, tt)
hold_one_more r f (first ∷ done) line all here = (all.0, hold_one_more r f done line all.1 here)

pub numerals_one_more : (r : Radix) (done : List (List ℕ)) (line : List ℕ) → AllNumerals r done → IsNumeral r line → AllNumerals r (done ++ line ∷ [])
numerals_one_more r [] line all here = (here, tt)
numerals_one_more r (first ∷ done) line all here = (all.0, numerals_one_more r done line all.1 here)

-- 0 if a format holds all lines so far, else the number of the first line that it refuses
abbrev pub NotedSoFar : Radix → FormatParts → List (List ℕ) → ℕ → Type 0
NotedSoFar r f done n = ((n ≡ 0) × AllHold r f done) ⊎ IsFirstRefused r f done n

refused_longer : (r : Radix) (f : FormatParts) (done : List (List ℕ)) (line : List ℕ) (n : ℕ) → IsFirstRefused r f done n → IsFirstRefused r f (done ++ line ∷ []) n
refused_longer r f done line n h = record {
  before = h.before;
  line = h.line;
  after = h.after ++ line ∷ [];
  split = ap (λ l. l ++ line ∷ []) h.split ∙ append_assoc h.before (h.line ∷ h.after) (line ∷ []);
  held = h.held;
  refused = h.refused;
  place_is = h.place_is;
}

-- a format holds a line if it has the line's value
value_holds : (r : Radix) (f : FormatParts) (line : List ℕ) (value : Option Exact) → IsTypeFormat f.width f.frac → IsExactOf r line value → HasValue f value → HoldsLine r f line
value_holds r f line None is exact has = absurd has
value_holds r f line (Some e) is exact has = record { parts = exact.parts; numeral = exact.numeral; holds = (exact_decides r exact.parts f e.negative e.ulps is exact.value_of).1 has }

value_refuses : (r : Radix) (f : FormatParts) (line : List ℕ) (value : Option Exact) → IsTypeFormat f.width f.frac → IsExactOf r line value → (HasValue f value → ⊥) → RefusesLine r f line
value_refuses r f line None is exact none = record { parts = exact.parts; numeral = exact.numeral; refuses = λ h. exact.value_of f is h }
value_refuses r f line (Some e) is exact none = record { parts = exact.parts; numeral = exact.numeral; refuses = λ h. none ((exact_decides r exact.parts f e.negative e.ulps is exact.value_of).0 h) }

noted_zero : (r : Radix) (f : FormatParts) (done : List (List ℕ)) (n : ℕ) → n ≡ 0 → NotedSoFar r f done n → AllHold r f done
noted_zero r f done n none (inl h) = h.1
noted_zero r f done n none (inr h) = absurd (omega (arith, none, h.place_is))

noted_some : (r : Radix) (f : FormatParts) (done : List (List ℕ)) (n : ℕ) → (n ≡ 0 → ⊥) → NotedSoFar r f done n → IsFirstRefused r f done n
noted_some r f done n some (inl h) = absurd (some h.0)
noted_some r f done n some (inr h) = h

pub noted_one_more : (r : Radix) (f : FormatParts) (done : List (List ℕ)) (line : List ℕ) (value : Option Exact) (place old new : ℕ) → IsTypeFormat f.width f.frac → IsExactOf r line value → place ≡ length done + 1 → NotedSoFar r f done old → IsNoted f value place old new → NotedSoFar r f (done ++ line ∷ []) new
noted_one_more r f done line value place old new is exact place_is before (inl h) =
    let P : ℕ → Type 0 = λ n. NotedSoFar r f (done ++ line ∷ []) n in
    subst P (sym h.1) (inr (refused_longer r f done line old (noted_some r f done old h.0 before)))
noted_one_more r f done line value place old new is exact place_is before (inr (inl h)) = inl (h.2, hold_one_more r f done line (noted_zero r f done old h.0 before) (value_holds r f line value is exact h.1))
noted_one_more r f done line value place old new is exact place_is before (inr (inr h)) = inr (record {
  before = done;
  line = line;
  after = [];
  split = refl;
  held = noted_zero r f done old h.0 before;
  refused = value_refuses r f line value is exact h.1;
  place_is = h.2 ∙ place_is;
})

-- the split of the lines after one more line
pub split_more : (whole done rest after : List (List ℕ)) (line : List ℕ) → whole ≡ done ++ rest → rest ≡ line ∷ after → whole ≡ (done ++ line ∷ []) ++ after
split_more whole done rest after line split first = split ∙ (ap (λ l. done ++ l) first ∙ sym (append_assoc done (line ∷ []) after))

-- what is found after the last line
pub least_found : (r : Radix) (whole done rest : List (List ℕ)) (slots found : List ℕ) → whole ≡ done ++ rest → rest ≡ [] → AllNumerals r done → ((f : FormatParts) → IsTypeFormat f.width f.frac → NotedSoFar r f done (get_or slots (slot_of f) 0)) → length found ≤ 248
    → ((f : FormatParts) → IsTypeFormat f.width f.frac → rank f < length found → (get_or found (rank f) 0 ≡ get_or slots (slot_of f) 0) × (get_or slots (slot_of f) 0 ≡ 0 → ⊥))
    → ((f : FormatParts) → IsTypeFormat f.width f.frac → rank f ≡ length found → get_or slots (slot_of f) 0 ≡ 0) → IsLeast r whole found
least_found r whole done rest slots found split none numerals noted short kept first =
    let same : whole ≡ done = split ∙ (ap (λ l. done ++ l) none ∙ append-nil done) in
    let N : List (List ℕ) → Type 0 = λ l. AllNumerals r l in
    record {
      short = short;
      numerals = subst N (sym same) numerals;
      refutes = λ f is low.
          let here = kept f is low in
          let P : List (List ℕ) → Type 0 = λ l. IsFirstRefused r f l (get_or found (rank f) 0) in
          let Q : ℕ → Type 0 = λ n. IsFirstRefused r f done n in
          subst P (sym same) (subst Q (sym here.0) (noted_some r f done (get_or slots (slot_of f) 0) here.1 (noted f is)));
      holds = λ f is e.
          let A : List (List ℕ) → Type 0 = λ l. AllHold r f l in
          subst A (sym same) (noted_zero r f done (get_or slots (slot_of f) 0) (first f is e) (noted f is));
    }

abbrev zeros : ℕ → List ℕ
zeros n = replicate n 0

pub zeros_at : (n k : ℕ) → get_or (zeros n) k 0 ≡ 0
zeros_at zero k = refl
zeros_at (suc n) zero = refl
zeros_at (suc n) (suc k) = zeros_at n k

pub nil_of : (xs : List ℕ) → length xs ≡ 0 → xs ≡ []
nil_of [] e = refl
nil_of (x ∷ xs) e = absurd (omega (arith, e))

-- the answers about an outcome, with one more
pub lines_one_more : (places : List ℕ) (k : ℕ) (answers : List AnswerText) (answer : AnswerText) → AreLines places k answers → IsLeastLine places (k + length answers) answer → AreLines places k (answers ++ answer ∷ [])
lines_one_more places k [] answer all here = let P : ℕ → Type 0 = λ n. IsLeastLine places n answer in let e : k + 0 ≡ k = omega arith in (subst P e here, tt)
lines_one_more places k (first ∷ answers) answer all here = let P : ℕ → Type 0 = λ n. IsLeastLine places n answer in let e : k + length (first ∷ answers) ≡ k + 1 + length answers = omega arith in (all.0, lines_one_more places (k + 1) answers answer all.1 (subst P e here))

pub written_one_more : (answers : List AnswerText) (answer : AnswerText) (old new : List ℕ) → old ≡ written_of answers → new ≡ old ++ reply_line answer → new ≡ written_of (answers ++ answer ∷ [])
written_one_more answers answer old new before is = is ∙ (ap (λ l. l ++ reply_line answer) before ∙ (ap (λ l. written_of answers ++ l) (sym (append-nil (reply_line answer))) ∙ sym (flat_map-append reply_line answers (answer ∷ []))))

-- ---- before the first line
-- every fraction length of each kind is still possible
pub all_living : (slots lows highs : List ℕ) → ((i : ℕ) → get_or slots i 0 ≡ 0) → ((j : ℕ) → j < 8 → get_or lows j 0 ≡ 0) → ((j : ℕ) → j < 8 → get_or highs j 0 ≡ kind_width j + 1) → AreLiving slots lows highs
all_living slots lows highs none low high = record {
  order = λ j is. rw (low j is) (omega arith);
  most = λ j is. rw (high j is) (omega arith);
  living = λ j is k w. rw (low j is, high j is) ((λ _. none (slot j k)), (λ _. (omega arith, omega arith)));
}
