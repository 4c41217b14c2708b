-- What is known of the lines after one more line.
use Rattle.std.proofs.Common.{◌≡◌, ℕ, ◌+◌, ◌≤◌, ◌⊎◌, ◌↔◌, ◌||◌, Bool, true, false, IsTrue, List, [], ◌∷◌, ◌++◌, length, Option, Some, None, is_some, refl, sym, ap, ◌∙◌, subst, arith, inl, inr, append_assoc, length-append}
use Rattle.fixed_least.specs.Holding.{AllNumerals}
use Rattle.fixed_least.specs.Least.{IsNoNumeral, kind_at, place_of}
use Rattle.fixed_least.specs.declared.least.LeastFault.{LeastFault}
use Rattle.fixed_numeral.specs.Cause.{HasCause}
use Rattle.fixed_numeral.specs.Numeral.{Parts, HasNumeral, IsNumeral}
use Rattle.fixed_numeral.specs.declared.radix.Radix.{Radix}
use Rattle.fixed_fit.specs.Fitting.{HasBelowZero, IsBelowZero, IsLineBelowZero, frac_lengths}
use Rattle.fixed_fit.specs.Inner.Lengths.{AreLengths, AreLowered, IsRoomOf}
use Rattle.fixed_fit.specs.Inner.Progress.{AreFitted, HasProgress, IsKnown}
use Rattle.fixed_fit.specs.declared.lengths.Lengths.{Lengths}
use Rattle.fixed_fit.specs.declared.progress.Progress.{Progress}
use Rattle.fixed_fit.specs.declared.question.Fractions.{Fractions}
use Rattle.fixed_fit.proofs.FittingLemmas.{lengths_one_more}

-- before the first line, all lengths remain
pub all_are_left : (a : Fractions) (r : Radix) (l : Lengths) → l.count ≡ frac_lengths a l.kind.width → l.count ≤ 65 → l.place ≡ 0 → AreLengths a r [] l
all_are_left a r l all few place = record {
  most = omega (arith, all);
  few = few;
  fit = λ f less. tt;
  never = λ _. place;
  first = λ less. absurd (omega (arith, all, less));
}

numerals_one_more : (r : Radix) (done : List (List ℕ)) (line : List ℕ) → AllNumerals r done → IsNumeral r line → AllNumerals r (done ++ line ∷ [])
numerals_one_more r [] line all here = (here, tt)
numerals_one_more r (first ∷ done) line all here = (all.0, numerals_one_more r done line all.1 here)

below_one_more : (r : Radix) (done : List (List ℕ)) (line : List ℕ) → HasBelowZero r (done ++ line ∷ []) ↔ (HasBelowZero r done ⊎ IsLineBelowZero r line)
below_one_more r done line = (to done, back done)
  where
    to : (done : List (List ℕ)) → HasBelowZero r (done ++ line ∷ []) → HasBelowZero r done ⊎ IsLineBelowZero r line
    to [] (inl here) = inr here
    to [] (inr none) = absurd none
    to (first ∷ done) (inl here) = inl (inl here)
    to (first ∷ done) (inr later) = later_of (to done later)
      where
        later_of : HasBelowZero r done ⊎ IsLineBelowZero r line → HasBelowZero r (first ∷ done) ⊎ IsLineBelowZero r line
        later_of (inl before) = inl (inr before)
        later_of (inr here) = inr here

    back : (done : List (List ℕ)) → HasBelowZero r done ⊎ IsLineBelowZero r line → HasBelowZero r (done ++ line ∷ [])
    back [] (inl none) = absurd none
    back [] (inr here) = inl here
    back (first ∷ done) (inl (inl here)) = inl here
    back (first ∷ done) (inl (inr later)) = inr (back done (inl later))
    back (first ∷ done) (inr here) = inr (back done (inr here))

-- whether a line is below zero, from the test of its numeral
line_below : (r : Radix) (line : List ℕ) (below : Bool) → IsNumeral r line → ((p : Parts) → HasNumeral r line p → IsTrue below ↔ IsBelowZero r p) → IsTrue below ↔ IsLineBelowZero r line
line_below r line below numeral found = (
  (λ t. record { parts = numeral.0; numeral = numeral.1; below = (found numeral.0 numeral.1).0 t }),
  (λ h. (found h.parts h.numeral).1 h.below),
)

either : (a b : Bool) (A B C : Type 0) → (IsTrue a ↔ A) → (IsTrue b ↔ B) → (C ↔ (A ⊎ B)) → IsTrue (a || b) ↔ C
either true b A B C x y z = ((λ t. z.1 (inl (x.0 refl))), (λ c. refl))
either false b A B C x y z = ((λ t. z.1 (inr (y.0 t))), (λ c. back (z.0 c)))
  where
    back : A ⊎ B → IsTrue b
    back (inl a) = let no : false ≡ true = x.1 a in cc
    back (inr b) = y.1 b

fault_longer : (r : Radix) (done : List (List ℕ)) (line : List ℕ) (fault : LeastFault) → IsNoNumeral r done fault → IsNoNumeral r (done ++ line ∷ []) fault
fault_longer r done line fault h = record {
  before = h.before;
  line = h.line;
  after = h.after ++ line ∷ [];
  split = ap (λ l. l ++ line ∷ []) h.split ∙ append_assoc h.before (h.line ∷ h.after) (line ∷ []);
  numerals = h.numerals;
  cause = h.cause;
  place_is = h.place_is;
}

counted : (done : List (List ℕ)) (line : List ℕ) (old new : ℕ) → old ≡ length done → new ≡ old + 1 → new ≡ length (done ++ line ∷ [])
counted done line old new is more = omega (arith, is, more, length-append done (line ∷ []))

-- one more line after a line that is not a numeral
pub after_fault : (n : ℕ) (done : List (List ℕ)) (line : List ℕ) (p : Progress) (place : ℕ) (fault : Option LeastFault) → fault ≡ p.fault → (fault ≡ None → ⊥) → place ≡ p.lines + 1 → HasProgress n done p
    → HasProgress n (done ++ line ∷ []) (record { radix = p.radix; fractions = p.fractions; lines = place; fault = fault; is_below = p.is_below; plain = p.plain; signed = p.signed; room = p.room })
after_fault n done line p place None same some at h = absurd (some refl)
after_fault n done line p place (Some fault) same some at h =
    let P : Option LeastFault → Type 0 = λ f. IsKnown n done p f in
    record {
      count = counted done line p.lines place h.count at;
      plain_kind = h.plain_kind;
      signed_kind = h.signed_kind;
      plain_most = h.plain_most;
      signed_most = h.signed_most;
      plain_room = h.plain_room;
      signed_room = h.signed_room;
      known = fault_longer p.radix done line fault (subst P (sym same) h.known);
    }

-- the first line that is not a numeral
pub first_fault : (n : ℕ) (done : List (List ℕ)) (line : List ℕ) (p : Progress) (place : ℕ) (fault : LeastFault) → p.fault ≡ None → place_of fault ≡ place → HasCause p.radix line (kind_at fault) → place ≡ p.lines + 1 → HasProgress n done p
    → HasProgress n (done ++ line ∷ []) (record { radix = p.radix; fractions = p.fractions; lines = place; fault = Some fault; is_below = p.is_below; plain = p.plain; signed = p.signed; room = p.room })
first_fault n done line p place fault none named cause at h =
    let P : Option LeastFault → Type 0 = λ f. IsKnown n done p f in
    let fitted : AreFitted n done p = subst P none h.known in
    record {
      count = counted done line p.lines place h.count at;
      plain_kind = h.plain_kind;
      signed_kind = h.signed_kind;
      plain_most = h.plain_most;
      signed_most = h.signed_most;
      plain_room = h.plain_room;
      signed_room = h.signed_room;
      known = record { before = done; line = line; after = []; split = refl; numerals = fitted.numerals; cause = cause; place_is = named ∙ (at ∙ ap (λ k. k + 1) h.count) };
    }

pub after_numeral : (n : ℕ) (done : List (List ℕ)) (line : List ℕ) (p : Progress) (place : ℕ) (below : Bool) (plain signed : Lengths) (room : ℕ) → IsRoomOf room plain → IsRoomOf room signed → p.fault ≡ None → place ≡ p.lines + 1 → IsNumeral p.radix line
    → ((q : Parts) → HasNumeral p.radix line q → IsTrue below ↔ IsBelowZero p.radix q) → AreLowered p.radix line place p.plain plain → AreLowered p.radix line place p.signed signed → HasProgress n done p
    → HasProgress n (done ++ line ∷ []) (record { radix = p.radix; fractions = p.fractions; lines = place; fault = None; is_below = p.is_below || below; plain = plain; signed = signed; room = room })
after_numeral n done line p place below plain signed room plain_room signed_room none at numeral found low low' h =
    let P : Option LeastFault → Type 0 = λ f. IsKnown n done p f in
    let fitted : AreFitted n done p = subst P none h.known in
    let here : place ≡ length done + 1 = at ∙ ap (λ k. k + 1) h.count in
    record {
      count = counted done line p.lines place h.count at;
      plain_kind = low.kind ∙ h.plain_kind;
      signed_kind = low'.kind ∙ h.signed_kind;
      plain_most = omega (arith, low.fewer, h.plain_most);
      signed_most = omega (arith, low'.fewer, h.signed_most);
      plain_room = plain_room;
      signed_room = signed_room;
      known = record {
        numerals = numerals_one_more p.radix done line fitted.numerals numeral;
        plain = lengths_one_more p.fractions p.radix done line place p.plain plain here fitted.plain low;
        signed = lengths_one_more p.fractions p.radix done line place p.signed signed here fitted.signed low';
        below = either p.is_below below (HasBelowZero p.radix done) (IsLineBelowZero p.radix line) (HasBelowZero p.radix (done ++ line ∷ [])) fitted.below (line_below p.radix line below numeral found) (below_one_more p.radix done line);
      };
    }

pub is_none : (fault : Option LeastFault) → is_some fault ≡ false → fault ≡ None
is_none None is = refl
is_none (Some fault) is = let no : true ≡ false = is in cc
