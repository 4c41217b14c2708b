-- The longest numeral at the start of a text.
use Rattle.std.proofs.Common.{◌≡◌, ℕ, ◌+◌, ◌<◌, ◌≤◌, List, [], length, take, get_or, length-take, Result, Ok, Err, MatchResult, ◌⊎◌, ◌++◌, drop, false, refl, ◌∙◌, inl, inr, ⊎_elim, arith}
use Rattle.std.proofs.lemmas.Bool.{cases_lt}
use Rattle.std.proofs.lemmas.List.{take-take, take_all, get_or-take}
use Rattle.std.specs.Str.Parse.{AllDigits}
use Rattle.fixed_numeral.specs.declared.radix.Radix.{Radix}
use Rattle.fixed_numeral.specs.declared.scanner.State.{State}
use Rattle.fixed_numeral.specs.declared.error.ParseErrorKind.{ParseErrorKind}
use Rattle.fixed_numeral.specs.Numeral.{Parts, IsNumeral, base}
use Rattle.fixed_numeral.specs.Cause.{HasCause}
use Rattle.fixed_numeral.specs.Leading.{IsLeadingNumeral, HasNoLeading, LeadingIsTheOne}
use Rattle.fixed_numeral.specs.Inner.LastNumeral.{IsLastAfter}
use Rattle.fixed_numeral.specs.Inner.Scan.{CannotExtend, IsAfter, IsComplete, IsIncomplete}
use Rattle.fixed_numeral.proofs.ScanLemmas.{IsRead, after_nothing, has_numeral, incomplete_cause, no_digits, read_digits, stuck_no_numeral}

-- `last` is the length of the longest numeral among the prefixes of up to `at` bytes, or 0
pub record IsLast (r : Radix) (bs : List ℕ) (at last : ℕ) : Type 0 where
  pub within : last ≤ at
  pub some : 0 < last → IsNumeral r (take last bs)
  pub longest : (m : ℕ) → m ≤ at → IsNumeral r (take m bs) → m ≤ last

-- what the loop keeps true
pub record IsWalked (r : Radix) (bs : List ℕ) (at last : ℕ) (st : State) (old new : ℕ) : Type 0 where
  pub read : IsRead r bs at st old new
  pub is_last : IsLast r bs at last

complete : (r : Radix) (bs : List ℕ) (st : State) → IsAfter r bs st → IsComplete st → IsNumeral r bs
complete r bs st a c = (a.parts, has_numeral r bs st a c.digits c.exponent)

pub last_more : (r : Radix) (bs : List ℕ) (at last next : ℕ) (st : State) → IsLast r bs at last → IsAfter r (take (at + 1) bs) st → IsLastAfter st (at + 1) last next → IsLast r bs (at + 1) next
last_more r bs at last next st g a (inl (c, e)) = rw e (record {
  within = omega arith;
  some = λ l. complete r (take (at + 1) bs) st a c;
  longest = λ m l h. l;
})
last_more r bs at last next st g a (inr (kind, i, e)) = rw e (record {
  within = omega (arith, g.within);
  some = g.some;
  longest = λ m l h. ⊎_elim (λ (k : m < at + 1). g.longest m (omega arith) h) (λ (k : at + 1 ≤ m).
      let same : m ≡ at + 1 = omega arith in
      absurd ((incomplete_cause r (take (at + 1) bs) st kind a i).none (rw same at h))) (cases_lt m (at + 1));
})

-- after n more digits the longest numeral ends with them, unless n is 0
pub walked_digits : (r : Radix) (bs : List ℕ) (at n last next : ℕ) (st new : State) (old now later : ℕ) → IsWalked r bs at last st old now → at + n ≤ length bs → AllDigits (base r) (take n (drop at bs)) → (0 < n → st.has_separator ≡ false) → later ≡ now + n
    → ((r' : Radix) (xs ds : List ℕ) → IsAfter r' xs st → AllDigits (base r') ds → length ds ≡ n → IsAfter r' (xs ++ ds) new)
    → new.whole_len + new.fraction_len ≡ st.whole_len + st.fraction_len + n → new.has_separator ≡ st.has_separator
    → ((0 < n) × (next ≡ at + n)) ⊎ ((n ≡ 0) × (next ≡ last)) → IsWalked r bs (at + n) next new old later
walked_digits r bs at n last next st new old now later w l d alone e p counts same (inl (some, k)) =
    let here = read_digits r bs at n st new old now later w.read l d e p in
    record {
      read = here;
      is_last = rw k (record {
        within = omega arith;
        some = λ z. complete r (take (at + n) bs) new here.after (record { digits = omega (arith, counts, some); exponent = inl (same ∙ alone some) });
        longest = λ m lm h. lm;
      });
    }
walked_digits r bs at n last next st new old now later w l d alone e p counts same (inr (none, k)) =
    let here = read_digits r bs at n st new old now later w.read l d e p in
    let stays : at + n ≡ at = omega (arith, none) in
    record { read = here; is_last = rw (stays, k) w.is_last }

-- an empty text is not a numeral
empty_none : (r : Radix) → IsNumeral r [] → ⊥
empty_none r = (no_digits r [] _ (after_nothing r) refl refl).none

none_at_zero : (r : Radix) (bs : List ℕ) (m : ℕ) → m ≤ 0 → IsNumeral r (take m bs) → ⊥
none_at_zero r bs m l h = let z : m ≡ 0 = omega arith in empty_none r (rw z at h)

-- no prefix that includes the offending byte is a numeral
pub stuck_past : (r : Radix) (bs : List ℕ) (n : ℕ) (p : Parts) (kind : ParseErrorKind) → n < length bs → CannotExtend r (take n bs) p (get_or bs n 0) kind → (m : ℕ) → m ≤ length bs → IsNumeral r (take m bs) → m ≤ n
stuck_past r bs n p kind l g m lm h = ⊎_elim (λ (k : n < m). absurd (
    let same : take n (take m bs) ≡ take n bs = take-take n m bs (omega arith) in
    let byte : get_or (take m bs) n 0 ≡ get_or bs n 0 = get_or-take m bs n 0 k in
    stuck_no_numeral r (take m bs) n p kind (omega (arith, length-take m bs)) (rw (same, byte) g) h)) (λ (k : m ≤ n). k) (cases_lt n m)

-- the result of a walk that ends early: something is missing or a byte offends
pub ended : (r : Radix) (bs : List ℕ) (at last : ℕ) (kind : ParseErrorKind) (result : Result ℕ ParseErrorKind) → IsLast r bs at last → at ≤ length bs
    → ((m : ℕ) → m ≤ length bs → IsNumeral r (take m bs) → m ≤ at) → HasCause r bs kind
    → MatchResult result (λ n. (0 < last) × (n ≡ last)) (λ k. (last ≡ 0) × (k ≡ kind))
    → MatchResult result (λ n. IsLeadingNumeral r bs n) (λ k. HasNoLeading r bs × HasCause r bs k)
ended r bs at last kind (Ok n) g l past why (some, e) = rw e (record {
  within = omega (arith, g.within);
  numeral = g.some some;
  longest = λ m lm h. g.longest m (past m lm h) h;
})
ended r bs at last kind (Err k) g l past why (z, e) = (
  λ m lm h. none_at_zero r bs m (omega (arith, g.longest m (past m lm h) h, z)) h,
  rw e why,
)

-- the cause of a text that ends too early
pub missing_cause : (r : Radix) (bs : List ℕ) (at : ℕ) (st : State) (kind : ParseErrorKind) → at ≡ length bs → IsAfter r (take at bs) st → IsIncomplete st kind → HasCause r bs kind
missing_cause r bs at st kind e a i =
    let whole : take at bs ≡ bs = take_all at bs (omega arith) in
    incomplete_cause r bs st kind (rw whole at a) i

pub leading_one : LeadingIsTheOne
leading_one r bs m g = (
  λ n h. omega (arith, g.longest n h.within h.numeral, h.longest m g.within g.numeral),
  λ none. none m g.within g.numeral,
)
