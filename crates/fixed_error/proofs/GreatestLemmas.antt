-- The first numeral with the greatest error, before and after one more numeral.
use Rattle.std.proofs.Common.{◌≡◌, ℕ, ◌+◌, ◌*◌, ◌^◌, ◌<◌, ◌≤◌, Bool, true, false, List, [], ◌∷◌, ◌++◌, append_assoc, refl, sym, ap, ◌∙◌, subst, arith, mul-le-mul_right, pow_pos}
use Rattle.fixed_bits.specs.declared.mode.ReadMode.{ReadMode}
use Rattle.fixed_numeral.proofs.Public.{magnitude_pos, parts_unique}
use Rattle.fixed_numeral.specs.Value.{Fraction, magnitude}
use Rattle.fixed_numeral.specs.declared.radix.Radix.{Radix}
use Rattle.fixed_error.proofs.GapLemmas.{cancel_lt, steps_for}
use Rattle.fixed_error.specs.ErrorSize.{HasErrorSize, HasGreaterError, HasNoGreaterError, HasSteps, IsReadWithin, error_size}
use Rattle.fixed_error.specs.Greatest.{Entry, IsAboveAll, IsFirstGreatest, IsKept, IsNotBelowAny}

-- ---- sizes
-- the error of a numeral has only one size
pub size_unique : (mode : ReadMode) (r : Radix) (f : ℕ) (bytes : List ℕ) (d e : Fraction) → HasErrorSize mode r f bytes d → HasErrorSize mode r f bytes e → d ≡ e
size_unique mode r f bytes d e h k =
    let steps : HasSteps mode r f bytes h.read.ulps = record { parts = h.parts; numeral = h.numeral; number = h.number; read = h.read; steps_are = refl } in
    let same : k.read.ulps ≡ h.read.ulps = steps_for mode r f bytes h.read.ulps steps k.parts k.numeral k.number k.read in
    let parts : h.parts ≡ k.parts = parts_unique r bytes h.parts k.parts h.numeral.beginning k.numeral.beginning in
    h.size_is ∙ (ap (λ p. error_size (magnitude r p) f h.read.ulps) parts ∙ (ap (λ n. error_size (magnitude r k.parts) f n) (sym same) ∙ sym k.size_is))

pub den_some : (mode : ReadMode) (r : Radix) (f : ℕ) (bytes : List ℕ) (d : Fraction) → HasErrorSize mode r f bytes d → 0 < d.den
den_some mode r f bytes d h = subst P (sym h.size_is) (both (2 ^ f) (magnitude r h.parts).den (pow_pos f) (magnitude_pos r h.parts))
  where
    P : Fraction → Type 0
    P x = 0 < x.den

    both : (a b : ℕ) → 0 < a → 0 < b → 0 < a * b
    both a b h k = let m : 1 * b ≤ a * b = mul-le-mul_right b (omega (arith, h)) in omega (arith, m, k)

less_joined : (a b c d e f : ℕ) → 0 < b → c * f < e * d → a * d ≤ c * b → a * f < e * b
less_joined a b c d e f some less most =
    let m : (c * f + 1) * b ≤ e * d * b = mul-le-mul_right b (omega (arith, less)) in
    let n : a * d * f ≤ c * b * f = mul-le-mul_right f most in
    cancel_lt (a * f) (e * b) d (omega (arith, m, n, some))

-- an error greater than `best` is greater than one that is at most `best`
joined : (mode : ReadMode) (r : Radix) (f : ℕ) (new best low : List ℕ) → HasGreaterError mode r f new best → HasNoGreaterError mode r f low best → HasGreaterError mode r f new low
joined mode r f new best low h k =
    let same : k.other_size ≡ h.other_size = size_unique mode r f best k.other_size h.other_size k.has_other h.has_other in
    let most : k.one_size.num * h.other_size.den ≤ h.other_size.num * k.one_size.den = subst (λ s. k.one_size.num * s.den ≤ s.num * k.one_size.den) same k.at_most in
    record {
      one_size = h.one_size;
      has_one = h.has_one;
      other_size = k.one_size;
      has_other = k.has_one;
      greater = less_joined k.one_size.num k.one_size.den h.other_size.num h.other_size.den h.one_size.num h.one_size.den (den_some mode r f low k.one_size k.has_one) h.greater most;
    }

pub turned : (mode : ReadMode) (r : Radix) (f : ℕ) (one other : List ℕ) → HasGreaterError mode r f one other → HasNoGreaterError mode r f other one
turned mode r f one other h = record { one_size = h.other_size; has_one = h.has_other; other_size = h.one_size; has_other = h.has_one; at_most = let less = h.greater in omega (arith, less) }

-- ---- lists
above_joined : (mode : ReadMode) (r : Radix) (f : ℕ) (new best : List ℕ) (entries : List Entry) → HasGreaterError mode r f new best → IsAboveAll mode r f best entries → IsAboveAll mode r f new entries
above_joined mode r f new best [] h all = tt
above_joined mode r f new best (entry ∷ entries) h all = (joined mode r f new best entry.numeral h (turned mode r f best entry.numeral all.0), above_joined mode r f new best entries h all.1)

above_rest : (mode : ReadMode) (r : Radix) (f : ℕ) (new best : List ℕ) (entries : List Entry) → HasGreaterError mode r f new best → IsNotBelowAny mode r f best entries → IsAboveAll mode r f new entries
above_rest mode r f new best [] h all = tt
above_rest mode r f new best (entry ∷ entries) h all = (joined mode r f new best entry.numeral h all.0, above_rest mode r f new best entries h all.1)

above_both : (mode : ReadMode) (r : Radix) (f : ℕ) (new : List ℕ) (before : List Entry) (entry : Entry) (after : List Entry) → IsAboveAll mode r f new before → HasGreaterError mode r f new entry.numeral → IsAboveAll mode r f new after → IsAboveAll mode r f new (before ++ entry ∷ after)
above_both mode r f new [] entry after p h q = (h, q)
above_both mode r f new (first ∷ before) entry after p h q = (p.0, above_both mode r f new before entry after p.1 h q)

not_below_more : (mode : ReadMode) (r : Radix) (f : ℕ) (best : List ℕ) (entries : List Entry) (entry : Entry) → IsNotBelowAny mode r f best entries → HasNoGreaterError mode r f entry.numeral best → IsNotBelowAny mode r f best (entries ++ entry ∷ [])
not_below_more mode r f best [] entry all h = (h, tt)
not_below_more mode r f best (first ∷ entries) entry all h = (all.0, not_below_more mode r f best entries entry all.1 h)

-- ---- one more numeral
pub kept_new : (mode : ReadMode) (r : Radix) (f : ℕ) (entries : List Entry) (is : Bool) (place : ℕ) (old : List ℕ) (at : ℕ) (new : List ℕ) → IsReadWithin mode r f new → IsKept mode r f entries is place old
    → (is ≡ true → HasGreaterError mode r f new old) → IsFirstGreatest mode r f (entries ++ record { place = at; numeral = new } ∷ []) at new
kept_new mode r f entries false place old at new within none greater = subst P (sym none) (record { before = []; after = []; split = refl; within = within; above = tt; not_below = tt })
  where
    P : List Entry → Type 0
    P es = IsFirstGreatest mode r f (es ++ record { place = at; numeral = new } ∷ []) at new
kept_new mode r f entries true place old at new within k greater = record {
  before = entries;
  after = [];
  split = refl;
  within = within;
  above = subst (IsAboveAll mode r f new) (sym k.split) (above_both mode r f new k.before (record { place = place; numeral = old }) k.after (above_joined mode r f new old k.before (greater refl) k.above) (greater refl) (above_rest mode r f new old k.after (greater refl) k.not_below));
  not_below = tt;
}

pub kept_old : (mode : ReadMode) (r : Radix) (f : ℕ) (entries : List Entry) (is : Bool) (place : ℕ) (old : List ℕ) (at : ℕ) (new : List ℕ) → is ≡ true → IsKept mode r f entries is place old → HasNoGreaterError mode r f new old
    → IsKept mode r f (entries ++ record { place = at; numeral = new } ∷ []) is place old
kept_old mode r f entries false place old at new some k not = let no : false ≡ true = some in cc
kept_old mode r f entries true place old at new some k not = record {
  before = k.before;
  after = k.after ++ record { place = at; numeral = new } ∷ [];
  split = ap (λ l. l ++ record { place = at; numeral = new } ∷ []) k.split ∙ append_assoc k.before (record { place = place; numeral = old } ∷ k.after) (record { place = at; numeral = new } ∷ []);
  within = k.within;
  above = k.above;
  not_below = not_below_more mode r f old k.after (record { place = at; numeral = new }) k.not_below not;
}

-- ---- the kept numeral and one more
pub self_not_greater : (mode : ReadMode) (r : Radix) (f : ℕ) (bytes : List ℕ) → IsReadWithin mode r f bytes → HasNoGreaterError mode r f bytes bytes
self_not_greater mode r f bytes w =
    let size : Fraction = error_size (magnitude r w.parts) f w.read.ulps in
    let has : HasErrorSize mode r f bytes size = record { parts = w.parts; numeral = w.numeral; number = w.number; read = w.read; size_is = refl } in
    record { one_size = size; has_one = has; other_size = size; has_other = has; at_most = omega arith }

pub kept_within : (mode : ReadMode) (r : Radix) (f : ℕ) (entries : List Entry) (is : Bool) (place : ℕ) (numeral : List ℕ) → is ≡ true → IsKept mode r f entries is place numeral → IsReadWithin mode r f numeral
kept_within mode r f entries false place numeral some k = let no : false ≡ true = some in cc
kept_within mode r f entries true place numeral some k = k.within
