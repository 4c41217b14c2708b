-- The greatest errors at all fraction lengths, after one more numeral.
use Rattle.std.proofs.Common.{◌≡◌, ℕ, zero, suc, ◌+◌, ◌-◌, ◌*◌, ◌^◌, ◌<◌, ◌≤◌, Bool, true, false, List, [], ◌∷◌, ◌++◌, length, take, drop, get_or, length-append, refl, sym, ap, ◌∙◌, subst, arith, mul-le-mul_right, pow_pos}
use Rattle.std.specs.Prelude.{min, max}
use Rattle.fixed_bits.specs.Nearest.{distance}
use Rattle.fixed_bits.specs.declared.mode.ReadMode.{ReadMode}
use Rattle.fixed_bits.specs.declared.mode.ReadMode.TheVariants.{NearestEven}
use Rattle.fixed_numeral.proofs.Public.{magnitude_pos}
use Rattle.fixed_numeral.specs.Value.{Fraction, magnitude}
use Rattle.fixed_numeral.specs.declared.radix.Radix.{Radix}
use Rattle.fixed_error.specs.ErrorSize.{HasGreaterError, HasNoGreaterError, IsAtMost, IsReadWithin, error_size}
use Rattle.fixed_error.specs.Errors.{AreLengthErrors, IsErrorAtLeast, IsLengthError, parts}
use Rattle.fixed_error.specs.Greatest.{Entry, HasGreatest, IsKept}
use Rattle.fixed_error.specs.Inner.Rest.{IsRest}
use Rattle.fixed_error.specs.declared.errors.LengthError.{LengthError}
use Rattle.fixed_error.specs.declared.greatest.GreatestError.{GreatestError}
use Rattle.fixed_error.specs.declared.rest.Rest.{Rest}
use Rattle.fixed_error.proofs.GreatestLemmas.{den_some, kept_old, size_unique}
use Rattle.fixed_error.proofs.NearLemmas.{greater_by_near, greatest_of, least_error, least_moved, most_error, no_greater_by}
use Rattle.fixed_error.proofs.RestLemmas.{parts_pos}

-- ---- the error of a numeral, from how far it is above a whole number
most_at : (r : Radix) (f : ℕ) (bytes : List ℕ) (x : Rest) (w : IsReadWithin NearestEven r f bytes) → IsRest r f bytes x
    → distance ((magnitude r w.parts).num * 2 ^ f) (w.read.ulps * (magnitude r w.parts).den) * parts r ≤ (min x.rest (parts r - x.rest) + x.slack) * (magnitude r w.parts).den
most_at r f bytes x w h =
    let b = h.behind w.parts w.numeral in
    most_error ((magnitude r w.parts).num * 2 ^ f) (magnitude r w.parts).den (parts r) b.ulps x.rest x.slack w.read.ulps (magnitude_pos r w.parts) (let below = h.below in omega (arith, below, h.one)) b.at_least b.at_most w.read.rounded.near

pub no_greater_near : (r : Radix) (f : ℕ) (bytes kept : List ℕ) (x : Rest) (least : ℕ) → IsReadWithin NearestEven r f bytes → IsRest r f bytes x → min x.rest (x.one - x.rest) + x.slack ≤ least → IsErrorAtLeast r f kept least → HasNoGreaterError NearestEven r f bytes kept
no_greater_near r f bytes kept x least w h order low =
    let k = low.has_size in
    let m = magnitude r w.parts in
    let n = magnitude r k.parts in
    let L : Fraction = record { num = least; den = 2 ^ f * parts r } in
    let at : IsAtMost L (error_size n f k.read.ulps) = subst (λ z. IsAtMost L z) k.size_is low.at_least in
    let order' : min x.rest (parts r - x.rest) + x.slack ≤ least = subst (λ t. min x.rest (t - x.rest) + x.slack ≤ least) h.one order in
    record {
      one_size = error_size m f w.read.ulps;
      has_one = record { parts = w.parts; numeral = w.numeral; number = w.number; read = w.read; size_is = refl };
      other_size = error_size n f k.read.ulps;
      has_other = record { parts = k.parts; numeral = k.numeral; number = k.number; read = k.read; size_is = refl };
      at_most = no_greater_by (distance (m.num * 2 ^ f) (w.read.ulps * m.den)) m.den (distance (n.num * 2 ^ f) (k.read.ulps * n.den)) n.den (parts r) (2 ^ f) (min x.rest (parts r - x.rest) + x.slack) least (parts_pos r) (most_at r f bytes x w h) order' at;
    }

low_at : (r : Radix) (f : ℕ) (bytes : List ℕ) (x : Rest) (w : IsReadWithin NearestEven r f bytes) → IsRest r f bytes x
    → (min x.rest (parts r - x.rest) - x.slack) * (magnitude r w.parts).den ≤ distance ((magnitude r w.parts).num * 2 ^ f) (w.read.ulps * (magnitude r w.parts).den) * parts r
low_at r f bytes x w h =
    let b = h.behind w.parts w.numeral in
    least_error ((magnitude r w.parts).num * 2 ^ f) (magnitude r w.parts).den (parts r) b.ulps x.rest x.slack w.read.ulps (let below = h.below in omega (arith, below, h.one)) b.at_least b.at_most

pub greater_near : (r : Radix) (f : ℕ) (one other : List ℕ) (x y : Rest) → IsReadWithin NearestEven r f one → IsReadWithin NearestEven r f other → IsRest r f one x → IsRest r f other y
    → min y.rest (y.one - y.rest) + y.slack < min x.rest (x.one - x.rest) - x.slack → HasGreaterError NearestEven r f one other
greater_near r f one other x y w k h i order =
    let m = magnitude r w.parts in
    let n = magnitude r k.parts in
    let order' : min y.rest (parts r - y.rest) + y.slack < min x.rest (parts r - x.rest) - x.slack = omega (arith, order, h.one, i.one) in
    record {
      one_size = error_size m f w.read.ulps;
      has_one = record { parts = w.parts; numeral = w.numeral; number = w.number; read = w.read; size_is = refl };
      other_size = error_size n f k.read.ulps;
      has_other = record { parts = k.parts; numeral = k.numeral; number = k.number; read = k.read; size_is = refl };
      greater = greater_by_near (distance (m.num * 2 ^ f) (w.read.ulps * m.den)) m.den (distance (n.num * 2 ^ f) (k.read.ulps * n.den)) n.den (parts r) (2 ^ f) (min x.rest (parts r - x.rest) - x.slack) (min y.rest (parts r - y.rest) + y.slack) (magnitude_pos r w.parts) (magnitude_pos r k.parts) (pow_pos f) (low_at r f one x w h) order' (most_at r f other y k i);
    }

pub least_at : (r : Radix) (f : ℕ) (bytes : List ℕ) (x : Rest) → IsReadWithin NearestEven r f bytes → IsRest r f bytes x → IsErrorAtLeast r f bytes (min x.rest (x.one - x.rest) - x.slack)
least_at r f bytes x w h =
    let m = magnitude r w.parts in
    let d : ℕ = distance (m.num * 2 ^ f) (w.read.ulps * m.den) in
    let low : (min x.rest (parts r - x.rest) - x.slack) * m.den ≤ d * parts r = low_at r f bytes x w h in
    let scaled : (min x.rest (parts r - x.rest) - x.slack) * m.den * 2 ^ f ≤ d * parts r * 2 ^ f = mul-le-mul_right (2 ^ f) low in
    let P : ℕ → Type 0 = λ t. IsErrorAtLeast r f bytes (min x.rest (t - x.rest) - x.slack) in
    subst P (sym h.one) (record {
      size = error_size m f w.read.ulps;
      has_size = record { parts = w.parts; numeral = w.numeral; number = w.number; read = w.read; size_is = refl };
      at_least = regroup (min x.rest (parts r - x.rest) - x.slack) m.den (2 ^ f) d (parts r) scaled;
    })
  where
    regroup : (l b t d one : ℕ) → l * b * t ≤ d * one * t → l * (t * b) ≤ d * (t * one)
    regroup l b t d one h = omega (arith, h)

pub least_moves : (r : Radix) (f : ℕ) (one other : List ℕ) (least : ℕ) → IsErrorAtLeast r f one least → HasNoGreaterError NearestEven r f one other → IsErrorAtLeast r f other least
least_moves r f one other least x h =
    let same : x.size ≡ h.one_size = size_unique NearestEven r f one x.size h.one_size x.has_size h.has_one in
    let L : Fraction = record { num = least; den = 2 ^ f * parts r } in
    let at : IsAtMost L h.one_size = subst (λ z. IsAtMost L z) same x.at_least in
    record {
      size = h.other_size;
      has_size = h.has_other;
      at_least = least_moved h.one_size.num h.one_size.den h.other_size.num h.other_size.den (2 ^ f * parts r) least (den_some NearestEven r f one h.one_size h.has_one) at h.at_most;
    }

none_least : (r : Radix) (f : ℕ) (bytes : List ℕ) (least : ℕ) → IsErrorAtLeast r f bytes least → IsErrorAtLeast r f bytes 0
none_least r f bytes least x = record { size = x.size; has_size = x.has_size; at_least = omega arith }

-- ---- one more numeral at a fraction length
moved : (mode mode' : ReadMode) (r r' : Radix) (f f' : ℕ) (one other : List ℕ) → mode ≡ mode' → r ≡ r' → f ≡ f' → HasNoGreaterError mode r f one other → HasNoGreaterError mode' r' f' one other
moved mode mode' r r' f f' one other a b c h =
    subst (λ m. HasNoGreaterError m r' f' one other) a (subst (λ q. HasNoGreaterError mode q f' one other) b (subst (λ k. HasNoGreaterError mode r k one other) c h))

pub nothing_greater : (r : Radix) (f : ℕ) (entries : List Entry) (e : LengthError) (place : ℕ) (numeral : List ℕ) (x : Rest) → IsReadWithin NearestEven r f numeral → IsRest r f numeral x → e.greatest.is_some ≡ true
    → min x.rest (x.one - x.rest) + x.slack ≤ e.least → IsLengthError r f entries e → IsLengthError r f (entries ++ record { place = place; numeral = numeral } ∷ []) e
nothing_greater r f entries e place numeral x w rest some order h =
    let g = e.greatest in
    let i = h.is_greatest in
    let no : HasNoGreaterError NearestEven r f numeral g.numeral.items = no_greater_near r f numeral g.numeral.items x e.least w rest order (h.least some) in
    record {
      is_greatest = record {
        radix = i.radix;
        frac = i.frac;
        mode = i.mode;
        greatest = record {
          frac = i.greatest.frac;
          kept = kept_old g.mode g.radix g.frac entries g.is_some g.place g.numeral.items place numeral some i.greatest.kept (moved NearestEven g.mode r g.radix f g.frac numeral g.numeral.items (sym i.mode) (sym i.radix) (sym i.frac) no);
        };
      };
      none = h.none;
      least = h.least;
      bound = h.bound;
    }

pub one_more_error : (r : Radix) (f : ℕ) (entries : List Entry) (e : LengthError) (place : ℕ) (numeral : List ℕ) (x : Rest) (new : GreatestError) (least bound : ℕ) → IsReadWithin NearestEven r f numeral → IsRest r f numeral x
    → new.radix ≡ e.greatest.radix → new.frac ≡ e.greatest.frac → new.mode ≡ e.greatest.mode → new.is_some ≡ true
    → (HasGreatest entries e.greatest → HasGreatest (entries ++ record { place = place; numeral = numeral } ∷ []) new)
    → HasNoGreaterError e.greatest.mode e.greatest.radix e.greatest.frac numeral new.numeral.items
    → (e.greatest.is_some ≡ true → HasNoGreaterError e.greatest.mode e.greatest.radix e.greatest.frac e.greatest.numeral.items new.numeral.items)
    → least ≡ max e.least (min x.rest (x.one - x.rest) - x.slack) → (bound - 1) * 10 ^ 18 ≤ least
    → IsLengthError r f entries e → IsLengthError r f (entries ++ record { place = place; numeral = numeral } ∷ []) (record { greatest = new; least = least; bound = bound })
one_more_error r f entries e place numeral x new least bound w rest radix frac mode some grown below less is within h =
    let g = e.greatest in
    let i = h.is_greatest in
    let n : List ℕ = new.numeral.items in
    let low : IsErrorAtLeast r f n (min x.rest (x.one - x.rest) - x.slack) = least_moves r f numeral n (min x.rest (x.one - x.rest) - x.slack) (least_at r f numeral x w rest) (moved g.mode NearestEven g.radix r g.frac f numeral n i.mode i.radix i.frac below) in
    record {
      is_greatest = record { radix = radix ∙ i.radix; frac = frac ∙ i.frac; mode = mode ∙ i.mode; greatest = grown i.greatest };
      none = λ no. absurd (let e : true ≡ false = sym some ∙ no in cc);
      least = λ _. subst (IsErrorAtLeast r f n) (sym is) (greatest_of (IsErrorAtLeast r f n) e.least (min x.rest (x.one - x.rest) - x.slack) (before g.is_some refl low) low);
      bound = λ _. (some, within);
    }
  where
    before : (b : Bool) → e.greatest.is_some ≡ b → IsErrorAtLeast r f new.numeral.items (min x.rest (x.one - x.rest) - x.slack) → IsErrorAtLeast r f new.numeral.items e.least
    before true e' low = least_moves r f e.greatest.numeral.items new.numeral.items e.least (h.least e') (moved e.greatest.mode NearestEven e.greatest.radix r e.greatest.frac f e.greatest.numeral.items new.numeral.items h.is_greatest.mode h.is_greatest.radix h.is_greatest.frac (less e'))
    before false e' low = subst (IsErrorAtLeast r f new.numeral.items) (sym (h.none e')) (none_least r f new.numeral.items (min x.rest (x.one - x.rest) - x.slack) low)

pub within_moved : (r r' : Radix) (f f' : ℕ) (numeral : List ℕ) → r ≡ r' → f ≡ f' → IsReadWithin NearestEven r f numeral → IsReadWithin NearestEven r' f' numeral
within_moved r r' f f' numeral a b h = subst (λ q. IsReadWithin NearestEven q f' numeral) a (subst (λ k. IsReadWithin NearestEven r k numeral) b h)

pub rest_moved : (r r' : Radix) (f f' : ℕ) (numeral : List ℕ) (x : Rest) → r ≡ r' → f ≡ f' → IsRest r f numeral x → IsRest r' f' numeral x
rest_moved r r' f f' numeral x a b h = subst (λ q. IsRest q f' numeral x) a (subst (λ k. IsRest r k numeral x) b h)

-- ---- lists
pub error_at : (r : Radix) (f n : ℕ) (entries : List Entry) (errors : List LengthError) (k : ℕ) (d : LengthError) → k < length errors → n ≡ f + k → AreLengthErrors r f entries errors → IsLengthError r n entries (get_or errors k d)
error_at r f n entries [] k d less at all = absurd (omega (arith, less))
error_at r f n entries (e ∷ errors) zero d less at all = let same : f ≡ n = omega (arith, at) in subst (λ m. IsLengthError r m entries e) same all.0
error_at r f n entries (e ∷ errors) (suc k) d less at all = error_at r (suc f) n entries errors k d (omega (arith, less)) (omega (arith, at)) all.1

pub error_more : (r : Radix) (f n : ℕ) (entries : List Entry) (errors : List LengthError) (e : LengthError) → n ≡ f + length errors → AreLengthErrors r f entries errors → IsLengthError r n entries e → AreLengthErrors r f entries (errors ++ e ∷ [])
error_more r f n entries [] e at all here = let same : n ≡ f = omega (arith, at) in (subst (λ m. IsLengthError r m entries e) same here, tt)
error_more r f n entries (first ∷ errors) e at all here = (all.0, error_more r (suc f) n entries errors e (omega (arith, at)) all.1 here)

pub errors_taken : (r : Radix) (f : ℕ) (entries : List Entry) (errors : List LengthError) (k : ℕ) → AreLengthErrors r f entries errors → AreLengthErrors r f entries (take k errors)
errors_taken r f entries errors zero all = tt
errors_taken r f entries [] (suc k) all = tt
errors_taken r f entries (e ∷ errors) (suc k) all = (all.0, errors_taken r (suc f) entries errors k all.1)

get_dropped : {X : Type 0} (xs : List X) (k : ℕ) (d : X) → get_or xs k d ≡ get_or (drop k xs) 0 d
get_dropped xs zero d = refl
get_dropped [] (suc k) d = refl
get_dropped (x ∷ xs) (suc k) d = get_dropped xs k d

drop_one : {X : Type 0} (xs : List X) (k : ℕ) → drop (suc k) xs ≡ drop 1 (drop k xs)
drop_one xs zero = refl
drop_one [] (suc k) = refl
drop_one (x ∷ xs) (suc k) = drop_one xs k

pub left_one_less : (xs ys : List LengthError) (k : ℕ) → drop k xs ≡ drop k ys → drop (k + 1) xs ≡ drop (k + 1) ys
left_one_less xs ys k left =
    let e : k + 1 ≡ suc k = omega arith in
    ap (λ n. drop n xs) e ∙ (drop_one xs k ∙ (ap (λ l. drop 1 l) left ∙ (sym (drop_one ys k) ∙ ap (λ n. drop n ys) (sym e))))

pub element : (r : Radix) (entries : List Entry) (items initial : List LengthError) (k : ℕ) (d : LengthError) → k < length items → length items ≡ length initial → drop k items ≡ drop k initial → AreLengthErrors r 0 entries initial → IsLengthError r k entries (get_or items k d)
element r entries items initial k d less long left all =
    let same : get_or initial k d ≡ get_or items k d = get_dropped initial k d ∙ (ap (λ l. get_or l 0 d) (sym left) ∙ sym (get_dropped items k d)) in
    subst (IsLengthError r k entries) same (error_at r 0 k entries initial k d (omega (arith, less, long)) (omega arith) all)

pub some_error : (r : Radix) (f : ℕ) (entries : List Entry) (e : LengthError) → IsLengthError r f entries e → IsLengthError e.greatest.radix e.greatest.frac entries e
some_error r f entries e h = subst (λ q. IsLengthError q e.greatest.frac entries e) (sym h.is_greatest.radix) (subst (λ k. IsLengthError r k entries e) (sym h.is_greatest.frac) h)

pub no_kept : (mode : ReadMode) (r : Radix) (f : ℕ) (is : Bool) (place : ℕ) (numeral : List ℕ) → is ≡ true → IsKept mode r f [] is place numeral → ⊥
no_kept mode r f false place numeral some k = let no : false ≡ true = some in cc
no_kept mode r f true place numeral some k = let e = ap length k.split in omega (arith, e, length-append k.before (record { place = place; numeral = numeral } ∷ k.after))
