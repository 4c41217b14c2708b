-- Only one of some numerals is the first with the greatest error.
use Rattle.std.proofs.Common.{◌≡◌, ℕ, List, [], ◌∷◌, ◌++◌, sym, ap, ◌∙◌, subst, arith}
use Rattle.fixed_bits.specs.declared.mode.ReadMode.{ReadMode}
use Rattle.fixed_numeral.specs.declared.radix.Radix.{Radix}
use Rattle.fixed_error.specs.ErrorSize.{HasGreaterError, HasNoGreaterError, IsAtMost, IsLess}
use Rattle.fixed_error.specs.Greatest.{Entry, IsAboveAll, IsNotBelowAny}
use Rattle.fixed_error.specs.Laws.{FirstGreatestIsTheOne}
use Rattle.fixed_error.proofs.GreatestLemmas.{size_unique}

not_both : (mode : ReadMode) (r : Radix) (f : ℕ) (one other : List ℕ) → HasGreaterError mode r f one other → HasNoGreaterError mode r f one other → ⊥
not_both mode r f one other h k =
    let a : k.one_size ≡ h.one_size = size_unique mode r f one k.one_size h.one_size k.has_one h.has_one in
    let b : k.other_size ≡ h.other_size = size_unique mode r f other k.other_size h.other_size k.has_other h.has_other in
    let most : IsAtMost h.one_size h.other_size = subst (λ s. IsAtMost h.one_size s) b (subst (λ s. IsAtMost s k.other_size) a k.at_most) in
    let less : IsLess h.other_size h.one_size = h.greater in
    absurd (omega (arith, most, less))

not_below_at : (mode : ReadMode) (r : Radix) (f : ℕ) (best : List ℕ) (before : List Entry) (entry : Entry) (after : List Entry) → IsNotBelowAny mode r f best (before ++ entry ∷ after) → HasNoGreaterError mode r f entry.numeral best
not_below_at mode r f best [] entry after all = all.0
not_below_at mode r f best (first ∷ before) entry after all = not_below_at mode r f best before entry after all.1

same_entry : (mode : ReadMode) (r : Radix) (f : ℕ) (before before' : List Entry) (e e' : Entry) (after after' : List Entry) → before ++ e ∷ after ≡ before' ++ e' ∷ after'
    → IsAboveAll mode r f e.numeral before → IsAboveAll mode r f e'.numeral before' → IsNotBelowAny mode r f e.numeral after → IsNotBelowAny mode r f e'.numeral after' → e ≡ e'
same_entry mode r f [] [] e e' after after' same a a' n n' = cc
same_entry mode r f [] (x ∷ before') e e' after after' same a a' n n' =
    let head : x ≡ e = cc in
    let tail : after ≡ before' ++ e' ∷ after' = cc in
    let greater : HasGreaterError mode r f e'.numeral e.numeral = subst (λ y. HasGreaterError mode r f e'.numeral y.numeral) head a'.0 in
    absurd (not_both mode r f e'.numeral e.numeral greater (not_below_at mode r f e.numeral before' e' after' (subst (IsNotBelowAny mode r f e.numeral) tail n)))
same_entry mode r f (x ∷ before) [] e e' after after' same a a' n n' =
    let head : x ≡ e' = cc in
    let tail : after' ≡ before ++ e ∷ after = cc in
    let greater : HasGreaterError mode r f e.numeral e'.numeral = subst (λ y. HasGreaterError mode r f e.numeral y.numeral) head a.0 in
    absurd (not_both mode r f e.numeral e'.numeral greater (not_below_at mode r f e'.numeral before e after (subst (IsNotBelowAny mode r f e'.numeral) tail n')))
same_entry mode r f (x ∷ before) (y ∷ before') e e' after after' same a a' n n' =
    let tail : before ++ e ∷ after ≡ before' ++ e' ∷ after' = cc in
    same_entry mode r f before before' e e' after after' tail a.1 a'.1 n n'

pub first_greatest_is_the_one : FirstGreatestIsTheOne
first_greatest_is_the_one mode r f entries p q one other x y =
    let e : Entry = record { place = p; numeral = one } in
    let e' : Entry = record { place = q; numeral = other } in
    let same : e ≡ e' = same_entry mode r f x.before y.before e e' x.after y.after (sym x.split ∙ y.split) x.above y.above x.not_below y.not_below in
    (ap place_of same, ap numeral_of same)
  where
    place_of : Entry → ℕ
    place_of entry = entry.place

    numeral_of : Entry → List ℕ
    numeral_of entry = entry.numeral
