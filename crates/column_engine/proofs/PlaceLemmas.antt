-- Stretches of a record that the lexer passes over at once, and its state after them.
use Rattle.std.proofs.Common.{◌≡◌, ◌==◌, ◌<◌, ◌≤◌, ◌+◌, ◌-◌, ℕ, zero, suc, List, [], ◌∷◌, ◌++◌, Bool, true, false, length, take, drop, get_or, refl, sym, ap, ◌∙◌, arith, if◌then◌else◌, subst}
use Rattle.std.specs.Prelude.{⊤, ◌≢◌}
use Rattle.std.proofs.lemmas.Bool.{eqb-true, false≢true}
use Rattle.std.proofs.lemmas.List.{get_or-drop, take_all}
use Rattle.std.proofs.Math.Seq.{take-add}
use Rattle.column_engine.specs.Places.{HasNoBefore, IsPlainBefore, StaysFor, behind_plain}
use Rattle.column_engine.specs.Rows.{IsUnended, ends_field, ends_record, place_after, places_after, raw_fields, within_after}
use Rattle.column_engine.specs.declared.place.Place.{Place}
use Rattle.column_engine.specs.declared.place.Place.TheVariants.{AfterQuote, Inside, Quoted, Start}
use Rattle.column_engine.proofs.RowLemmas.{fields_from, fields_more, onto, places_append, unended_append}

-- between quotes, bytes that are not quotes end no record and keep the place
pub quoted_over : (d : ℕ) (bytes : List ℕ) (k : ℕ) → HasNoBefore 34 bytes k → IsUnended d Quoted (take k bytes) × (Quoted ≡ places_after d Quoted (take k bytes))
unfolding IsUnended places_after
quoted_over d bytes zero none = (tt, refl)
quoted_over d [] (suc k) none = (tt, refl)
quoted_over d (x ∷ xs) (suc k) none =
    let rest = quoted_over d xs k (λ j low. none (suc j) (omega arith)) in
    let other : (x == 34) ≡ false = none 0 (omega arith) in
    let keeps : place_after d Quoted x ≡ Quoted = rw other refl in
    ((refl, subst (λ p. IsUnended d p (take k xs)) (sym keeps) rest.0), subst (λ p. Quoted ≡ places_after d p (take k xs)) (sym keeps) rest.1)

-- not between quotes
pub IsOutside : Place → Type 0
IsOutside Start = ⊤
IsOutside Inside = ⊤
IsOutside AfterQuote = ⊤
IsOutside Quoted = ⊥

behind_one : ℕ → ℕ → Place
behind_one d x = if x == d then Start else Inside

outside_one : (d x : ℕ) (same : Bool) → (x == d) ≡ same → IsOutside (behind_one d x)
unfolding IsOutside behind_one
outside_one d x true is = rw is tt
outside_one d x false is = rw is tt

step_outside : (d : ℕ) (place : Place) (x : ℕ) → IsOutside place → (x == 34) ≡ false → (x == 10) ≡ false → (x == 13) ≡ false
    → (ends_record place x ≡ false) × (place_after d place x ≡ behind_one d x)
unfolding IsOutside behind_one
step_outside d Start x out q n r = rw (q, n, r) (refl, refl)
step_outside d Inside x out q n r = rw (n, r) (refl, refl)
step_outside d AfterQuote x out q n r = rw (q, n, r) (refl, refl)
step_outside d Quoted x out q n r = absurd out

pub record PassesPlain (d : ℕ) (place : Place) (bytes : List ℕ) (k : ℕ) : Type 0 where
  pub unended : IsUnended d place (take k bytes)
  pub behind : behind_plain d place (take k bytes) ≡ places_after d place (take k bytes)

behind_some : (d : ℕ) (place : Place) (x : ℕ) (xs : List ℕ) → behind_plain d place (x ∷ xs) ≡ behind_one d (get_or (x ∷ xs) (length xs) 0)
unfolding behind_one
behind_some d place x xs =
    let some : (length (x ∷ xs) == 0) ≡ false = grind arith in
    let last : length (x ∷ xs) - 1 ≡ length xs = omega arith in
    rw (some, last) refl

behind_cons : (d : ℕ) (place : Place) (x : ℕ) (xs : List ℕ) → behind_plain d place (x ∷ xs) ≡ behind_plain d (behind_one d x) xs
unfolding behind_one
behind_cons d place x [] = refl
behind_cons d place x (y ∷ ys) = behind_some d place x (y ∷ ys) ∙ sym (behind_some d (behind_one d x) y ys)

pub plain_over : (d : ℕ) (place : Place) (bytes : List ℕ) (k : ℕ) → IsOutside place → IsPlainBefore bytes k → PassesPlain d place bytes k
unfolding IsUnended places_after
plain_over d place bytes zero out plain = record { unended = tt; behind = refl }
plain_over d place [] (suc k) out plain = record { unended = tt; behind = refl }
plain_over d place (x ∷ xs) (suc k) out plain =
    let one = step_outside d place x out (plain.quote 0 (omega arith)) (plain.newline 0 (omega arith)) (plain.carriage_return 0 (omega arith)) in
    let rest = plain_over d (behind_one d x) xs k (outside_one d x (x == d) refl) (record {
      quote = λ j low. plain.quote (suc j) (omega arith);
      newline = λ j low. plain.newline (suc j) (omega arith);
      carriage_return = λ j low. plain.carriage_return (suc j) (omega arith);
    }) in
    record {
      unended = (one.0, subst (λ p. IsUnended d p (take k xs)) (sym one.1) rest.unended);
      behind = behind_cons d place x (take k xs) ∙ subst (λ p. behind_plain d (behind_one d x) (take k xs) ≡ places_after d p (take k xs)) (sym one.1) rest.behind;
    }

-- the first `k` bytes, in which no record ends, lead from the place `from` to `next`
pub record Reaches (d : ℕ) (from next : Place) (bytes : List ℕ) (k : ℕ) : Type 0 where
  pub unended : IsUnended d from (take k bytes)
  pub place_is : next ≡ places_after d from (take k bytes)

pub reach_more : (d : ℕ) (from place next : Place) (bytes part : List ℕ) (at count : ℕ) → part ≡ drop at bytes → place ≡ places_after d from (take at bytes)
    → IsUnended d from (take at bytes) → IsUnended d place (take count part) → next ≡ places_after d place (take count part) → Reaches d from next bytes (at + count)
reach_more d from place next bytes part at count is place_is before unended after =
    let cut : take (at + count) bytes ≡ take at bytes ++ take count part = take-add at count bytes ∙ ap (λ l. take at bytes ++ take count l) (sym is) in
    record {
      unended = rw cut (unended_append d from (take at bytes) (take count part) before (subst (λ p. IsUnended d p (take count part)) place_is unended));
      place_is = rw cut (after ∙ ap (λ p. places_after d p (take count part)) place_is ∙ sym (places_append d from (take at bytes) (take count part)));
    }

pub reach_all : (d : ℕ) (from next : Place) (bytes : List ℕ) (at : ℕ) → at ≡ length bytes → Reaches d from next bytes at → IsUnended d from bytes × (next ≡ places_after d from bytes)
reach_all d from next bytes at is reached =
    let all = take_all at bytes (omega arith) in
    (subst (λ l. IsUnended d from l) all reached.unended, reached.place_is ∙ ap (places_after d from) all)

-- `k` more bytes that belong to the same field and keep its place
pub stay_more : (d : ℕ) (place : Place) (body : List ℕ) (at k : ℕ) → at + k ≤ length body → StaysFor d place (drop at body) k
    → raw_fields d Start body ≡ onto (take at body) (raw_fields d place (drop at body))
    → raw_fields d Start body ≡ onto (take (at + k) body) (raw_fields d place (drop (at + k) body))
stay_more d place body at zero fits stays before = let same : at ≡ at + 0 = omega arith in subst (λ n. raw_fields d Start body ≡ onto (take n body) (raw_fields d place (drop n body))) same before
stay_more d place body at (suc k) fits stays before =
    let earlier = stay_more d place body at k (omega arith) (record {
      inside = λ j low. stays.inside j (omega arith);
      keeps = λ j low. stays.keeps j (omega arith);
    }) before in
    let here : get_or (drop at body) k 0 ≡ get_or body (at + k) 0 = get_or-drop at body k 0 in
    let inside : ends_field d place (get_or body (at + k) 0) ≡ false = ap (ends_field d place) (sym here) ∙ stays.inside k (omega arith) in
    let keeps : within_after place (get_or body (at + k) 0) ≡ place = ap (within_after place) (sym here) ∙ stays.keeps k (omega arith) in
    let same : at + k + 1 ≡ at + suc k = omega arith in
    let more = fields_more d place body (at + k) (omega arith) inside earlier in
    subst (λ n. raw_fields d Start body ≡ onto (take n body) (raw_fields d place (drop n body))) same
    (subst (λ p. raw_fields d Start body ≡ onto (take (at + k + 1) body) (raw_fields d p (drop (at + k + 1) body))) keeps more)

pub ends_is : (d : ℕ) (place : Place) (b : ℕ) → ends_field d place b ≡ true → b ≡ d
ends_is d Start b is = eqb-true b d is
ends_is d Inside b is = eqb-true b d is
ends_is d AfterQuote b is = eqb-true b d is
ends_is d Quoted b is = absurd (false≢true is)

pub outside_is : (place : Place) → place ≢ Quoted → IsOutside place
unfolding IsOutside
outside_is Start other = tt
outside_is Inside other = tt
outside_is AfterQuote other = tt
outside_is Quoted other = other refl

-- if the first byte is not a quote, the fields are the same from the place Inside
pub first_inside : (d : ℕ) (body : List ℕ) → (get_or body 0 0 == 34) ≡ false → raw_fields d Start body ≡ raw_fields d Inside body
unfolding raw_fields
first_inside d [] other = refl
first_inside d (b ∷ rest) other = rw other refl

pub first_nothing : (d : ℕ) (body : List ℕ) → (length body == 0) ≡ true → raw_fields d Start body ≡ raw_fields d Inside body
first_nothing d [] none = first_inside d [] refl
first_nothing d (b ∷ rest) none = absurd (omega (arith, eqb-true (length (b ∷ rest)) 0 none))

-- the first `k` bytes, if none is a delimiter, belong to the first field, which does not start with a quote
pub plain_field : (d : ℕ) (body : List ℕ) (k : ℕ) → k ≤ length body → HasNoBefore d body k → raw_fields d Start body ≡ raw_fields d Inside body
    → raw_fields d Start body ≡ onto (take k body) (raw_fields d Inside (drop k body))
plain_field d body k fits none same =
    let from : 0 + k ≡ k = omega arith in
    subst (λ n. raw_fields d Start body ≡ onto (take n body) (raw_fields d Inside (drop n body))) from
    (stay_more d Inside body 0 k (omega arith) (record { inside = none; keeps = λ j low. refl }) (same ∙ fields_from d Inside body))

quoted_stays : (d : ℕ) (bytes : List ℕ) (k : ℕ) → HasNoBefore 34 bytes k → StaysFor d Quoted bytes k
quoted_stays d bytes k none = record {
  inside = λ j low. refl;
  keeps = λ j low. (let other : (get_or bytes j 0 == 34) ≡ false = none j low in rw other refl);
}

-- a quote, `k` other bytes and a quote belong to the first field
pub quoted_field : (d : ℕ) (body : List ℕ) (k : ℕ) → 0 < length body → get_or body 0 0 ≡ 34 → (34 == d) ≡ false
    → 1 + k < length body → HasNoBefore 34 (drop 1 body) k → get_or body (1 + k) 0 ≡ 34
    → raw_fields d Start body ≡ onto (take (1 + k + 1) body) (raw_fields d AfterQuote (drop (1 + k + 1) body))
quoted_field d body k some quote other fits none close =
    let outside : ends_field d Start (get_or body 0 0) ≡ false = ap (λ b. b == d) quote ∙ other in
    let first = fields_more d Start body 0 some outside (fields_from d Start body) in
    let opened : within_after Start (get_or body 0 0) ≡ Quoted = rw quote refl in
    let within = subst (λ p. raw_fields d Start body ≡ onto (take 1 body) (raw_fields d p (drop 1 body))) opened first in
    let held = stay_more d Quoted body 1 k (omega (arith, fits)) (quoted_stays d (drop 1 body) k none) within in
    let closed : within_after Quoted (get_or body (1 + k) 0) ≡ AfterQuote = rw close refl in
    subst (λ p. raw_fields d Start body ≡ onto (take (1 + k + 1) body) (raw_fields d p (drop (1 + k + 1) body))) closed
    (fields_more d Quoted body (1 + k) fits refl held)

-- the quote that opens a field, and `k` bytes after it, none of which is a quote
pub opened_over : (d : ℕ) (bytes : List ℕ) (k : ℕ) → 0 < length bytes → get_or bytes 0 0 ≡ 34 → (34 == d) ≡ false → HasNoBefore 34 (drop 1 bytes) k
    → IsUnended d Start (take (1 + k) bytes) × (Quoted ≡ places_after d Start (take (1 + k) bytes))
unfolding IsUnended places_after
opened_over d [] k some quote other none = absurd (omega (arith, some))
opened_over d (x ∷ xs) k some quote other none =
    let rest = quoted_over d xs k none in
    let outside : (x == d) ≡ false = ap (λ b. b == d) quote ∙ other in
    let keeps : place_after d Start x ≡ Quoted = rw (outside, quote) refl in
    let nay : ends_record Start x ≡ false = rw quote refl in
    let count : 1 + k ≡ suc k = omega arith in
    rw count ((nay, subst (λ p. IsUnended d p (take k xs)) (sym keeps) rest.0), subst (λ p. Quoted ≡ places_after d p (take k xs)) (sym keeps) rest.1)
