-- The scanner's state after several exponent digits.
use Rattle.std.proofs.Common.{◌≡◌, ℕ, ◌+◌, ◌-◌, ◌*◌, ◌^◌, ◌<◌, ◌≤◌, Bool, true, false, List, [], ◌++◌, length, take, drop, Option, Some, None, is_none, refl, sym, ap, ◌∙◌, arith, append_assoc, append-nil}
use Rattle.std.proofs.Math.Seq.{take-add}
use Rattle.std.specs.Str.Parse.{AllDigits, digits_value}
use Rattle.fixed_numeral.specs.declared.radix.Radix.{Radix}
use Rattle.fixed_numeral.specs.declared.scanner.State.{State}
use Rattle.fixed_numeral.specs.Numeral.{Exponent, HasParts}
use Rattle.fixed_numeral.specs.Cause.{is_nil}
use Rattle.fixed_numeral.specs.Inner.Scan.{Agrees, IsAfter, max_magnitude}
use Rattle.fixed_numeral.proofs.NumeralLemmas.{exponent, parts}
use Rattle.fixed_numeral.proofs.PartNumberLemmas.{signed_fits, value_append}
use Rattle.fixed_numeral.proofs.ScanLemmas.{IsRead, and_false, nil_more, digits_append, most_at_most}

opened : (r : Radix) (st : State) (bs ds : List ℕ) (m : ℕ) (s : Option ℕ) (w : List ℕ) (f : Option (List ℕ)) (x : Option Exponent) → HasParts r bs (parts s w f x) → Agrees r st (parts s w f x) → st.has_separator ≡ true → AllDigits 10 ds → 0 < length ds → m ≡ st.magnitude * 10 ^ length ds + digits_value 10 ds → m ≤ max_magnitude st.exponent_negative → IsAfter r (bs ++ ds) (record st { sign_allowed = false; magnitude = m; has_exponent_digit = true })
opened r st bs ds m s w f None h a k d some e l = let clash = a.separator in absurd (cc)
opened r st bs ds m s w f (Some x) h a k d some e l =
    let value : digits_value 10 (x.digits ++ ds) ≡ m = value_append 10 x.digits ds ∙ omega (arith, e, ap (λ i. i * 10 ^ length ds) a.exponent.2) in
    let full : is_nil (x.digits ++ ds) ≡ false = rw (append-nil (x.digits ++ ds)) at (nil_more x.digits ds [] some) in
    record {
      parts = parts s w f (Some (exponent x.separator x.sign (x.digits ++ ds)));
      beginning = record {
        parts = record {
          sign = h.parts.sign;
          whole = h.parts.whole;
          fraction = h.parts.fraction;
          exponent = record {
            separator = h.parts.exponent.separator;
            sign = h.parts.exponent.sign;
            digits = digits_append 10 x.digits ds h.parts.exponent.digits d;
            in_range = rw (value, ← a.exponent.1) (signed_fits st.exponent_negative m l);
          };
        };
        text = rw h.text (simp (append_assoc, append-nil));
      };
      agrees = record {
        neg = a.neg;
        start = a.start;
        whole = a.whole;
        point = a.point;
        fraction = a.fraction;
        separator = a.separator;
        fresh = sym (and_false (is_none x.sign) _ full);
        exponent = (a.exponent.0, a.exponent.1, sym value);
        counted = rw full refl;
      };
      room = omega (arith, most_at_most st.exponent_negative);
    }

pub exponent_digits : (r : Radix) (st : State) (bs ds : List ℕ) (m : ℕ) → IsAfter r bs st → st.has_separator ≡ true → AllDigits 10 ds → 0 < length ds → m ≡ st.magnitude * 10 ^ length ds + digits_value 10 ds → m ≤ max_magnitude st.exponent_negative → IsAfter r (bs ++ ds) (record st { sign_allowed = false; magnitude = m; has_exponent_digit = true })
exponent_digits r st bs ds m a k d some e l = opened r st bs ds m a.parts.sign a.parts.whole a.parts.fraction a.parts.exponent a.beginning a.agrees k d some e l

pub eight_more : (r : Radix) (st : State) (bs ds : List ℕ) (m : ℕ) → IsAfter r bs st → st.has_separator ≡ true → AllDigits 10 ds → length ds ≡ 8 → m ≡ st.magnitude * 100000000 + digits_value 10 ds → m ≤ max_magnitude st.exponent_negative → IsAfter r (bs ++ ds) (record st { sign_allowed = false; magnitude = m; has_exponent_digit = true })
eight_more r st bs ds m a k d eight e l =
    exponent_digits r st bs ds m a k d (omega arith) (rw (ap (λ i. 10 ^ i) eight) e) l

pub max_most : (c : Bool) (m : ℕ) → m ≤ max_magnitude c → m ≤ max_magnitude true
max_most c m h = omega (arith, most_at_most c)

-- ---- restated for the loops
pub taken_eight : (bs : List ℕ) (at : ℕ) (r : Radix) (next : State) → IsAfter r (take at bs ++ take 8 (drop at bs)) next → IsAfter r (take (at + 8) bs) next
taken_eight bs at r next a = rw (take-add at 8 bs) a

pub read_taken : (r : Radix) (bs : List ℕ) (at place : ℕ) (st next : State) (old now new : ℕ) → IsRead r bs at st old now → at ≤ place → place ≤ length bs → ((r : Radix) → IsAfter r (take at bs) st → IsAfter r (take place bs) next) → new ≡ now + (place - at) → IsRead r bs place next old new
read_taken r bs at place st next old now new h l k p e = record { within = k; after = p r h.after; cost = omega (arith, e, h.cost) }
