use Rattle.std.proofs.Common.{◌≡◌, ℕ, ◌≤◌, ◌<◌, List, [], ◌∷◌, Option, Some, None, IsTrue, refl, sym, ap, subst, get_or, zero, suc, arith, inl, inr, take}
use Rattle.std.proofs.lemmas.Bool.{false≢true}
use Rattle.std.specs.Prelude.{codes}
use Rattle.std.specs.Char.{digit_value}
use Rattle.std.specs.Fmt.{digits}
use Rattle.fixed_bits.specs.Down.{down}
use Rattle.fixed_bits.specs.declared.format.Policy.TheVariants.{Checked, Wrapping}
use Rattle.fixed_bits.specs.declared.mode.ReadMode.TheVariants.{NearestEven, Floor}
use Rattle.fixed_numeral.specs.Cause.{HasCause}
use Rattle.fixed_numeral.specs.Numeral.{Exponent, IsBeginning, is_separator, is_sign, IsPartsOf, Parts, text_of}
use Rattle.fixed_numeral.specs.declared.error.ParseErrorKind.TheVariants.{InvalidDigit, Overflow}
use Rattle.fixed_numeral.specs.declared.radix.Radix.{Radix}
use Rattle.fixed_numeral.specs.declared.radix.Radix.TheVariants.{Bin, Dec, Hex, Oct}
use Rattle.fixed_respell.specs.Answer.{task_of}
use Rattle.fixed_respell.specs.Examples.{signed_format, unsigned_format}
use Rattle.fixed_respell.specs.Words.{IsFormatWord, IsPolicyWord, radix_text}
use Rattle.fixed_respell.specs.declared.fault.LineFault.TheVariants.{BadRadix}
use Rattle.fixed_respell.specs.Lemmas.FaultLemmas.{first_radix}
use Rattle.fixed_write.specs.Shortest.{least_places_from, nearest_number, reads_back_at, shortest_number, shortest_places}
use Rattle.fixed_write.specs.Texts.{decimal_text, fraction_part, last_digits, point_text, shortest_text, whole_digits}
use Rattle.fixed_respell.proofs.ExampleLemmas.{answered, asks, by_two, overflows, plain}
use Rattle.fixed_respell.proofs.laws.worked_answers.Goals as goal

-- equal lists have equal bytes at an index
at_place : (i : ℕ) {xs ys : List ℕ} → xs ≡ ys → get_or xs i 0 ≡ get_or ys i 0
at_place i e = ap (λ l. get_or l i 0) e

-- ---- 1_0 is not a numeral: '_' is not a digit
abbrev whole_parts : Option ℕ → List ℕ → Option (List ℕ) → Option Exponent → Parts
whole_parts s w f x = record { sign = s; whole = w; fraction = f; exponent = x }

-- no beginning starts with 1_
no_beginning : (rest : List ℕ) → IsBeginning Dec (49 ∷ 95 ∷ rest) → ⊥
no_beginning rest (p, h) = by_parts p.sign p.whole p.fraction p.exponent h.parts h.text
  where
    by_parts : (s : Option ℕ) (w : List ℕ) (f : Option (List ℕ)) (x : Option Exponent) → IsPartsOf Dec (whole_parts s w f x) → 49 ∷ 95 ∷ rest ≡ text_of (whole_parts s w f x) → ⊥
    by_parts (Some b) w f x h e =
        let first : b ≡ 49 = at_place 0 (sym e) in
        false≢true (subst (λ n. IsTrue (is_sign n)) first h.sign)
    by_parts None [] (Some ds) x h e = let first : 49 ≡ 46 = at_place 0 e in omega (arith, first)
    by_parts None [] None None h e = let first : 49 ≡ 0 = at_place 0 e in omega (arith, first)
    by_parts None [] None (Some x) h e =
        let first : x.separator ≡ 49 = at_place 0 (sym e) in
        false≢true (subst (λ n. IsTrue (is_separator Dec n)) first h.exponent.separator)
    by_parts None (a ∷ []) (Some ds) x h e = let second : 95 ≡ 46 = at_place 1 e in omega (arith, second)
    by_parts None (a ∷ []) None None h e = let second : 95 ≡ 0 = at_place 1 e in omega (arith, second)
    by_parts None (a ∷ []) None (Some x) h e =
        let second : x.separator ≡ 95 = at_place 1 (sym e) in
        false≢true (subst (λ n. IsTrue (is_separator Dec n)) second h.exponent.separator)
    by_parts None (a ∷ b ∷ w) f x h e =
        let second : b ≡ 95 = at_place 1 (sym e) in
        let digit : digit_value 95 < 10 = subst (λ n. digit_value n < 10) second h.whole.1.0 in
        absurd (omega (arith, digit))

front_of_1_0 : (m : ℕ) → m ≤ 3 → IsBeginning Dec (take m (codes "1_0")) → m ≤ 1
front_of_1_0 zero h b = omega arith
front_of_1_0 (suc zero) h b = omega arith
front_of_1_0 (suc (suc zero)) h b = absurd (no_beginning [] b)
front_of_1_0 (suc (suc (suc n))) h b = absurd (no_beginning (48 ∷ take n []) b)

cause_1_0 : HasCause Dec (codes "1_0") InvalidDigit
cause_1_0 = record {
  none = λ (p, h). no_beginning (48 ∷ []) (p, h.beginning);
  count = 1;
  parts = plain None (codes "1") None;
  prefix = record {
    within = omega arith;
    beginning = record {
      parts = record { sign = tt; whole = (omega arith, tt); fraction = tt; exponent = tt };
      text = refl;
    };
    longest = front_of_1_0;
  };
  is_kind = refl;
}

-- ---- 9 is not a radix
no_radix : (r : Radix) → ¬ (codes "9" ≡ radix_text r)
no_radix Bin e = let first : 57 ≡ 50 = at_place 0 e in omega (arith, first)
no_radix Oct e = let first : 57 ≡ 56 = at_place 0 e in omega (arith, first)
no_radix Dec e = let first : 57 ≡ 49 = at_place 0 e in omega (arith, first)
no_radix Hex e = let first : 57 ≡ 49 = at_place 0 e in omega (arith, first)

-- ---- the answers
pub returns : goal.returns
unfolding shortest_text decimal_text point_text whole_digits fraction_part last_digits shortest_number shortest_places least_places_from reads_back_at nearest_number digits down
returns c = record {
  respelled = answered NearestEven Dec Checked (unsigned_format 4 4) (unsigned_format 8 0) (codes "checked") (plain None (codes "2") (Some (codes "99"))) 48 (inl ((refl, refl), refl)) refl refl;
  shortest_text = answered NearestEven Dec Checked (signed_format 4 4) (signed_format 4 4) (codes "checked") (plain None (codes "3") (Some (codes "1875"))) 51 (inl ((refl, refl), refl)) refl refl;
  tie_of_texts = answered NearestEven Dec Checked (unsigned_format 6 2) (unsigned_format 6 2) (codes "checked") (plain None (codes "0") (Some (codes "25"))) 1 (inl ((refl, refl), refl)) refl refl;
  octal = answered NearestEven Oct Checked (unsigned_format 0 8) (unsigned_format 0 8) (codes "checked") (by_two (codes "0") (codes "1") 49) 64 (inl ((refl, refl), refl)) refl refl;
  hexadecimal = answered NearestEven Hex Wrapping (unsigned_format 8 8) (unsigned_format 8 8) (codes "wrapping") (plain None (codes "C0F") (Some (codes "FE"))) 790526 (inl ((refl, refl), refl)) refl refl;
  mode_word = answered Floor Dec Checked (signed_format 8 0) (signed_format 8 0) (codes "checked/floor") (plain (Some 45) (codes "2") (Some (codes "5"))) 3 (inr (refl, refl, refl)) refl refl;
  overflow = inr (record {
    task = task_of Dec (unsigned_format 8 0) (unsigned_format 16 0) Checked NearestEven (codes "300");
    asks = asks Dec (unsigned_format 8 0) (unsigned_format 16 0) (codes "checked") Checked NearestEven (codes "300") refl (inl ((refl, refl), refl));
    answered = inl (record { kind = Overflow; refusal = inr (refl, overflows (plain None (codes "300") None) 300 refl); answer_is = refl });
  });
  refused = inr (record {
    task = task_of Dec (unsigned_format 8 0) (unsigned_format 8 0) Checked NearestEven (codes "1_0");
    asks = asks Dec (unsigned_format 8 0) (unsigned_format 8 0) (codes "checked") Checked NearestEven (codes "1_0") refl (inl ((refl, refl), refl));
    answered = inl (record { kind = InvalidDigit; refusal = inl cause_1_0; answer_is = refl });
  });
  line_fault = inl (record {
    fault = BadRadix;
    first = first_radix IsFormatWord IsPolicyWord (codes "9 U8F0 U9F0 checked 1") (codes "9") (codes "U8F0") (codes "U9F0") (codes "checked") (codes "1") (omega arith) (record { text = refl; unspaced = (refl, (refl, (refl, (refl, tt)))) }) no_radix;
    answer_is = refl;
  });
}
