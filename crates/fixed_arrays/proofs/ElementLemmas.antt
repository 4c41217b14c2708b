-- Elements of an array, read line by line.
use Rattle.std.proofs.Common.{◌≡◌, ◌∙◌, ◌+◌, ◌<◌, ℕ, ℤ, List, [], ◌∷◌, ◌++◌, None, Option, Some, length, refl, sym, ap, subst, arith, append-nil, append_assoc, length-append, inl, inr}
use Rattle.fixed_numeral.specs.declared.error.ParseErrorKind.{ParseErrorKind}
use Rattle.line_engine.specs.Lines.{lines}
use Rattle.fixed_arrays.specs.Answer.{AreElements, IsElement, IsRefusedElement, RefusedFrom, frame_of, numeral_in, numerals_in}
use Rattle.fixed_arrays.specs.Table.{array_text, element_line, element_lines, head, tail}
use Rattle.fixed_arrays.specs.Inner.Elements.{HasElements, HasError, HasReadTo, PushesLine, RefusesLine}
use Rattle.fixed_arrays.specs.declared.elements.Elements.{Elements}
use Rattle.fixed_arrays.specs.declared.fault.ArrayFault.{ArrayFault}
use Rattle.fixed_arrays.specs.declared.fault.ArrayFault.TheVariants.{Empty, NoMemory, Refused}
use Rattle.fixed_arrays.specs.declared.rule.ArrayRule.{ArrayRule}
use Rattle.fixed_arrays.specs.declared.rule.Numerals.{Numerals}
use Rattle.fixed_arrays.specs.declared.text.Frame.{Frame}

elements_more : (n : Numerals) (some : List (Option (List ℕ))) (numbers : List ℤ) (line : List ℕ) (bits : ℤ) → AreElements n some numbers → IsElement n line bits → AreElements n (some ++ Some line ∷ []) (numbers ++ bits ∷ [])
elements_more n [] [] line bits are one = (one, tt)
elements_more n [] (b ∷ bs) line bits are one = absurd are
elements_more n (None ∷ ls) numbers line bits are one = elements_more n ls numbers line bits are one
elements_more n (Some l ∷ ls) [] line bits are one = absurd are
elements_more n (Some l ∷ ls) (b ∷ bs) line bits are one = (are.0, elements_more n ls bs line bits are.1 one)

elements_passed : (n : Numerals) (some : List (Option (List ℕ))) (numbers : List ℤ) → AreElements n some numbers → AreElements n (some ++ None ∷ []) numbers
elements_passed n [] [] are = tt
elements_passed n [] (b ∷ bs) are = absurd are
elements_passed n (None ∷ ls) numbers are = elements_passed n ls numbers are
elements_passed n (Some l ∷ ls) [] are = absurd are
elements_passed n (Some l ∷ ls) (b ∷ bs) are = (are.0, elements_passed n ls bs are.1)

text_more : (r : Frame) (k : ℕ) (numbers : List ℤ) (bits : ℤ) → element_lines r k (numbers ++ bits ∷ []) ≡ element_lines r k numbers ++ element_line r (k + length numbers) [] bits
text_more r k [] bits =
    let at : k ≡ k + length {A = ℤ} [] = omega arith in
    append-nil (element_line r k [] bits) ∙ ap (λ i. element_line r i [] bits) at
text_more r k (b ∷ bs) bits =
    let at : k + 1 + length bs ≡ k + length (b ∷ bs) = omega arith in
    ap (λ l. element_line r k [] b ++ l) (text_more r (k + 1) bs bits) ∙ (sym (append_assoc (element_line r k [] b) (element_lines r (k + 1) bs) (element_line r (k + 1 + length bs) [] bits)) ∙ ap (λ i. (element_line r k [] b ++ element_lines r (k + 1) bs) ++ element_line r i [] bits) at)

refused_after : (i : ℕ) (n : Numerals) (some more : List (Option (List ℕ))) (numbers : List ℤ) (line : List ℕ) (kind : ParseErrorKind) → AreElements n some numbers → IsRefusedElement n line kind → RefusedFrom i n (some ++ Some line ∷ more) (i + length some) kind
refused_after i n [] more [] line kind are refused = inl (refused, omega arith)
refused_after i n [] more (b ∷ bs) line kind are refused = absurd are
refused_after i n (None ∷ ls) more numbers line kind are refused =
    let next : i + 1 + length ls ≡ i + length {A = Option (List ℕ)} (None ∷ ls) = omega arith in
    subst (λ p. RefusedFrom (i + 1) n (ls ++ Some line ∷ more) p kind) next (refused_after (i + 1) n ls more numbers line kind are refused)
refused_after i n (Some l ∷ ls) more [] line kind are refused = absurd are
refused_after i n (Some l ∷ ls) more (b ∷ bs) line kind are refused =
    let next : i + 1 + length ls ≡ i + length (Some l ∷ ls) = omega arith in
    inr (b, are.0, subst (λ p. RefusedFrom (i + 1) n (ls ++ Some line ∷ more) p kind) next (refused_after (i + 1) n ls more bs line kind are.1 refused))

-- ---- the lines of an input
pub read_none : (r : ArrayRule) (input : List ℕ) (e : Elements) → e.text.items ≡ [] → e.count ≡ 0 → e.lines ≡ 0 → HasReadTo r input input e
read_none r input e text count lines = record { some = []; cut = refl; has = record { numbers = []; elements = tt; text = text; count = count; lines = lines } }

-- the numerals of the lines that are left, after one of them
one_less : (r : ArrayRule) (input rest after line : List ℕ) (some : List (Option (List ℕ))) → lines rest ≡ line ∷ lines after → numerals_in r.layout.now (lines input) ≡ some ++ numerals_in r.layout.now (lines rest)
    → numerals_in r.layout.now (lines input) ≡ some ++ numeral_in r.layout.now line ∷ numerals_in r.layout.now (lines after)
one_less r input rest after line some first cut = cut ∙ ap (λ l. some ++ numerals_in r.layout.now l) first

read_on : (r : ArrayRule) (input after : List ℕ) (numeral : Option (List ℕ)) (some : List (Option (List ℕ))) (old new : Elements) → numerals_in r.layout.now (lines input) ≡ some ++ numeral ∷ numerals_in r.layout.now (lines after)
    → HasElements r some old → PushesLine r numeral old new → HasReadTo r input after new
read_on r input after None some old new cut h p =
    let one : List (Option (List ℕ)) = None ∷ [] in
    record {
      some = some ++ one;
      cut = cut ∙ sym (append_assoc some one (numerals_in r.layout.now (lines after)));
      has = record {
        numbers = h.numbers;
        elements = elements_passed r.numerals some h.numbers h.elements;
        text = p.text ∙ h.text;
        count = p.count ∙ h.count;
        lines = p.lines ∙ omega (arith, h.lines, length-append some one);
      };
    }
read_on r input after (Some line) some old new cut h p =
    let f : Frame = frame_of r in
    let one : List (Option (List ℕ)) = Some line ∷ [] in
    let last : List ℤ = p.bits ∷ [] in
    let place : old.count ≡ 0 + length h.numbers = omega (arith, h.count) in
    record {
      some = some ++ one;
      cut = cut ∙ sym (append_assoc some one (numerals_in r.layout.now (lines after)));
      has = record {
        numbers = h.numbers ++ last;
        elements = elements_more r.numerals some h.numbers line p.bits h.elements p.element;
        text = p.text ∙ (ap (λ l. l ++ element_line f old.count [] p.bits) h.text ∙ (ap (λ i. element_lines f 0 h.numbers ++ element_line f i [] p.bits) place ∙ sym (text_more f 0 h.numbers p.bits)));
        count = p.count ∙ omega (arith, h.count, length-append h.numbers last);
        lines = p.lines ∙ omega (arith, h.lines, length-append some one);
      };
    }

pub read_more : (r : ArrayRule) (input rest after line : List ℕ) (old new : Elements) → lines rest ≡ line ∷ lines after → HasReadTo r input rest old → PushesLine r (numeral_in r.layout.now line) old new → HasReadTo r input after new
read_more r input rest after line old new first h p = read_on r input after (numeral_in r.layout.now line) h.some old new (one_less r input rest after line h.some first h.cut) h.has p

refused_on : (r : ArrayRule) (input after : List ℕ) (numeral : Option (List ℕ)) (some : List (Option (List ℕ))) (old : Elements) (fault : ArrayFault) → numerals_in r.layout.now (lines input) ≡ some ++ numeral ∷ numerals_in r.layout.now (lines after)
    → HasElements r some old → RefusesLine r.numerals numeral (old.lines + 1) fault → HasError r.numerals (numerals_in r.layout.now (lines input)) fault
refused_on r input after None some old fault cut h f = absurd f
refused_on r input after (Some line) some old Empty cut h f = absurd f
refused_on r input after (Some line) some old (Refused place kind) cut h f =
    let all = numerals_in r.layout.now (lines input) in
    let place_is : 1 + length some ≡ place = omega (arith, f.1, h.lines) in
    subst (λ p. RefusedFrom 1 r.numerals all p kind) place_is
    (subst (λ l. RefusedFrom 1 r.numerals l (1 + length some) kind) (sym cut) (refused_after 1 r.numerals some (numerals_in r.layout.now (lines after)) h.numbers line kind h.elements f.0))
refused_on r input after (Some line) some old NoMemory cut h f = tt

pub read_refused : (r : ArrayRule) (input rest after line : List ℕ) (old : Elements) (fault : ArrayFault) → lines rest ≡ line ∷ lines after → HasReadTo r input rest old → RefusesLine r.numerals (numeral_in r.layout.now line) (old.lines + 1) fault
    → HasError r.numerals (numerals_in r.layout.now (lines input)) fault
read_refused r input rest after line old fault first h f = refused_on r input after (numeral_in r.layout.now line) h.some old fault (one_less r input rest after line h.some first h.cut) h.has f

pub read_all : (r : ArrayRule) (input rest : List ℕ) (e : Elements) → rest ≡ [] → HasReadTo r input rest e → HasElements r (numerals_in r.layout.now (lines input)) e
read_all r input rest e none h =
    let whole : numerals_in r.layout.now (lines input) ≡ h.some = h.cut ∙ (ap (λ l. h.some ++ numerals_in r.layout.now (lines l)) none ∙ append-nil h.some) in
    subst (λ l. HasElements r l e) (sym whole) h.has

-- an input without an element has no numeral
pub no_elements : (r : ArrayRule) (all : List (Option (List ℕ))) (e : Elements) → e.count ≡ 0 → HasElements r all e → AreElements r.numerals all []
no_elements r all e none h = subst (λ numbers. AreElements r.numerals all numbers) (no_numbers h.numbers (sym h.count ∙ none)) h.elements
  where
    no_numbers : (numbers : List ℤ) → length numbers ≡ 0 → numbers ≡ []
    no_numbers [] e = refl
    no_numbers (b ∷ bs) e = absurd (omega (arith, e))

pub none_of : (xs : List ℕ) → length xs ≡ 0 → xs ≡ []
none_of [] e = refl
none_of (x ∷ xs) e = absurd (omega (arith, e))

-- an input with an element has a numeral
pub some_numbers : (r : ArrayRule) (all : List (Option (List ℕ))) (e : Elements) (h : HasElements r all e) → 0 < e.count → h.numbers ≡ [] → ⊥
some_numbers r all e h some none = omega (arith, some, h.count, ap length none)

pub whole_text : (r : Frame) (numbers : List ℤ) (count : ℕ) (elements text : List ℕ) → count ≡ length numbers → elements ≡ element_lines r 0 numbers → text ≡ head r count ++ (elements ++ tail r count) → text ≡ array_text r numbers
whole_text r numbers count elements text same e t =
    t ∙ (ap (λ k. head r k ++ (elements ++ tail r k)) same ∙ ap (λ x. head r (length numbers) ++ (x ++ tail r (length numbers))) e)
