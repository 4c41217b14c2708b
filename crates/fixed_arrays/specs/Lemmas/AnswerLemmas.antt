-- An input has one answer.
use Rattle.std.proofs.Common.{◌≡◌, ◌∙◌, ◌+◌, ℕ, ℤ, List, [], ◌∷◌, None, Option, Some, refl, sym, ap, inl, inr}
use Rattle.fixed_bits.specs.Ranges.{IsWidth}
use Rattle.fixed_arrays.specs.Lemmas.ReadingLemmas.{read_bits_one, read_or_not, unread_one}
use Rattle.fixed_constants.specs.Lemmas.ConstantsLemmas.{answer_text_is}
use Rattle.fixed_numeral.specs.declared.error.ParseErrorKind.{ParseErrorKind}
use Rattle.line_engine.specs.AnswerText.{AnswerText}
use Rattle.line_engine.specs.Lines.{lines}
use Rattle.fixed_arrays.specs.Answer.{AreElements, HasFault, IsArrayAnswer, IsElement, IsRefusedElement, RefusedFrom}
use Rattle.fixed_arrays.specs.Answer.{without_return}
use Rattle.fixed_arrays.specs.Answer.{fault_line, frame_of, numerals_in}
use Rattle.fixed_arrays.specs.Table.{array_text}
use Rattle.fixed_arrays.specs.declared.fault.ArrayFault.{ArrayFault}
use Rattle.fixed_arrays.specs.declared.fault.ArrayFault.TheVariants.{Empty, NoMemory, Refused}
use Rattle.fixed_arrays.specs.declared.rule.ArrayRule.{ArrayRule}
use Rattle.fixed_arrays.specs.declared.rule.Numerals.{Numerals}

element_one : (n : Numerals) (line : List ℕ) (a b : ℤ) → IsWidth n.format.width → IsElement n line a
    → IsElement n line b → a ≡ b
element_one n line a b width x y = read_bits_one n.mode n.radix (without_return line) n.format n.policy a b x.overflowed
    y.overflowed width x.read y.read

element_or_not : (n : Numerals) (line : List ℕ) (a : ℤ) (k : ParseErrorKind) → IsElement n line a
    → IsRefusedElement n line k → ⊥
element_or_not n line a k x y =
    read_or_not n.mode n.radix (without_return line) n.format n.policy a x.overflowed k x.read y

both : (a b : ℤ) (xs ys : List ℤ) → a ≡ b → xs ≡ ys → a ∷ xs ≡ b ∷ ys
both a b xs ys e f = ap (λ x. x ∷ xs) e ∙ ap (λ zs. b ∷ zs) f

elements_one : (n : Numerals) (all : List (Option (List ℕ))) (a b : List ℤ) → IsWidth n.format.width
    → AreElements n all a → AreElements n all b → a ≡ b
elements_one n [] [] [] width x y = refl
elements_one n [] [] (b ∷ bs) width x y = absurd y
elements_one n [] (a ∷ xs) bs width x y = absurd x
elements_one n (None ∷ ls) a b width x y = elements_one n ls a b width x y
elements_one n (Some l ∷ ls) [] bs width x y = absurd x
elements_one n (Some l ∷ ls) (a ∷ xs) [] width x y = absurd y
elements_one n (Some l ∷ ls) (a ∷ xs) (b ∷ bs) width x y = both a b xs bs (element_one n l a b width x.0 y.0)
    (elements_one n ls xs bs width x.1 y.1)

-- ---- the first line that is refused
pub record IsSameRefusal (p q : ℕ) (k l : ParseErrorKind) : Type 0 where
  pub place : p ≡ q
  pub kind : k ≡ l

refused_one : (i : ℕ) (n : Numerals) (all : List (Option (List ℕ))) (p q : ℕ) (k l : ParseErrorKind)
    → RefusedFrom i n all p k → RefusedFrom i n all q l → IsSameRefusal p q k l
refused_one i n [] p q k l x y = absurd x
refused_one i n (None ∷ lines) p q k l x y = refused_one (i + 1) n lines p q k l x y
refused_one i n (Some line ∷ lines) p q k l (inl x) (inl y) = record {
  place = x.1 ∙ sym y.1;
  kind = unread_one n.mode n.radix (without_return line) n.format n.policy k l x.0 y.0;
}
refused_one i n (Some line ∷ lines) p q k l (inl x) (inr y) = absurd (element_or_not n line y.0 k y.1 x.0)
refused_one i n (Some line ∷ lines) p q k l (inr x) (inl y) = absurd (element_or_not n line x.0 l x.1 y.0)
refused_one i n (Some line ∷ lines) p q k l (inr x) (inr y) = refused_one (i + 1) n lines p q k l x.2 y.2

never_refused : (i : ℕ) (n : Numerals) (all : List (Option (List ℕ))) (numbers : List ℤ) (p : ℕ) (k : ParseErrorKind)
    → AreElements n all numbers → RefusedFrom i n all p k → ⊥
never_refused i n [] numbers p k x y = y
never_refused i n (None ∷ lines) numbers p k x y = never_refused (i + 1) n lines numbers p k x y
never_refused i n (Some line ∷ lines) [] p k x y = x
never_refused i n (Some line ∷ lines) (a ∷ xs) p k x (inl y) = element_or_not n line a k x.0 y.0
never_refused i n (Some line ∷ lines) (a ∷ xs) p k x (inr y) = never_refused (i + 1) n lines xs p k x.1 y.2

-- ---- faults
fault_one : (n : Numerals) (all : List (Option (List ℕ))) (f g : ArrayFault) → HasFault n all f → HasFault n all g
    → f ≡ g
fault_one n all Empty Empty x y = refl
fault_one n all Empty (Refused q l) x y = absurd (never_refused 1 n all [] q l x y)
fault_one n all Empty NoMemory x y = absurd y
fault_one n all (Refused p k) Empty x y = absurd (never_refused 1 n all [] p k y x)
fault_one n all (Refused p k) (Refused q l) x y = let same = refused_one 1 n all p q k l x y in ap (λ r. Refused r k)
    same.place ∙ ap (Refused q) same.kind
fault_one n all (Refused p k) NoMemory x y = absurd y
fault_one n all NoMemory g x y = absurd x

never_both : (n : Numerals) (all : List (Option (List ℕ))) (numbers : List ℤ) (f : ArrayFault) → IsWidth n.format.width
    → (numbers ≡ [] → ⊥) → AreElements n all numbers → HasFault n all f → ⊥
never_both n all numbers Empty width some x y = some (elements_one n all numbers [] width x y)
never_both n all numbers (Refused p k) width some x y = never_refused 1 n all numbers p k x y
never_both n all numbers NoMemory width some x y = y

-- ---- answers
pub array_answer_one : (r : ArrayRule) (input : List ℕ) (a b : AnswerText) → IsArrayAnswer r input a
    → IsArrayAnswer r input b → a ≡ b
array_answer_one r input a b (inl x) (inl y) =
    let all = numerals_in r.layout.now (lines input) in
    let same = elements_one r.numerals all x.numbers y.numbers x.format.is_width x.elements y.elements in
    answer_text_is a b (x.text ∙ (ap (array_text (frame_of r)) same ∙ sym y.text))
    (x.fault ∙ sym y.fault)
array_answer_one r input a b (inl x) (inr y) = absurd (never_both r.numerals (numerals_in r.layout.now (lines input))
    x.numbers y.why x.format.is_width x.some x.elements y.is)
array_answer_one r input a b (inr x) (inl y) = absurd (never_both r.numerals (numerals_in r.layout.now (lines input))
    y.numbers x.why y.format.is_width y.some y.elements x.is)
array_answer_one r input a b (inr x) (inr y) = answer_text_is a b (x.text ∙ (ap fault_line (fault_one r.numerals
    (numerals_in r.layout.now (lines input)) x.why y.why x.is y.is) ∙ sym y.text)) (x.fault ∙ sym y.fault)
