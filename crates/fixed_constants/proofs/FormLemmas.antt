-- Numbers of C, reserved names, and the answer to an input in a form.
use Rattle.std.proofs.Common.{◌≡◌, ◌↔◌, ℕ, ◌+◌, ◌-◌, ◌^◌, ◌<◌, ◌≤◌, eqb, eq-eqb, Bool, true, false, IsTrue, Option, Some, None, List, [], ◌∷◌, ◌++◌, ℤ, unsigned_abs, refl, sym, ◌∙◌, subst, arith, inl, inr}
use Rattle.std.specs.Int.{is_negative}
use Rattle.std.specs.Prelude.{is_some}
use Rattle.std.proofs.lemmas.Bool.{false≢true}
use Rattle.std.proofs.lemmas.Bool.Decides.{nat_tests}
use Rattle.memchr.specs.Find.{FindsNeedle, OccursAt}
use Rattle.fixed_bits.specs.Formats.{FormatParts}
use Rattle.line_engine.specs.Lines.{lines}
use Rattle.fixed_respell.specs.LineWords.{space}
use Rattle.fixed_constants.specs.Constants.{ConstantParts, Fields, IsConstantsOf, IsFaultOf, IsName}
use Rattle.fixed_constants.specs.Forms.{HasReserved, IsAmong, IsFormFault, IsReserved, IsReservedOn, ReservedFrom, c_constant, c_lowest, c_minus, c_negative, c_number}
use Rattle.fixed_constants.specs.Lemmas.ConstantsLemmas.{fail_one, fields_one, not_both}
use Rattle.fixed_constants.specs.Lemmas.FormLemmas.{reserved_one}
use Rattle.fixed_constants.specs.declared.fault.ConstantFault.{ConstantFault}
use Rattle.fixed_constants.specs.declared.fault.ConstantFault.TheVariants.{BadName}
use Rattle.fixed_constants.specs.declared.form.Form.{Form}

-- ---- numbers of C
pub negative_lowest : (f : FormatParts) (m : ℕ) → m ≡ 2 ^ (f.width - 1) → c_negative f m ≡ c_lowest f (m - 1)
unfolding c_negative
negative_lowest f m same = let e : eqb m (2 ^ (f.width - 1)) ≡ true = eq-eqb m (2 ^ (f.width - 1)) same in rw e refl

pub negative_other : (f : FormatParts) (m : ℕ) → (m ≡ 2 ^ (f.width - 1) → ⊥) → c_negative f m ≡ c_minus f m
unfolding c_negative
negative_other f m differs = by_test (eqb m (2 ^ (f.width - 1))) refl
  where
    by_test : (t : Bool) → eqb m (2 ^ (f.width - 1)) ≡ t → c_negative f m ≡ c_minus f m
    by_test true e = absurd (differs (grind (arith, nat_tests)))
    by_test false e = rw e refl

pub number_minus : (f : FormatParts) (bits : ℤ) → is_negative bits ≡ true → c_number f bits ≡ c_negative f (unsigned_abs bits)
unfolding c_number
number_minus f bits e = rw e refl

pub number_plain : (f : FormatParts) (bits : ℤ) → is_negative bits ≡ false → c_number f bits ≡ c_constant f (unsigned_abs bits)
unfolding c_number
number_plain f bits e = rw e refl

-- ---- words between spaces
pub among_by : (words word needle : List ℕ) (r : Option ℕ) (b : Bool) → needle ≡ space ∷ (word ++ space ∷ []) → FindsNeedle words needle 0 r → b ≡ is_some r → IsTrue b ↔ IsAmong words word
among_by words word needle (Some k) b same found is = (λ _. let O : List ℕ → Type 0 = λ n. OccursAt words n k in (k, subst O same found.1), λ _. is)
among_by words word needle None b same found is = (λ holds. absurd (false≢true (sym is ∙ holds)), λ h. absurd (never h))
  where
    never : IsAmong words word → ⊥
    never h = let O : List ℕ → Type 0 = λ n. OccursAt words n h.0 in let at = subst O (sym same) h.1 in let fits = at.fits in found h.0 (omega arith) (omega arith) at

-- ---- the name on a line
same_name : (line : List ℕ) (x y : Fields line) → y.name ≡ x.name
same_name line x y = (fields_one line y x).name

pub named_reserved : (form : Form) (guard line : List ℕ) (x : Fields line) (b : Bool) → IsName x.name → (IsTrue b ↔ IsReserved form guard x.name) → IsTrue b ↔ HasReserved form guard line
named_reserved form guard line x b named is = (there, back)
  where
    there : IsTrue b → HasReserved form guard line
    there holds = record { fields = x; name = named; reserved = is.0 holds }

    back : HasReserved form guard line → IsTrue b
    back h = let R : List ℕ → Type 0 = λ n. IsReserved form guard n in is.1 (subst R (same_name line x h.fields) h.reserved)

pub unnamed_reserved : (form : Form) (guard line : List ℕ) (x : Fields line) (b : Bool) → (IsName x.name → ⊥) → b ≡ false → IsTrue b ↔ HasReserved form guard line
unnamed_reserved form guard line x b unnamed fails = (λ holds. absurd (false≢true (sym fails ∙ holds)), λ h. let N : List ℕ → Type 0 = λ n. IsName n in absurd (unnamed (subst N (same_name line x h.fields) h.name)))

-- ---- the search for the first line with a reserved name
pub record SearchedTo (form : Form) (guard text rest : List ℕ) (number : ℕ) : Type 0 where
  pub there : (p : ℕ) → ReservedFrom (number + 1) form guard (lines rest) p → IsReservedOn form guard text p
  pub back : (p : ℕ) → IsReservedOn form guard text p → ReservedFrom (number + 1) form guard (lines rest) p

-- ---- the first fault in a form
pub name_alone : (form : Form) (guard text : List ℕ) (t : List ConstantParts) (p : ℕ) → IsConstantsOf text t → IsReservedOn form guard text p → IsFormFault form guard text p BadName
name_alone form guard text t p are found = inr (refl, found, λ q other fault. absurd (not_both [] (lines text) t q other are fault))

pub name_first : (form : Form) (guard text : List ℕ) (p q : ℕ) (f : ConstantFault) → IsFaultOf text q f → IsReservedOn form guard text p → p ≤ q → IsFormFault form guard text p BadName
name_first form guard text p q f fault found early = inr (refl, found, λ r other has. let same : q ≡ r = (fail_one [] (lines text) q r f other fault has).line in omega arith)

pub fault_first : (form : Form) (guard text : List ℕ) (p q : ℕ) (f : ConstantFault) → IsFaultOf text q f → IsReservedOn form guard text p → q < p → IsFormFault form guard text q f
fault_first form guard text p q f fault found early = inl (fault, λ r has. let same : p ≡ r = reserved_one 1 form guard (lines text) p r found has in omega arith)
