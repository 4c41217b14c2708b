-- The formats of lines, constants that share one format, and their lines in an array.
use Rattle.std.proofs.Common.{◌≡◌, ◌∙◌, ◌⊎◌, ◌↔◌, ◌+◌, ◌≤◌, ◌<◌, ℕ, zero, suc, eqb, List, [], ◌∷◌, ◌++◌, Bool, true, false, IsTrue, Option, Some, None, drop, slice_get, refl, sym, ap, subst, arith, append-nil, append_assoc, inl, inr}
use Rattle.std.specs.Prelude.{MatchOption}
use Rattle.std.proofs.lemmas.Bool.{false≢true}
use Rattle.std.proofs.lemmas.Bool.Decides.{nat_tests}
use Rattle.fixed_bits.specs.Formats.{FormatParts}
use Rattle.fixed_bits.specs.Ranges.{IsInRange}
use Rattle.fixed_respell.specs.Words.{IsFormatWord}
use Rattle.line_engine.specs.Lines.{lines}
use Rattle.fixed_constants.specs.Constants.{ConstantParts, Declare, Fields, IsConstantsOf, IsFaultOf}
use Rattle.fixed_constants.specs.Lemmas.ConstantsLemmas.{fail_one, fields_one, not_both}
use Rattle.fixed_constants.specs.declared.fault.ConstantFault.{ConstantFault}
use Rattle.fixed_arrays.specs.Inner.Literals.{AreInRange, AreLiterals}
use Rattle.fixed_arrays.specs.Lemmas.LiteralLemmas.{first_format_one, format_one, none_declared, other_one, spelled_format}
use Rattle.fixed_arrays.specs.Literals.{AreOf, HasFirstFormat, HasFormat, HasLiteralsFault, HasOther, OtherFrom}
use Rattle.fixed_arrays.specs.Table.{element_line, literal_lines}
use Rattle.fixed_arrays.specs.declared.fault.LiteralsFault.TheVariants.{Empty, OtherFormat, Refused}
use Rattle.fixed_arrays.specs.declared.text.Frame.{Frame}

-- ---- formats are equal or different
abbrev Decided : FormatParts → FormatParts → Type 0
Decided f g = (f ≡ g) ⊎ (f ≡ g → ⊥)

decided_frac : (s : Bool) (w k l : ℕ) → Decided (record { signed = s; width = w; frac = k }) (record { signed = s; width = w; frac = l })
decided_frac s w k l = by_test (eqb k l) refl
  where
    P : ℕ → FormatParts
    P n = record { signed = s; width = w; frac = n }

    by_test : (t : Bool) → eqb k l ≡ t → Decided (P k) (P l)
    by_test true e = let same : k ≡ l = grind (arith, nat_tests) in inl (ap P same)
    by_test false e = let differs : k ≡ l → ⊥ = λ h. grind (arith, nat_tests) in inr (λ h. differs (ap (λ f. f.frac) h))

decided_width : (s : Bool) (v w k l : ℕ) → Decided (record { signed = s; width = v; frac = k }) (record { signed = s; width = w; frac = l })
decided_width s v w k l = by_test (eqb v w) refl
  where
    by_test : (t : Bool) → eqb v w ≡ t → Decided (record { signed = s; width = v; frac = k }) (record { signed = s; width = w; frac = l })
    by_test true e =
        let same : v ≡ w = grind (arith, nat_tests) in
        subst (λ x. Decided (record { signed = s; width = v; frac = k }) (record { signed = s; width = x; frac = l })) same (decided_frac s v k l)
    by_test false e = let differs : v ≡ w → ⊥ = λ h. grind (arith, nat_tests) in inr (λ h. differs (ap (λ f. f.width) h))

decided_parts : (s t : Bool) (v w k l : ℕ) → Decided (record { signed = s; width = v; frac = k }) (record { signed = t; width = w; frac = l })
decided_parts true true v w k l = decided_width true v w k l
decided_parts false false v w k l = decided_width false v w k l
decided_parts true false v w k l = inr (λ h. false≢true (sym (ap (λ f. f.signed) h)))
decided_parts false true v w k l = inr (λ h. false≢true (ap (λ f. f.signed) h))

pub decided : (f g : FormatParts) → Decided f g
decided f g = decided_parts f.signed g.signed f.width g.width f.frac g.frac

-- ---- one line
pub format_by : (line : List ℕ) (x : Fields line) (r : Option FormatParts) → MatchOption r ((f : FormatParts) → IsFormatWord x.format f → ⊥) (λ f. IsFormatWord x.format f) → MatchOption r ((f : FormatParts) → HasFormat line f → ⊥) (λ f. HasFormat line f)
format_by line x None none = λ f h. let W : List ℕ → Type 0 = λ w. IsFormatWord w f in none f (subst W (fields_one line h.fields x).format h.word)
format_by line x (Some f) word = record { fields = x; word = word }

pub other_by : (line : List ℕ) (f g : FormatParts) (b : Bool) → HasFormat line g → (IsTrue b ↔ (g ≡ f → ⊥)) → IsTrue b ↔ HasOther f line
other_by line f g b has is = (λ holds. (g, has, is.0 holds), λ h. is.1 (λ e. h.2 (format_one line h.0 g h.1 has ∙ e)))

pub no_other : (line : List ℕ) (f : FormatParts) (b : Bool) → ((g : FormatParts) → HasFormat line g → ⊥) → b ≡ false → IsTrue b ↔ HasOther f line
no_other line f b none fails = (λ holds. absurd (false≢true (sym fails ∙ holds)), λ h. absurd (none h.0 h.1))

-- ---- a search among the lines
pub record FirstIn (text rest : List ℕ) : Type 0 where
  pub there : (f : FormatParts) → HasFirstFormat (lines rest) f → HasFirstFormat (lines text) f
  pub back : (f : FormatParts) → HasFirstFormat (lines text) f → HasFirstFormat (lines rest) f

pub record OtherIn (format : FormatParts) (text rest : List ℕ) (number : ℕ) : Type 0 where
  pub there : (p : ℕ) → OtherFrom (number + 1) format (lines rest) p → OtherFrom 1 format (lines text) p
  pub back : (p : ℕ) → OtherFrom 1 format (lines text) p → OtherFrom (number + 1) format (lines rest) p

-- ---- the lines of a text
no_literal : (before all : List (List ℕ)) (t : List ConstantParts) → Declare before all t → ((f : FormatParts) → HasFirstFormat all f → ⊥) → t ≡ []
no_literal before [] t d none = d
no_literal before (line ∷ more) t (inl d) none = no_literal (before ++ line ∷ []) more t d.1 (λ f x. none f (inr (λ g h. h.fields.spoken d.0, x)))
no_literal before (line ∷ more) t (inr d) none = absurd (none d.0.format (inl (spelled_format line d.0 d.2.0)))

one_line : (n : ℕ) (f : FormatParts) (line : List ℕ) (more : List (List ℕ)) (c : ConstantParts) (t : List ConstantParts) → HasFormat line c.format → Decided c.format f → ((p : ℕ) → OtherFrom n f (line ∷ more) p → ⊥) → (((p : ℕ) → OtherFrom (n + 1) f more p → ⊥) → AreOf f t) → AreOf f (c ∷ t)
one_line n f line more c t has (inr differs) none rest = absurd (none n (inl ((c.format, has, differs), refl)))
one_line n f line more c t has (inl e) none rest = (e, rest (λ p x. none p (inr (λ h. h.2 (format_one line h.0 c.format h.1 has ∙ e), x))))

one_format : (n : ℕ) (before all : List (List ℕ)) (t : List ConstantParts) (f : FormatParts) → Declare before all t → ((p : ℕ) → OtherFrom n f all p → ⊥) → AreOf f t
one_format n before [] t f d none = subst (AreOf f) (sym d) tt
one_format n before (line ∷ more) t f (inl d) none = one_format (n + 1) (before ++ line ∷ []) more t f d.1 (λ p x. none p (inr (λ h. h.1.fields.spoken d.0, x)))
one_format n before (line ∷ more) t f (inr d) none =
    let rest : ((p : ℕ) → OtherFrom (n + 1) f more p → ⊥) → AreOf f d.1 = λ after. one_format (n + 1) (before ++ line ∷ []) more d.1 f d.4 after in
    subst (AreOf f) (sym d.3) (one_line n f line more d.0 d.1 (spelled_format line d.0 d.2.0) (decided d.0.format f) none rest)

in_range : (before all : List (List ℕ)) (t : List ConstantParts) (f : FormatParts) → Declare before all t → AreOf f t → AreInRange f t
in_range before [] t f d are = subst (AreInRange f) (sym d) tt
in_range before (line ∷ more) t f (inl d) are = in_range (before ++ line ∷ []) more t f d.1 are
in_range before (line ∷ more) t f (inr d) are =
    let s : AreOf f (d.0 ∷ d.1) = subst (AreOf f) d.3 are in
    let R : FormatParts → Type 0 = λ g. IsInRange g.signed g.width d.0.bits in
    let here : IsInRange f.signed f.width d.0.bits = subst R s.0 d.2.0.literal.in_range in
    let both : AreInRange f (d.0 ∷ d.1) = (here, in_range (before ++ line ∷ []) more d.1 f d.4 s.1) in
    subst (AreInRange f) (sym d.3) both

pub literals_are : (text : List ℕ) (t : List ConstantParts) (f : FormatParts) → IsConstantsOf text t → HasFirstFormat (lines text) f → ((p : ℕ) → OtherFrom 1 f (lines text) p → ⊥) → AreLiterals text f t
literals_are text t f are first none =
    let one = one_format 1 [] (lines text) t f are none in
    record {
      are = are;
      some = λ e. none_declared [] (lines text) f (subst (λ c. Declare [] (lines text) c) e are) first;
      one = one;
      range = in_range [] (lines text) t f are one;
    }

pub is_empty : (text : List ℕ) (t : List ConstantParts) → IsConstantsOf text t → ((f : FormatParts) → HasFirstFormat (lines text) f → ⊥) → HasLiteralsFault text Empty
is_empty text t are none = subst (λ c. IsConstantsOf text c) (no_literal [] (lines text) t are none) are

pub other_alone : (text : List ℕ) (t : List ConstantParts) (f : FormatParts) (p : ℕ) → IsConstantsOf text t → HasFirstFormat (lines text) f → OtherFrom 1 f (lines text) p → HasLiteralsFault text (OtherFormat p f)
other_alone text t f p are first other = (record { first = first; other = other }, λ q fault is. absurd (not_both [] (lines text) t q fault are is))

pub fault_only : (text : List ℕ) (f : FormatParts) (p : ℕ) (fault : ConstantFault) → IsFaultOf text p fault → HasFirstFormat (lines text) f → ((q : ℕ) → OtherFrom 1 f (lines text) q → ⊥) → HasLiteralsFault text (Refused p fault)
fault_only text f p fault is first none = (is, λ g q x. absurd (none q (subst (λ h. OtherFrom 1 h (lines text) q) (first_format_one (lines text) g f x.first first) x.other)))

pub other_earlier : (text : List ℕ) (f : FormatParts) (p q : ℕ) (fault : ConstantFault) → IsFaultOf text q fault → HasFirstFormat (lines text) f → OtherFrom 1 f (lines text) p → p < q → HasLiteralsFault text (OtherFormat p f)
other_earlier text f p q fault is first other early = (record { first = first; other = other }, λ r g has. let same : q ≡ r = (fail_one [] (lines text) q r fault g is has).line in omega (arith, early, same))

pub fault_earlier : (text : List ℕ) (f : FormatParts) (p q : ℕ) (fault : ConstantFault) → IsFaultOf text q fault → HasFirstFormat (lines text) f → OtherFrom 1 f (lines text) p → q ≤ p → HasLiteralsFault text (Refused q fault)
fault_earlier text f p q fault is first other early = (is, λ g r x. let same : r ≡ p = (other_one text g f r p x (record { first = first; other = other })).line in omega (arith, early, same))

-- ---- the lines of the array
drop_some : (xs : List ConstantParts) (i : ℕ) (x : ConstantParts) → slice_get xs i ≡ Some x → drop i xs ≡ x ∷ drop (suc i) xs
drop_some [] i x e = absurd cc
drop_some (y ∷ ys) zero x e = let same : y ≡ x = cc in ap (λ z. z ∷ ys) same
drop_some (y ∷ ys) (suc i) x e = drop_some ys i x e

drop_none : (xs : List ConstantParts) (i : ℕ) → slice_get xs i ≡ None → drop i xs ≡ []
drop_none [] zero e = refl
drop_none [] (suc i) e = refl
drop_none (y ∷ ys) zero e = absurd cc
drop_none (y ∷ ys) (suc i) e = drop_none ys i e

pub range_at : (f : FormatParts) (xs : List ConstantParts) (i : ℕ) (x : ConstantParts) → slice_get xs i ≡ Some x → AreInRange f xs → IsInRange f.signed f.width x.bits
range_at f [] i x e are = absurd cc
range_at f (y ∷ ys) zero x e are = let same : y ≡ x = cc in subst (λ c. IsInRange f.signed f.width c.bits) same are.0
range_at f (y ∷ ys) (suc i) x e are = range_at f ys i x e are.1

pub lines_more : (r : Frame) (all : List ConstantParts) (i : ℕ) (c : ConstantParts) (start old new : List ℕ) → slice_get all i ≡ Some c → start ++ literal_lines r 0 all ≡ old ++ literal_lines r i (drop i all) → new ≡ old ++ element_line r i c.name c.bits → start ++ literal_lines r 0 all ≡ new ++ literal_lines r (i + 1) (drop (suc i) all)
lines_more r all i c start old new at before is =
    before ∙ (ap (λ t. old ++ literal_lines r i t) (drop_some all i c at) ∙ (sym (append_assoc old (element_line r i c.name c.bits) (literal_lines r (i + 1) (drop (suc i) all))) ∙ ap (λ t. t ++ literal_lines r (i + 1) (drop (suc i) all)) (sym is)))

pub lines_all : (r : Frame) (all : List ConstantParts) (i : ℕ) (start text : List ℕ) → slice_get all i ≡ None → start ++ literal_lines r 0 all ≡ text ++ literal_lines r i (drop i all) → text ≡ start ++ literal_lines r 0 all
lines_all r all i start text at before = sym (before ∙ (ap (λ t. text ++ literal_lines r i t) (drop_none all i at) ∙ append-nil text))
