-- Texts with the same number of bytes written.
use Rattle.std.proofs.Common.{◌≡◌, ◌∙◌, ◌+◌, ◌-◌, ◌^◌, ◌<◌, ◌++◌, ◌⊎◌, ℕ, List, [], ◌∷◌, None, Some, length, take, ap, arith, inl, inr, refl, sym, subst, append_assoc, length-append}
use Rattle.std.proofs.Math.Seq.{take-append_seam}
use Rattle.std.specs.declared.option.Option.{Option}
use Rattle.std.specs.Io.KnownBytes.{Consumes}
use Rattle.line_engine.specs.AnswerText.{AnswerText}
use Rattle.line_engine.specs.Appended.{AppendsPrefix}
use Rattle.line_engine.specs.Output.{AreAnswers, reply_line, written_of}
use Rattle.line_engine.specs.Run.{WritesText}
use Rattle.line_engine.specs.declared.status.Status.{Status}
use Rattle.line_engine.specs.declared.status.Status.TheVariants.{WriteFault}
use Rattle.line_engine.proofs.Public.{not_failed}
use Rattle.program_laws.specs.Runs.{IsOneText}

-- equal texts, however the runs ended
pub one_text : (s : Status) (a b : List ℕ) → a ≡ b → IsOneText s a b
one_text s a b e = record { whole = λ calm. e; as_long = λ same. e }

-- prefixes of one text are equal if they have the same length
pub prefix_one : (p r q t : List ℕ) → length p ≡ length q → p ++ r ≡ q ++ t → p ≡ q
prefix_one p r q t n e =
    sym (take-append_seam p r) ∙ ap (λ l. take l (p ++ r)) n ∙ ap (λ l. take (length q) l) e ∙ take-append_seam q t

-- bytes taken from one input are equal if their numbers are
pub taken_as_many : (input : List ℕ) (left left' : Option (List ℕ)) (xs ys : List ℕ) → length xs ≡ length ys
    → Consumes (Some input) left xs → Consumes (Some input) left' ys → xs ≡ ys
taken_as_many input None left' xs ys n x y = absurd x
taken_as_many input (Some l) None xs ys n x y = absurd y
taken_as_many input (Some l) (Some k) xs ys n x y = prefix_one xs l ys k n (sym x ∙ y)

same_lengths : (written p q a b : List ℕ) → a ≡ written ++ p → b ≡ written ++ q → length a ≡ length b → length p ≡ length q
same_lengths written p q a b x y n =
    let m : length a ≡ length written + length p = ap length x ∙ length-append written p in
    let k : length b ≡ length written + length q = ap length y ∙ length-append written q in
    omega arith

-- prefixes of a text and of a longer one that starts with it, written after the same bytes
pub begun_one : (written a b text other more : List ℕ) → text ++ more ≡ other → AppendsPrefix (Some written) (Some a) text → AppendsPrefix (Some written) (Some b) other
    → length a ≡ length b → a ≡ b
begun_one written a b text other more e x y n =
    let long : length x.prefix ≡ length y.prefix = same_lengths written x.prefix y.prefix a b x.appends y.appends n in
    let both : x.prefix ++ (x.rest ++ more) ≡ y.prefix ++ y.rest = sym (append_assoc x.prefix x.rest more) ∙ ap (λ l. l ++ more) (sym x.split) ∙ e ∙ y.split in
    let same : x.prefix ≡ y.prefix = prefix_one x.prefix (x.rest ++ more) y.prefix y.rest long both in
    x.appends ∙ ap (λ p. written ++ p) same ∙ sym y.appends

pub prefix_of_one : (written a b text : List ℕ) → AppendsPrefix (Some written) (Some a) text → AppendsPrefix (Some written) (Some b) text → length a ≡ length b → a ≡ b
prefix_of_one written a b text x y n =
    let long : length x.prefix ≡ length y.prefix = same_lengths written x.prefix y.prefix a b x.appends y.appends n in
    let same : x.prefix ≡ y.prefix = prefix_one x.prefix x.rest y.prefix y.rest long (sym x.split ∙ y.split) in
    x.appends ∙ ap (λ p. written ++ p) same ∙ sym y.appends

-- a text, or prefixes of it with the same length
pub text_one : (text : List ℕ) (ending s t : Status) (written a b : List ℕ) (failures failures' : ℕ) → failures < 2 ^ 64 - 1 → (ending ≡ WriteFault → ⊥)
    → WritesText text ending (Some written) (Some a) failures failures' s → WritesText text ending (Some written) (Some b) failures failures' t
    → (s ≡ t) × IsOneText s a b
text_one text ending s t written a b f f' room calm (inl x) (inl y) = (x.0 ∙ sym y.0, one_text s a b (x.1 ∙ sym y.1))
text_one text ending s t written a b f f' room calm (inl x) (inr y) = absurd (not_failed f f' room x.2 y.2)
text_one text ending s t written a b f f' room calm (inr x) (inl y) = absurd (not_failed f f' room y.2 x.2)
text_one text ending s t written a b f f' room calm (inr x) (inr y) =
    (x.0 ∙ sym y.0, record { whole = λ other. absurd (other x.0); as_long = prefix_of_one written a b text x.1 y.1 })

onto : (r q : AnswerText) (xs ys z : List ℕ) → r ≡ q → xs ++ z ≡ ys → (reply_line r ++ xs) ++ z ≡ reply_line q ++ ys
onto r q xs ys z same e = append_assoc (reply_line r) xs z ∙ ap (λ u. reply_line u ++ (xs ++ z)) same ∙ ap (λ u. reply_line q ++ u) e

further : (r q : AnswerText) (rs qs : List AnswerText) → r ≡ q
    → ((z : List ℕ) × (written_of rs ++ z ≡ written_of qs)) ⊎ ((z : List ℕ) × (written_of qs ++ z ≡ written_of rs))
    → ((z : List ℕ) × (written_of (r ∷ rs) ++ z ≡ written_of (q ∷ qs))) ⊎ ((z : List ℕ) × (written_of (q ∷ qs) ++ z ≡ written_of (r ∷ rs)))
further r q rs qs same (inl (z, e)) = inl (z, onto r q (written_of rs) (written_of qs) z same e)
further r q rs qs same (inr (z, e)) = inr (z, onto q r (written_of qs) (written_of rs) z (sym same) e)

module _ (A : List ℕ → AnswerText → Type 0) (one : (line : List ℕ) (a b : AnswerText) → A line a → A line b → a ≡ b) where
  -- the answers to fewer of some first lines begin the answers to more of them
  pub begins_or : (xs more ys others : List (List ℕ)) (rs qs : List AnswerText) → xs ++ more ≡ ys ++ others → AreAnswers A xs rs → AreAnswers A ys qs
      → ((z : List ℕ) × (written_of rs ++ z ≡ written_of qs)) ⊎ ((z : List ℕ) × (written_of qs ++ z ≡ written_of rs))
  begins_or [] more ys others [] qs e x y = inl (written_of qs, refl)
  begins_or [] more ys others (r ∷ rs) qs e x y = absurd x
  begins_or (l ∷ xs) more [] others rs [] e x y = inr (written_of rs, refl)
  begins_or (l ∷ xs) more [] others rs (q ∷ qs) e x y = absurd y
  begins_or (l ∷ xs) more (k ∷ ys) others [] qs e x y = absurd x
  begins_or (l ∷ xs) more (k ∷ ys) others (r ∷ rs) [] e x y = absurd y
  begins_or (l ∷ xs) more (k ∷ ys) others (r ∷ rs) (q ∷ qs) e x y =
      let line : k ≡ l = cc in
      let rest : xs ++ more ≡ ys ++ others = cc in
      let P : List ℕ → Type 0 = λ u. A u q in
      let same : r ≡ q = one l r q x.0 (subst P line y.0) in
      further r q rs qs same (begins_or xs more ys others rs qs rest x.1 y.1)
