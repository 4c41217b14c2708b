-- Arguments name at most one form.
use Rattle.std.specs.Prelude.{String, codes}
use Rattle.std.proofs.Common.{◌≡◌, ◌<◌, ◌≤◌, ℕ, List, [], ◌∷◌, length, get_or, sym, ap, subst, arith, ◌∙◌, inl, inr}
use Rattle.std.specs.String.{string_bytes}
use Rattle.std.specs.declared.alloc.Global.{Global}
use Rattle.fixed_constants.specs.Program.{NamesForm, NamesLanguage}
use Rattle.fixed_constants.specs.declared.form.Form.{Form}

language_one : (word : List ℕ) (f h : Form) → NamesLanguage word f → NamesLanguage word h → f ≡ h
language_one word f h (inl a) (inl b) = a.1 ∙ sym b.1
language_one word f h (inl a) (inr b) = let e : codes "c" ≡ codes "rust" = sym a.0 ∙ b.0 in absurd cc
language_one word f h (inr a) (inl b) = let e : codes "rust" ≡ codes "c" = sym a.0 ∙ b.0 in absurd cc
language_one word f h (inr a) (inr b) = a.1 ∙ sym b.1

pub form_named : (words : List (String Global)) (f h : Form) (g k : List ℕ) → NamesForm words f g → NamesForm words h k → f ≡ h
form_named [] f h g k a b = a.0 ∙ sym b.0
form_named (word ∷ []) f h g k a b = language_one (string_bytes word) f h a.0 b.0
form_named (word ∷ name ∷ []) f h g k a b = a.1 ∙ sym b.1
form_named (word ∷ name ∷ more ∷ words) f h g k a b = absurd a

pub guard_named : (words : List (String Global)) (f h : Form) (g k : List ℕ) → NamesForm words f g → NamesForm words h k → g ≡ k
guard_named [] f h g k a b = a.1 ∙ sym b.1
guard_named (word ∷ []) f h g k a b = a.1 ∙ sym b.1
guard_named (word ∷ name ∷ []) f h g k a b = a.2 ∙ sym b.2
guard_named (word ∷ name ∷ more ∷ words) f h g k a b = absurd a

-- one argument that names no language names no form
pub no_language : (words : List (String Global)) (word : String Global) (bytes : List ℕ) → 1 ≤ length words → length words < 2 → word ≡ get_or words 0 word → bytes ≡ string_bytes word → ((f : Form) → NamesLanguage bytes f → ⊥)
    → (form : Form) (guard : List ℕ) → NamesForm words form guard → ⊥
no_language [] word bytes low high is same none form guard names = absurd (omega arith)
no_language (w ∷ []) word bytes low high is same none form guard names =
    let N : List ℕ → Type 0 = λ b. NamesLanguage b form in
    none form (subst N (ap string_bytes (sym is) ∙ sym same) names.0)
no_language (w ∷ n ∷ more) word bytes low high is same none form guard names = absurd (omega arith)
