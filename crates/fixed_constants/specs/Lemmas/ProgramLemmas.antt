-- An empty argument is a usage fault.
use Rattle.std.specs.Prelude.{String, codes}
use Rattle.std.proofs.Common.{◌≡◌, ℕ, List, [], ◌∷◌, subst, inl, inr}
use Rattle.std.specs.String.{string_bytes}
use Rattle.std.specs.declared.alloc.Global.{Global}
use Rattle.fixed_constants.specs.Program.{IsUsageFault, NamesLanguage}
use Rattle.fixed_constants.specs.declared.form.Form.{Form}

no_language : (form : Form) → NamesLanguage [] form → ⊥
no_language form (inl h) = let e : [] ≡ codes "c" = h.0 in absurd cc
no_language form (inr h) = let e : [] ≡ codes "rust" = h.0 in absurd cc

pub empty_word : (word : String Global) → string_bytes word ≡ [] → IsUsageFault (word ∷ [])
empty_word word empty form guard names =
    let N : List ℕ → Type 0 = λ b. NamesLanguage b form in
    no_language form (subst N empty names.0)
