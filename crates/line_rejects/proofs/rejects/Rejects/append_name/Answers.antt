use Rattle.std.proofs.Common.{◌≡◌, ◌++◌, ◌∷◌, List, ℕ, [], Bor, Option, None, Some, refl, subst, sym}
use Rattle.std.specs.Prelude.{option_map}
use Rattle.line_rejects.proofs.PutLemmas.{puts_none}
use Rattle.line_rejects.specs.Rejects.{IsNameField, Puts, PutsField, Sight}
use Rattle.line_rejects.proofs.rejects.Rejects.append_name.Goals as goal

-- the name of an input without one
no_name : (name : Option (Bor (List ℕ))) (a : Sight) → name ≡ None → (first : List ℕ) × IsNameField (option_map (λ n. n.now) name) first × Puts a a first
no_name name a is = ([], subst (λ (n : Option (Bor (List ℕ))). IsNameField (option_map (λ it. it.now) n) []) (sym is) refl, puts_none a)

pub returns-in_default-clause-puts : goal.returns-in_default-clause-puts
returns-in_default-clause-puts g c = no_name _ _ c.in_default.is
