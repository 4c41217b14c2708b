-- A map from names to the lines that declare them.
use Rattle.std.specs.Prelude.{◌≡◌, ◌⊎◌, ℕ, List, [], ◌∷◌, ◌++◌, Option, Some, None, Ok, bytes_eq, ◌+◌, length}
use Rattle.std.proofs.Common.{Bor}
use Rattle.std.specs.HashMap.{HashMap, get_by}
use Rattle.fixed_constants.specs.Constants.{ConstantParts, HasFault, IsNamedOn, IsPassedOver, Says}
use Rattle.fixed_constants.specs.declared.fault.ConstantsError.{ConstantsError}
use Rattle.fixed_constants.specs.declared.fault.ConstantsError.TheVariants.{Refused, NoMemory}

-- the line of a name in a map
abbrev pub line_of : {S : Type 0} → HashMap (Bor (List ℕ)) ℕ S → List ℕ → Option ℕ
line_of m name = get_by (λ k. bytes_eq name k.now) m

-- the result for one name: the first of these lines that names it
abbrev pub IsLineOf : List (List ℕ) → List ℕ → Option ℕ → Type 0
IsLineOf before name (Some p) = IsNamedOn before name p
IsLineOf before name None = (p : ℕ) → ¬ IsNamedOn before name p

-- the map gives, for each name, the first of these lines that declares it
abbrev pub Knows : {S : Type 0} → List (List ℕ) → HashMap (Bor (List ℕ)) ℕ S → Type 0
Knows before m = (name : List ℕ) → IsLineOf before name (line_of m name)

-- `Holds` is true of the lines before line `number`, whatever they are, if the map knows their names
abbrev pub AtLine : {S : Type 0} → ℕ → HashMap (Bor (List ℕ)) ℕ S → (List (List ℕ) → Type 0) → Type 0
AtLine number known Holds = (before : List (List ℕ)) → Knows before known → number ≡ length before + 1 → Holds before

-- a line after the lines `before` adds a constant to a list, and its name to the map
pub record AddsConstant {S : Type 0} (before : List (List ℕ)) (line : List ℕ) (old new : List ConstantParts)
    (known : HashMap (Bor (List ℕ)) ℕ S) : Type 0 where
  pub constant : ConstantParts
  pub says : Says before line (Ok constant)
  pub added : new ≡ old ++ constant ∷ []
  pub knows : Knows (before ++ line ∷ []) known

-- a line after the lines `before` adds a constant, or is passed over and adds nothing
abbrev pub AddsLine : {S : Type 0} → List (List ℕ) → List ℕ → List ConstantParts → List ConstantParts
    → HashMap (Bor (List ℕ)) ℕ S → Type 0
AddsLine before line old new known = (IsPassedOver line × (new ≡ old) × Knows (before ++ line ∷ []) known)
    ⊎ AddsConstant before line old new known

-- the meaning of an error of a line after the lines `before`
abbrev pub IsLineError : List (List ℕ) → List ℕ → ℕ → ConstantsError → Type 0
IsLineError before line number (Refused p fault) = HasFault before line fault × (p ≡ number)
IsLineError before line number NoMemory = Unit {0}
