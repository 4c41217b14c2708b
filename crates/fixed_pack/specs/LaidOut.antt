-- Lines as people write them, packed by a rule over their numerals.
use Rattle.std.specs.Prelude.{◌≡◌, ℕ, List, [], Bool, true, false}
use Rattle.fixed_command.specs.Layout.{LineLayout, is_skipped, without_blanks}

-- the bytes of a line, by whether it is skipped: none, or those of the line without blanks
abbrev pub PacksBy : Bool → LineLayout → (List ℕ → List ℕ → Type 0) → List ℕ → List ℕ → Type 0
PacksBy true l P line word = word ≡ []
PacksBy false l P line word = P (without_blanks l line) word

abbrev pub PacksLaidOut : LineLayout → (List ℕ → List ℕ → Type 0) → List ℕ → List ℕ → Type 0
PacksLaidOut l P line word = PacksBy (is_skipped l line) l P line word

-- the cause for which a line is refused: a skipped one never is
abbrev pub RefusesBy : {C : Type 0} → Bool → LineLayout → (List ℕ → C → Type 0) → List ℕ → C → Type 0
RefusesBy true l F line why = ⊥
RefusesBy false l F line why = F (without_blanks l line) why

abbrev pub RefusesLaidOut : {C : Type 0} → LineLayout → (List ℕ → C → Type 0) → List ℕ → C → Type 0
RefusesLaidOut l F line why = RefusesBy (is_skipped l line) l F line why
