-- The cells of a text, read line by line.
use Rattle.std.proofs.Common.{◌≡◌, ◌≤◌, ◌<◌, ◌+◌, arith, ℕ, List, [], ◌∷◌, ◌++◌, length, refl, sym, ap, ◌∙◌, subst, append_assoc, append-nil, inl, inr}
use Rattle.line_engine.specs.Lines.{lines}
use Rattle.fixed_columns.specs.Cells.{CellParts}
use Rattle.fixed_columns.specs.Rows.{FailAt, HasFault, IsCellsOf, IsFaultOf, SpellAll, Spells}
use Rattle.fixed_columns.specs.declared.fault.CellFault.{CellFault}

-- the first `number` lines of the text spell `cells`, and the cells or the fault of the rest complete the text
pub record ReadUpTo (text rest : List ℕ) (number : ℕ) (cells : List CellParts) : Type 0 where
  pub room : number + length rest ≤ length text
  pub cells_of : (more : List CellParts) → SpellAll (lines rest) more → SpellAll (lines text) (cells ++ more)
  pub fault_of : (p : ℕ) (fault : CellFault) → FailAt (number + 1) (lines rest) p fault → FailAt 1 (lines text) p fault

-- one more line
pub one_read : (text rest line after : List ℕ) (number next : ℕ) (cells new : List CellParts) (c : CellParts) → lines rest ≡ line ∷ lines after → length after < length rest → next ≡ number + 1 → Spells line c → new ≡ cells ++ c ∷ [] → ReadUpTo text rest number cells → ReadUpTo text after next new
one_read text rest line after number next cells new c split shorter is spells added before =
    let A : List (List ℕ) → Type 0 = λ ls. (more : List CellParts) → SpellAll ls more → SpellAll (lines text) (cells ++ more) in
    let whole = subst A split before.cells_of in
    let F : List (List ℕ) → Type 0 = λ ls. (p : ℕ) (fault : CellFault) → FailAt (number + 1) ls p fault → FailAt 1 (lines text) p fault in
    let failing = subst F split before.fault_of in
    let T : List CellParts → Type 0 = λ t. SpellAll (lines text) t in
    let N : ℕ → Type 0 = λ n. (p : ℕ) (fault : CellFault) → FailAt (n + 1) (lines after) p fault → FailAt 1 (lines text) p fault in
    record {
      room = let r = before.room in omega (arith, r, shorter, is);
      cells_of = λ more h.
          let same : cells ++ c ∷ more ≡ new ++ more = sym (append_assoc cells (c ∷ []) more) ∙ ap (λ t. t ++ more) (sym added) in
          subst T same (whole (c ∷ more) (c, more, spells, refl, h));
      fault_of = subst N (sym is) (λ p fault h. failing p fault (inr ((c, spells), h)));
    }

-- a line with a fault
pub fault_here : (text rest line after : List ℕ) (number next : ℕ) (cells : List CellParts) (fault : CellFault) → lines rest ≡ line ∷ lines after → next ≡ number + 1 → HasFault line fault → ReadUpTo text rest number cells → IsFaultOf text next fault
fault_here text rest line after number next cells fault split is has before =
    let F : List (List ℕ) → Type 0 = λ ls. FailAt (number + 1) ls next fault → FailAt 1 (lines text) next fault in
    subst F split (before.fault_of next fault) (inl (has, is))

-- no line is left if the rest is empty
nothing : (rest : List ℕ) → length rest ≡ 0 → rest ≡ []
nothing [] none = refl
nothing (b ∷ rest) none = absurd (omega (arith, none))

pub all_read : (text rest : List ℕ) (number : ℕ) (cells : List CellParts) → length rest ≡ 0 → ReadUpTo text rest number cells → IsCellsOf text cells
all_read text rest number cells none before =
    let E : List ℕ → Type 0 = λ r. SpellAll (lines r) [] in
    let T : List CellParts → Type 0 = λ t. SpellAll (lines text) t in
    subst T (append-nil cells) (before.cells_of [] (subst E (sym (nothing rest none)) refl))
