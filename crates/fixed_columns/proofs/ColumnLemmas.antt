-- The text of a column, written cell by cell.
use Rattle.std.proofs.Common.{◌≡◌, ◌+◌, arith, ℕ, zero, suc, List, [], ◌∷◌, ◌++◌, drop, slice_get, Some, None, refl, sym, ap, ◌∙◌, subst, append_assoc, append-nil}
use Rattle.fixed_write.specs.declared.style.Style.{Style}
use Rattle.fixed_columns.specs.Cells.{CellParts}
use Rattle.fixed_columns.specs.ColumnText.{AppendsRow, IsColumnText}

-- the elements of a list from an index on
drop_some : (xs : List CellParts) (i : ℕ) (x : CellParts) → slice_get xs i ≡ Some x → drop i xs ≡ x ∷ drop (suc i) xs
drop_some [] i x e = absurd cc
drop_some (y ∷ ys) zero x e = let same : y ≡ x = cc in ap (λ z. z ∷ ys) same
drop_some (y ∷ ys) (suc i) x e = drop_some ys i x e

drop_none : (xs : List CellParts) (i : ℕ) → slice_get xs i ≡ None → drop i xs ≡ []
drop_none [] zero e = refl
drop_none [] (suc i) e = refl
drop_none (y ∷ ys) zero e = absurd cc
drop_none (y ∷ ys) (suc i) e = drop_none ys i e

-- the rows of the first `i` cells are written, and the text of the other cells completes the column
pub record WrittenUpTo (style : Style) (cells : List CellParts) (i : ℕ) (text : List ℕ) : Type 0 where
  pub completes : (rest : List ℕ) → IsColumnText style (drop i cells) rest → IsColumnText style cells (text ++ rest)

pub none_written : (style : Style) (cells : List CellParts) → WrittenUpTo style cells 0 []
none_written style cells = record { completes = λ rest h. h }

pub one_more : (style : Style) (cells : List CellParts) (i j : ℕ) (c : CellParts) (old new : List ℕ) → slice_get cells i ≡ Some c → j ≡ i + 1 → AppendsRow style c old new → WrittenUpTo style cells i old → WrittenUpTo style cells j new
one_more style cells i j c old new at next row before =
    let step : suc i ≡ j = omega (arith, next) in
    let P : ℕ → Type 0 = λ n. (rest : List ℕ) → IsColumnText style (drop n cells) rest → IsColumnText style cells (new ++ rest) in
    let D : List CellParts → Type 0 = λ t. (rest : List ℕ) → IsColumnText style t rest → IsColumnText style cells (old ++ rest) in
    let more : (rest : List ℕ) → IsColumnText style (c ∷ drop (suc i) cells) rest → IsColumnText style cells (old ++ rest) = subst D (drop_some cells i c at) before.completes in
    let T : List ℕ → Type 0 = λ t. IsColumnText style cells t in
    record {
      completes = subst P step (λ rest h.
          let same : old ++ (row.row ++ 10 ∷ rest) ≡ new ++ rest = sym (ap (λ (t : List ℕ). t ++ rest) row.appended ∙ (append_assoc old (row.row ++ 10 ∷ []) rest ∙ ap (λ (t : List ℕ). old ++ t) (append_assoc row.row (10 ∷ []) rest))) in
          subst T same (more (row.row ++ 10 ∷ rest) (row.row, rest, row.is, refl, h)));
    }

pub all_written : (style : Style) (cells : List CellParts) (i : ℕ) (text : List ℕ) → slice_get cells i ≡ None → WrittenUpTo style cells i text → IsColumnText style cells text
all_written style cells i text at before =
    let D : List CellParts → Type 0 = λ t. IsColumnText style t [] in
    let T : List ℕ → Type 0 = λ t. IsColumnText style cells t in
    subst T (append-nil text) (before.completes [] (subst D (sym (drop_none cells i at)) refl))
