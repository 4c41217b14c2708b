-- A list of cells in order is determined by how often it contains each cell.
use Rattle.std.specs.Prelude.{◌≡◌, ◌+◌, ◌<◌, ℕ, suc, Bool, false, cond, List, [], ◌∷◌, length, get_or}
use Rattle.std.proofs.Common.{refl, sym, ap, ◌∙◌, subst, arith}
use Rattle.std.specs.Cmp.{IsStrictWeakOrder}
use Rattle.std.specs.declared.cmp.Ordering.{Ordering}
use Rattle.std.specs.declared.cmp.Ordering.TheVariants.{Less, Equal, Greater}
use Rattle.std.specs.Ordering.{is_eq, is_lt, ordering_reverse}
use Rattle.std.proofs.lemmas.List.Sums.{sum_by-cons}
use Rattle.std.proofs.lemmas.List.Sorted.{ranks_by, sorted_far}
use Rattle.fixed_columns.specs.Cells.{CellParts, HoldsAsOften, IsInOrder, cell_order, times}
use Rattle.fixed_columns.specs.Lemmas.OrderLemmas.{cell_total, same_cell, itself}

abbrev pub one_of : CellParts → CellParts → ℕ
one_of c x = cond (is_eq (cell_order x c)) 1 0

pub times_cons : (c x : CellParts) (xs : List CellParts) → times c (x ∷ xs) ≡ one_of c x + times c xs
times_cons c x xs = sum_by-cons (one_of c) x xs

pub times_head : (x : CellParts) (xs : List CellParts) → times x (x ∷ xs) ≡ 1 + times x xs
times_head x xs =
    let O : Ordering → ℕ = λ o. cond (is_eq o) 1 0 + times x xs in
    times_cons x x xs ∙ ap O (itself x)

-- a cell that occurs has an index
pub record IsAt (c : CellParts) (xs : List CellParts) : Type 0 where
  pub place : ℕ
  pub below : place < length xs
  pub is : (d : CellParts) → get_or xs place d ≡ c

at_by : (c x : CellParts) (xs : List CellParts) (o : Ordering) → cell_order x c ≡ o
    → 0 < cond (is_eq o) 1 0 + times c xs → (0 < times c xs → IsAt c xs) → IsAt c (x ∷ xs)
at_by c x xs Equal e some rest = record { place = 0; below = omega arith; is = λ d. same_cell x c e }
at_by c x xs Less e some rest = let h = rest (omega (arith, some))
    in record { place = suc h.place; below = let b = h.below in omega (arith, b); is = h.is }
at_by c x xs Greater e some rest = let h = rest (omega (arith, some))
    in record { place = suc h.place; below = let b = h.below in omega (arith, b); is = h.is }

pub occurs : (c : CellParts) (xs : List CellParts) → 0 < times c xs → IsAt c xs
occurs c [] some = absurd (omega (arith, some))
occurs c (x ∷ xs) some =
    let P : ℕ → Type 0 = λ n. 0 < n in
    at_by c x xs (cell_order x c) refl (subst P (times_cons c x xs) some) (occurs c xs)

weak : IsStrictWeakOrder (λ x y. is_lt (cell_order x y))
weak = ranks_by cell_total (λ (c : CellParts). c)

-- no cell of a list in order is less than its first
first_least : (c x : CellParts) (xs : List CellParts) → IsInOrder (x ∷ xs) → IsAt c (x ∷ xs)
    → is_lt (cell_order c x) ≡ false
first_least c x xs up at =
    let L : CellParts → Bool = λ y. is_lt (cell_order y x) in
    let far = sorted_far (λ x y. is_lt (cell_order x y)) weak (x ∷ xs) (λ k d low high. up k d high) 0 at.place x
    (omega arith) at.below in
    sym (ap L (at.is x)) ∙ far

tied : (o r : Ordering) → is_lt o ≡ false → is_lt r ≡ false → o ≡ ordering_reverse r → o ≡ Equal
tied Less r a b e = absurd cc
tied Equal r a b e = refl
tied Greater Less a b e = absurd cc
tied Greater Equal a b e = e
tied Greater Greater a b e = absurd cc

first_one : (x y : CellParts) (xs ys : List CellParts) → HoldsAsOften (x ∷ xs) (y ∷ ys) → IsInOrder (x ∷ xs)
    → IsInOrder (y ∷ ys) → x ≡ y
first_one x y xs ys same up vp =
    let a : 0 < times x (y ∷ ys) = omega (arith, same x, times_head x xs) in
    let b : 0 < times y (x ∷ xs) = omega (arith, same y, times_head y ys) in
    let p = first_least x y ys vp (occurs x (y ∷ ys) a) in
    let q = first_least y x xs up (occurs y (x ∷ xs) b) in
    same_cell x y (tied (cell_order x y) (cell_order y x) p q (cell_total.antisymm x y))

rest_up : (x : CellParts) (xs : List CellParts) → IsInOrder (x ∷ xs) → IsInOrder xs
rest_up x xs up k d below =
    let next : suc k + 1 < suc (length xs) = omega (arith, below) in
    let same : suc k + 1 ≡ suc (k + 1) = omega arith in
    let P : ℕ → Type 0 = λ n. is_lt (cell_order (get_or (x ∷ xs) n d) (get_or xs k d)) ≡ false in
    subst P same (up (suc k) d next)

pub sorted_one : (xs ys : List CellParts) → HoldsAsOften xs ys → IsInOrder xs → IsInOrder ys → xs ≡ ys
sorted_one [] [] same up vp = refl
sorted_one [] (y ∷ ys) same up vp = absurd (omega (arith, same y, times_head y ys))
sorted_one (x ∷ xs) [] same up vp = absurd (omega (arith, same x, times_head x xs))
sorted_one (x ∷ xs) (y ∷ ys) same up vp =
    let first : x ≡ y = first_one x y xs ys same up vp in
    let rest : HoldsAsOften xs ys = λ c. omega (
      arith,
      same c,
      times_cons c x xs,
      times_cons c y ys,
      ap (one_of c) first,
    ) in
    let tail : xs ≡ ys = sorted_one xs ys rest (rest_up x xs up) (rest_up y ys vp) in
    let C : CellParts → List CellParts → List CellParts = λ z zs. z ∷ zs in
    ap (λ z. C z xs) first ∙ ap (λ zs. C y zs) tail

-- two lists in order with the cells of one list are the same
pub both_sorted : (cells xs ys : List CellParts) → HoldsAsOften cells xs → HoldsAsOften cells ys → IsInOrder xs
    → IsInOrder ys → xs ≡ ys
both_sorted cells xs ys a b up vp = let same : HoldsAsOften xs ys = λ c. b c ∙ sym (a c) in sorted_one xs ys same up vp
