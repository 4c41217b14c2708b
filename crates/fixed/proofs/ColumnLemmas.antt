-- The columns that a list of operands names.
use Rattle.std.proofs.Common.{◌≡◌, ◌++◌, ◌∙◌, ◌<◌, ◌+◌, ℕ, suc, zero, Bool, Bor, List, [], ◌∷◌, length, get_or, map, take, ap, subst, sym, arith}
use Rattle.std.proofs.lemmas.List.{get_or-map, length-map, map_more}
use Rattle.column_engine.specs.declared.columns.Column.{Column}
use Rattle.fixed.specs.Columns.{AreColumnWords, IsColumnWord, IsRangeWord}

-- one more operand and its column
pub words_more : (header : Bool) (words : List (List ℕ)) (columns : List Column) (word : List ℕ) (column : Column) → AreColumnWords header words columns
    → IsColumnWord IsRangeWord header word column → AreColumnWords header (words ++ word ∷ []) (columns ++ column ∷ [])
words_more header [] [] word column x y = (y, tt)
words_more header [] (c ∷ cs) word column x y = absurd x
words_more header (w ∷ ws) [] word column x y = absurd x
words_more header (w ∷ ws) (c ∷ cs) word column x y = (x.0, words_more header ws cs word column x.1 y)

-- each operand has a column
pub word_in : (header : Bool) (words : List (List ℕ)) (columns : List Column) (at : ℕ) (d : List ℕ) → at < length words → AreColumnWords header words columns
    → (column : Column) × IsColumnWord IsRangeWord header (get_or words at d) column
word_in header [] columns at d low x = absurd (omega arith)
word_in header (w ∷ ws) [] at d low x = absurd x
word_in header (w ∷ ws) (c ∷ cs) zero d low x = (c, x.0)
word_in header (w ∷ ws) (c ∷ cs) (suc at) d low x = word_in header ws cs at d (omega arith) x.1

-- the operands, as texts
abbrev pub texts : List (Bor (List ℕ)) → List (List ℕ)
texts parts = map (λ s. s.now) parts

pub parts_more : (header : Bool) (parts : List (Bor (List ℕ))) (at : ℕ) (part : Bor (List ℕ)) (columns more : List Column) (column : Column)
    → at < length parts → part ≡ get_or parts at part → AreColumnWords header (texts (take at parts)) columns
    → IsColumnWord IsRangeWord header part.now column → more ≡ columns ++ column ∷ [] → AreColumnWords header (texts (take (at + 1) parts)) more
parts_more header parts at part columns more column low is x y e =
    let text : Bor (List ℕ) → List ℕ = λ s. s.now in
    let one : texts (take (at + 1) parts) ≡ texts (take at parts) ++ part.now ∷ [] =
    map_more text parts at part low ∙ ap (λ (s : Bor (List ℕ)). texts (take at parts) ++ s.now ∷ []) (sym is) in
    subst (AreColumnWords header (texts (take (at + 1) parts))) (sym e)
    (subst (λ (l : List (List ℕ)). AreColumnWords header l (columns ++ column ∷ [])) (sym one) (words_more header (texts (take at parts)) columns part.now column x y))

pub part_in : (header : Bool) (parts : List (Bor (List ℕ))) (at : ℕ) (part : Bor (List ℕ)) (words : List (List ℕ)) (columns : List Column)
    → at < length parts → part ≡ get_or parts at part → texts parts ≡ words → AreColumnWords header words columns
    → (column : Column) × IsColumnWord IsRangeWord header part.now column
part_in header parts at part words columns low is e x =
    let text : Bor (List ℕ) → List ℕ = λ s. s.now in
    let found = word_in header (texts parts) columns at part.now
    (omega (arith, length-map parts text, low)) (subst (λ (l : List (List ℕ)). AreColumnWords header l columns) (sym e) x) in
    let same : get_or (texts parts) at part.now ≡ part.now = get_or-map text parts at part part.now low ∙ ap text (sym is) in
    (found.0, subst (λ (l : List ℕ). IsColumnWord IsRangeWord header l found.0) same found.1)
