-- The map of names, and what each line adds to it.
use Rattle.std.proofs.Common.{◌≡◌, ℕ, ◌+◌, Bool, true, false, cond, List, [], ◌∷◌, ◌++◌, length, refl, sym, ap, ◌∙◌, subst, arith, inl, inr, append_assoc, Bor}
use Rattle.std.specs.Prelude.{Option, Some, None, bytes_eq}
use Rattle.std.proofs.lemmas.Bool.{false≢true}
use Rattle.std.specs.HashMap.{HashMap}
use Rattle.std.specs.Map.{update}
use Rattle.line_engine.specs.Lines.{lines}
use Rattle.fixed_constants.specs.Lemmas.NameLemmas.{names_one, spelled_name}
use Rattle.std.proofs.lemmas.Slice.Eq.{bytes_eq-Decides}
use Rattle.fixed_constants.specs.Constants.{ConstantParts, Declare, FailAt, HasFault, IsNamedOn, IsPassedOver, NamedFrom, Names, Spells}
use Rattle.fixed_constants.specs.Inner.Known.{AddsConstant, AddsLine, IsLineOf, Knows, line_of}
use Rattle.fixed_constants.specs.declared.fault.ConstantFault.{ConstantFault}

-- ---- the names that lines declare
pub named_longer : (n : ℕ) (before : List (List ℕ)) (line name : List ℕ) (p : ℕ) → NamedFrom n before name p → NamedFrom n (before ++ line ∷ []) name p
named_longer n [] line name p h = absurd h
named_longer n (l ∷ ls) line name p (inl h) = inl h
named_longer n (l ∷ ls) line name p (inr h) = inr (h.0, named_longer (n + 1) ls line name p h.1)

pub named_back : (n : ℕ) (before : List (List ℕ)) (line name : List ℕ) (p : ℕ) → (Names line name → ⊥) → NamedFrom n (before ++ line ∷ []) name p → NamedFrom n before name p
named_back n [] line name p never (inl h) = absurd (never h.0)
named_back n [] line name p never (inr h) = absurd h.1
named_back n (l ∷ ls) line name p never (inl h) = inl h
named_back n (l ∷ ls) line name p never (inr h) = inr (h.0, named_back (n + 1) ls line name p never h.1)

pub named_here : (n : ℕ) (before : List (List ℕ)) (line name : List ℕ) (p : ℕ) → ((q : ℕ) → NamedFrom n before name q → ⊥) → Names line name → p ≡ n + length before → NamedFrom n (before ++ line ∷ []) name p
named_here n [] line name p none h e = inl (h, omega (arith, e))
named_here n (l ∷ ls) line name p none h e =
    let never : Names l name → ⊥ = λ names. none n (inl (names, refl)) in
    inr (never, named_here (n + 1) ls line name p (λ q at. none q (inr (never, at))) h (omega (arith, e)))

-- ---- one more line
still : (before : List (List ℕ)) (line name : List ℕ) (o : Option ℕ) → (Names line name → ⊥) → IsLineOf before name o → IsLineOf (before ++ line ∷ []) name o
still before line name None never h = λ p at. h p (named_back 1 before line name p never at)
still before line name (Some p) never h = named_longer 1 before line name p h

pub knows_passed : {S : Type 0} (before : List (List ℕ)) (line : List ℕ) (m : HashMap (Bor (List ℕ)) ℕ S) → IsPassedOver line → Knows before m → Knows (before ++ line ∷ []) m
knows_passed before line m passed knows name = still before line name (line_of m name) (λ names. names.spoken passed) (knows name)

differ : (name x : List ℕ) → bytes_eq name x ≡ false → name ≡ x → ⊥
differ name x e same = false≢true (sym e ∙ (bytes_eq-Decides name x).1 same)

-- a line with a new name declares it
pub knows_declared : {S : Type 0} (before : List (List ℕ)) (line name : List ℕ) (number : ℕ) (m n : HashMap (Bor (List ℕ)) ℕ S) → Names line name → Knows before m → None ≡ line_of m name → number ≡ length before + 1
    → ((q : List ℕ) → line_of n q ≡ update bytes_eq (line_of m) name (Some number) q) → Knows (before ++ line ∷ []) n
knows_declared before line name number m n names knows old place updates q =
    let P : Option ℕ → Type 0 = λ o. IsLineOf (before ++ line ∷ []) q o in
    subst P (sym (updates q)) (by_test (bytes_eq name q) refl)
  where
    by_test : (b : Bool) → bytes_eq name q ≡ b → IsLineOf (before ++ line ∷ []) q (cond b (Some number) (line_of m q))
    by_test true e =
        let same : name ≡ q = (bytes_eq-Decides name q).0 e in
        let H : Option ℕ → Type 0 = λ o. IsLineOf before name o in
        let none : (p : ℕ) → NamedFrom 1 before name p → ⊥ = subst H (sym old) (knows name) in
        let N : List ℕ → Type 0 = λ x. NamedFrom 1 (before ++ line ∷ []) x number in
        subst N same (named_here 1 before line name number none names (omega (arith, place)))
    by_test false e = still before line q (line_of m q) (λ other. differ name q e (names_one line name q names other)) (knows q)

-- ---- one line, and the lines after it
pub record Continues (before : List (List ℕ)) (line : List ℕ) (old new : List ConstantParts) : Type 0 where
  pub declare : (rest : List (List ℕ)) (all : List ℕ) (more : List ConstantParts) → ((u : List ConstantParts) → Declare before (line ∷ rest) u → Declare [] (lines all) (old ++ u)) → Declare (before ++ line ∷ []) rest more → Declare [] (lines all) (new ++ more)
  pub fail : (rest : List (List ℕ)) (p : ℕ) (fault : ConstantFault) → FailAt (before ++ line ∷ []) rest p fault → FailAt before (line ∷ rest) p fault

pub line_continues : {S : Type 0} (before : List (List ℕ)) (line : List ℕ) (old new : List ConstantParts) (known : HashMap (Bor (List ℕ)) ℕ S) → AddsLine before line old new known → Continues before line old new
line_continues before line old new known (inl h) = record {
  declare = λ rest all more go d. let P : List ConstantParts → Type 0 = λ t. Declare [] (lines all) (t ++ more) in subst P (sym h.1) (go more (inl (h.0, d)));
  fail = λ rest p fault f. inr (inl h.0, f);
}
line_continues before line old new known (inr h) = record {
  declare = λ rest all more go d.
      let P : List ConstantParts → Type 0 = λ t. Declare [] (lines all) t in
      let e : old ++ h.constant ∷ more ≡ new ++ more = sym (append_assoc old (h.constant ∷ []) more) ∙ ap (λ t. t ++ more) (sym h.added) in
      subst P e (go (h.constant ∷ more) (inr (h.constant, more, h.says, refl, d)));
  fail = λ rest p fault f. inr (inr (h.constant, h.says), f);
}

pub line_knows : {S : Type 0} (before : List (List ℕ)) (line : List ℕ) (old new : List ConstantParts) (known : HashMap (Bor (List ℕ)) ℕ S) → AddsLine before line old new known → Knows (before ++ line ∷ []) known
line_knows before line old new known (inl h) = h.2
line_knows before line old new known (inr h) = h.knows

-- a fault of the line is the first fault from this line on
pub fault_here : (before rest : List (List ℕ)) (line : List ℕ) (number p : ℕ) (fault : ConstantFault) → HasFault before line fault → p ≡ number → number ≡ length before + 1 → FailAt before (line ∷ rest) p fault
fault_here before rest line number p fault has same place = inl (has, same ∙ place)

-- none of the lines declares a name that is not in the map
pub not_named : {S : Type 0} (before : List (List ℕ)) (name : List ℕ) (m : HashMap (Bor (List ℕ)) ℕ S) → Knows before m → None ≡ line_of m name → (p : ℕ) → IsNamedOn before name p → ⊥
not_named before name m knows old = let H : Option ℕ → Type 0 = λ o. IsLineOf before name o in subst H (sym old) (knows name)

pub adds_declared : {S : Type 0} (before : List (List ℕ)) (line : List ℕ) (c : ConstantParts) (number : ℕ) (old new : List ConstantParts) (m n : HashMap (Bor (List ℕ)) ℕ S) → Spells line c → Knows before m → None ≡ line_of m c.name → number ≡ length before + 1
    → ((q : List ℕ) → line_of n q ≡ update bytes_eq (line_of m) c.name (Some number) q) → new ≡ old ++ c ∷ [] → AddsConstant before line old new n
adds_declared before line c number old new m n spells knows none place updates added = record {
  constant = c;
  says = (spells, not_named before c.name m knows none);
  added = added;
  knows = knows_declared before line c.name number m n (spelled_name line c spells) knows none place updates;
}
