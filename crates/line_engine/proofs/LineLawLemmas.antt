-- The laws of the lines of an input.
use Rattle.std.proofs.Common.{◌≡◌, ℕ, zero, suc, Bool, true, false, eqb, List, [], ◌∷◌, ◌++◌, refl, sym, ap, ◌∙◌, append_assoc, flat_map, Contains, ⊎_elim, inl, inr, ◌<◌, ◌⊎◌, subst, arith}
use Rattle.std.proofs.lemmas.List.Elements.{Contains-append_cases}
use Rattle.line_engine.specs.LineLaws.{with_newline, LinesAreTheInput, NoLineHoldsNewline, CutAnywhere}
use Rattle.line_engine.specs.Lines.{ended_lines, last_line, lines, onto_first, onto_rest, unended}
use Rattle.line_engine.proofs.ChunkLemmas.{ten}
use Rattle.line_engine.proofs.LineLemmas.{ended_lines-append, ended_newline, ended_other, unended-append, unended_newline, unended_other}

pub cut_anywhere : CutAnywhere
cut_anywhere first rest = record {
  ended = ended_lines-append first rest;
  remaining = unended-append first rest;
  all = ap (λ l. l ++ last_line (unended (first ++ rest))) (ended_lines-append first rest)
      ∙ append_assoc (ended_lines first) (ended_lines (unended first ++ rest)) (last_line (unended (first ++ rest)))
      ∙ ap (λ l. ended_lines first ++ (ended_lines (unended first ++ rest) ++ last_line l)) (unended-append first rest);
}

-- a byte before the first line, or before the rest if no line ended
before_all : (b : ℕ) (ls : List (List ℕ)) (rest : List ℕ) → flat_map with_newline (onto_first b ls) ++ onto_rest b ls rest ≡ b ∷ (flat_map with_newline ls ++ rest)
before_all b [] rest = refl
before_all b (line ∷ ls) rest = refl

again_by : (b : ℕ) (bytes : List ℕ) (t : Bool) → eqb b 10 ≡ t → flat_map with_newline (ended_lines bytes) ++ unended bytes ≡ bytes → flat_map with_newline (ended_lines (b ∷ bytes)) ++ unended (b ∷ bytes) ≡ b ∷ bytes
again_by b bytes true is later = rw (ended_newline b bytes is, unended_newline b bytes is) (ap (λ l. 10 ∷ l) later ∙ ap (λ x. x ∷ bytes) (sym (ten b is)))
again_by b bytes false is later = rw (ended_other b bytes is, unended_other b bytes is) (before_all b (ended_lines bytes) (unended bytes) ∙ ap (λ l. b ∷ l) later)

pub lines_are_the_input : LinesAreTheInput
lines_are_the_input [] = refl
lines_are_the_input (b ∷ bytes) = again_by b bytes (eqb b 10) refl (lines_are_the_input bytes)

-- a member of a list is its first element or one of the others
contains_cons : {X : Type 0} (x : X) (xs : List X) (y : X) → Contains (x ∷ xs) y → (x ≡ y) ⊎ Contains xs y
contains_cons x xs y (zero, below, is) = inl is
contains_cons x xs y (suc k, below, is) = inr (k, omega arith, is)

contains_later : {X : Type 0} (x : X) (xs : List X) (y : X) → Contains xs y → Contains (x ∷ xs) y
contains_later x xs y here = let below = here.1 in (suc here.0, omega arith, here.2)

-- a line that begins with another byte
other_first : (b : ℕ) (line : List ℕ) → eqb b 10 ≡ false → (Contains line 10 → ⊥) → Contains (b ∷ line) 10 → ⊥
other_first b line is none here =
    ⊎_elim
    (λ (first : b ≡ 10). let no : eqb b 10 ≡ true = rw first refl in let both : true ≡ false = sym no ∙ is in cc)
    (λ (later : Contains line 10). none later)
    (contains_cons b line 10 here)

nothing : {X : Type 0} (x : X) → Contains [] x → ⊥
nothing x here = let below : here.0 < 0 = here.1 in omega arith

-- neither a line nor the unended bytes hold a newline
record Free (lines : List (List ℕ)) (rest : List ℕ) : Type 0 where
  each : (line : List ℕ) → Contains lines line → Contains line 10 → ⊥
  remaining : Contains rest 10 → ⊥

free_newline : (lines : List (List ℕ)) (rest : List ℕ) → Free lines rest → Free ([] ∷ lines) rest
free_newline lines rest free = record {
  each = λ line here newline.
      ⊎_elim
      (λ (first : [] ≡ line). nothing 10 (subst (λ l. Contains l 10) (sym first) newline))
      (λ (later : Contains lines line). free.each line later newline)
      (contains_cons [] lines line here);
  remaining = free.remaining;
}

free_other : (b : ℕ) (lines : List (List ℕ)) (rest : List ℕ) → eqb b 10 ≡ false → Free lines rest → Free (onto_first b lines) (onto_rest b lines rest)
free_other b [] rest is free = record {
  each = λ line here newline. nothing line here;
  remaining = other_first b rest is free.remaining;
}
free_other b (first ∷ lines) rest is free = record {
  each = λ line here newline.
      ⊎_elim
      (λ (same : b ∷ first ≡ line). other_first b first is (free.each first (0, omega arith, refl)) (subst (λ l. Contains l 10) (sym same) newline))
      (λ (later : Contains lines line). free.each line (contains_later first lines line later) newline)
      (contains_cons (b ∷ first) lines line here);
  remaining = free.remaining;
}

free_by : (b : ℕ) (bytes : List ℕ) (t : Bool) → eqb b 10 ≡ t → Free (ended_lines bytes) (unended bytes) → Free (ended_lines (b ∷ bytes)) (unended (b ∷ bytes))
free_by b bytes true is free = rw (ended_newline b bytes is, unended_newline b bytes is) (free_newline (ended_lines bytes) (unended bytes) free)
free_by b bytes false is free = rw (ended_other b bytes is, unended_other b bytes is) (free_other b (ended_lines bytes) (unended bytes) is free)

free_all : (bytes : List ℕ) → Free (ended_lines bytes) (unended bytes)
free_all [] = record { each = λ line here newline. nothing line here; remaining = nothing 10 }
free_all (b ∷ bytes) = free_by b bytes (eqb b 10) refl (free_all bytes)

in_last : (rest line : List ℕ) → Contains (last_line rest) line → rest ≡ line
in_last [] line here = absurd (nothing line here)
in_last (b ∷ rest) line here =
    ⊎_elim
    (λ (same : b ∷ rest ≡ line). same)
    (λ (later : Contains [] line). absurd (nothing line later))
    (contains_cons (b ∷ rest) [] line here)

pub no_line_holds_newline : NoLineHoldsNewline
no_line_holds_newline input line here newline =
    let free : Free (ended_lines input) (unended input) = free_all input in
    ⊎_elim
    (λ (early : Contains (ended_lines input) line). free.each line early newline)
    (λ (late : Contains (last_line (unended input)) line). free.remaining (subst (λ l. Contains l 10) (sym (in_last (unended input) line late)) newline))
    (Contains-append_cases (ended_lines input) (last_line (unended input)) line here)
