-- The text made of packed lines is determined.
use Rattle.std.proofs.Common.{◌≡◌, ◌∙◌, ◌+◌, ℕ, List, [], ◌∷◌, ◌++◌, Bool, true, false, ap, append_assoc, length, refl}
use Rattle.std.proofs.Common.{sym, subst, take}
use Rattle.line_engine.proofs.Public.{ended_lines-append}
use Rattle.line_engine.specs.Lines.{ended_lines, last_line, lines, unended}
use Rattle.run_engine.specs.Machines.{Agree, How, going, finished, lacking, stopped}
use Rattle.fixed_pack.specs.Lemmas.RecodedLaws.{both}
use Rattle.fixed_pack.specs.Pack.{AreWordsOf}
use Rattle.fixed_pack.specs.Packed.{MakesPacked, Packs, Refusal, StopsAt}
use Rattle.fixed_pack.specs.Recoded.{capped}
use Rattle.fixed_pack.specs.Word.{joined}
use Rattle.fixed_pack.specs.declared.packer.Packer.{Packer}

pub words_are_one : (P : List ℕ → List ℕ → Type 0) → ((line a b : List ℕ) → P line a → P line b → a ≡ b)
    → (ls ts us : List (List ℕ)) → AreWordsOf P ls ts → AreWordsOf P ls us → ts ≡ us
words_are_one P one [] [] [] p q = refl
words_are_one P one [] [] (u ∷ us) p q = absurd q
words_are_one P one [] (t ∷ ts) us p q = absurd p
words_are_one P one (l ∷ ls) [] us p q = absurd p
words_are_one P one (l ∷ ls) (t ∷ ts) [] p q = absurd q
words_are_one P one (l ∷ ls) (t ∷ ts) (u ∷ us) p q =
    both t u ts us (one l t u p.0 q.0) (words_are_one P one ls ts us p.1 q.1)

module _ {C : Type 0} (P : List ℕ → List ℕ → Type 0) (F : List ℕ → C → Type 0)
    (one : (line a b : List ℕ) → P line a → P line b → a ≡ b)
    (cause_one : (line : List ℕ) (a b : C) → F line a → F line b → a ≡ b)
    (never : (line word : List ℕ) (why : C) → P line word → F line why → ⊥) where
  packs_one : (ls : List (List ℕ)) (xs ys : List ℕ) → Packs P ls xs → Packs P ls ys → xs ≡ ys
  packs_one ls xs ys p q =
      p.text_is ∙ (ap joined (words_are_one P one ls p.words q.words p.are q.are) ∙ sym q.text_is)

  -- none of the packed lines is refused
  none_among : (before : List (List ℕ)) (line : List ℕ) (after ts : List (List ℕ)) (c : C)
      → AreWordsOf P (before ++ line ∷ after) ts → F line c → ⊥
  none_among [] line after [] c are refused = are
  none_among [] line after (t ∷ ts) c are refused = never line t c are.0 refused
  none_among (l ∷ before) line after [] c are refused = are
  none_among (l ∷ before) line after (t ∷ ts) c are refused = none_among before line after ts c are.1 refused

  -- the first line that is refused
  record AreSame (before : List (List ℕ)) (line : List ℕ) (then : List (List ℕ)) (other : List ℕ) : Type 0 where
    before_is : before ≡ then
    line_is : line ≡ other

  split_one : (before : List (List ℕ)) (line : List ℕ) (after then : List (List ℕ)) (other : List ℕ)
      (rest ts us : List (List ℕ)) (c d : C) → before ++ line ∷ after ≡ then ++ other ∷ rest → AreWordsOf P before ts
      → AreWordsOf P then us → F line c → F other d → AreSame before line then other
  split_one [] line after [] other rest ts us c d e p q x y =
      record { before_is = refl; line_is = let same : line ≡ other = cc in same }
  split_one [] line after (k ∷ then) other rest ts [] c d e p q x y = absurd q
  split_one [] line after (k ∷ then) other rest ts (u ∷ us) c d e p q x y =
      let same : k ≡ line = cc in absurd (never line u c (subst (λ l. P l u) same q.0) x)
  split_one (l ∷ before) line after [] other rest [] us c d e p q x y = absurd p
  split_one (l ∷ before) line after [] other rest (t ∷ ts) us c d e p q x y =
      let same : l ≡ other = cc in absurd (never other t d (subst (λ l. P l t) same p.0) y)
  split_one (l ∷ before) line after (k ∷ then) other rest [] us c d e p q x y = absurd p
  split_one (l ∷ before) line after (k ∷ then) other rest (t ∷ ts) [] c d e p q x y = absurd q
  split_one (l ∷ before) line after (k ∷ then) other rest (t ∷ ts) (u ∷ us) c d e p q x y =
      let head : l ≡ k = cc in
      let tail : before ++ line ∷ after ≡ then ++ other ∷ rest = cc in
      let s = split_one before line after then other rest ts us c d tail p.1 q.1 x y in
      record { before_is = both l k before then head s.before_is; line_is = s.line_is }

  same_stop : (bytes made other : List ℕ) (late later : Bool) (r s : Refusal C) (k l : List ℕ) → late ≡ later
      → (m : StopsAt P F bytes made late r k) → (n : StopsAt P F bytes other later s l)
      → AreSame m.before m.line n.before n.line → (late ≡ later) × (made ≡ other) × (r ≡ s) × (k ≡ l)
  same_stop bytes made other late later r s k l e m n same =
      let with : ℕ → C → Refusal C = λ i c. record { number = i; cause = c } in
      let number : r.number ≡ s.number = m.is.number_is ∙ (ap (λ ls. capped (length ls + 1)) same.before_is
      ∙ sym n.is.number_is) in
      let cause : r.cause ≡ s.cause = cause_one n.line r.cause s.cause (subst (λ l. F l r.cause) same.line_is m.is.why)
      n.is.why in (
        e,
        packs_one n.before made other (subst (λ ls. Packs P ls made) same.before_is m.packs) n.packs,
        ap (λ i. with i r.cause) number ∙ ap (λ c. with s.number c) cause,
        m.is.kept_is ∙ (ap (take 160) same.line_is ∙ sym n.is.kept_is),
      )

  last_of : (x y : List ℕ) (ls : List (List ℕ)) → ls ≡ x ∷ [] → ls ≡ y ∷ [] → x ≡ y
  last_of x y ls p q = let same : x ∷ [] ≡ y ∷ [] = sym p ∙ q in cc

  pub stops_one : (bytes made other : List ℕ) (late later : Bool) (r s : Refusal C) (k l : List ℕ)
      → StopsAt P F bytes made late r k → StopsAt P F bytes other later s l
      → (late ≡ later) × (made ≡ other) × (r ≡ s) × (k ≡ l)
  stops_one bytes made other false false r s k l m n =
      same_stop bytes made other false false r s k l refl m n
      (split_one m.before m.line m.after n.before n.line n.after m.packs.words n.packs.words r.cause s.cause
      (sym m.stands ∙ n.stands) m.packs.are n.packs.are m.is.why n.is.why)
  stops_one bytes made other true true r s k l m n =
      same_stop bytes made other true true r s k l refl m n (record {
        before_is = m.stands.0 ∙ sym n.stands.0;
        line_is = last_of m.line n.line (last_line (unended bytes)) m.stands.1 n.stands.1;
      })
  stops_one bytes made other false true r s k l m n =
      absurd (none_among m.before m.line m.after n.packs.words r.cause
      (subst (λ ls. AreWordsOf P ls n.packs.words) (n.stands.0 ∙ m.stands) n.packs.are) m.is.why)
  stops_one bytes made other true false r s k l m n =
      absurd (none_among n.before n.line n.after m.packs.words s.cause
      (subst (λ ls. AreWordsOf P ls m.packs.words) (m.stands.0 ∙ n.stands) m.packs.are) n.is.why)

  -- if each ended line is packed, only the last can be refused
  only_last : (bytes made other : List ℕ) (late : Bool) (r : Refusal C) (k : List ℕ) → Packs P (ended_lines bytes) made
      → StopsAt P F bytes other late r k → late ≡ true
  only_last bytes made other true r k p m = refl
  only_last bytes made other false r k p m = absurd (none_among m.before m.line m.after p.words r.cause
      (subst (λ ls. AreWordsOf P ls p.words) m.stands p.are) m.is.why)

  first_of : (ls ms ts : List (List ℕ)) → AreWordsOf P (ls ++ ms) ts → (us : List (List ℕ)) × AreWordsOf P ls us
  first_of [] ms ts are = ([], tt)
  first_of (l ∷ ls) ms [] are = absurd are
  first_of (l ∷ ls) ms (t ∷ ts) are = let rest = first_of ls ms ts are.1 in (t ∷ rest.0, (are.0, rest.1))

  not_refused : (bytes made other : List ℕ) (late : Bool) (r : Refusal C) (k : List ℕ) → Packs P (lines bytes) made
      → StopsAt P F bytes other late r k → ⊥
  not_refused bytes made other false r k p m =
      let some = first_of (ended_lines bytes) (last_line (unended bytes)) p.words p.are in
      none_among m.before m.line m.after some.0 r.cause (subst (λ ls. AreWordsOf P ls some.0) m.stands some.1) m.is.why
  not_refused bytes made other true r k p m =
      none_among (ended_lines bytes) m.line [] p.words r.cause
      (subst (λ ls. AreWordsOf P (ended_lines bytes ++ ls) p.words) m.stands.1 p.are) m.is.why

  module _ {Q : Type 0} (rule : Q) (a b : Packer Q) where
    -- why a machine stopped, with the number that it keeps
    abbrev refused : Packer Q → C → Refusal C
    refused it why = record { number = it.lines; cause = why }

    pub packed_one : (bytes made other : List ℕ) (spent cost : ℕ) (how then : How C)
        → MakesPacked P F rule bytes made spent how a → MakesPacked P F rule bytes other cost then b
        → Agree how made then other
    packed_one bytes made other spent cost going going p q = packs_one (ended_lines bytes) made other p.packs q.packs
    packed_one bytes made other spent cost going (finished g) p q = tt
    packed_one bytes made other spent cost going lacking p q = tt
    packed_one bytes made other spent cost going (stopped late s) p q =
        only_last bytes made other late (refused b s) b.kept p.packs q
    packed_one bytes made other spent cost (finished f) going p q = tt
    packed_one bytes made other spent cost (finished f) (finished g) p q =
        (packs_one (lines bytes) made other p.0 q.0, p.1 ∙ sym q.1)
    packed_one bytes made other spent cost (finished f) lacking p q = tt
    packed_one bytes made other spent cost (finished f) (stopped late s) p q =
        absurd (not_refused bytes made other late (refused b s) b.kept p.0 q)
    packed_one bytes made other spent cost lacking then p q = tt
    packed_one bytes made other spent cost (stopped late r) going p q =
        only_last bytes other made late (refused a r) a.kept q.packs p
    packed_one bytes made other spent cost (stopped late r) (finished g) p q =
        absurd (not_refused bytes other made late (refused a r) a.kept q.0 p)
    packed_one bytes made other spent cost (stopped late r) lacking p q = tt
    packed_one bytes made other spent cost (stopped late r) (stopped later s) p q =
        let same = stops_one bytes made other late later (refused a r) (refused b s) a.kept b.kept p q in
        let cause : r ≡ s = ap (λ (it : Refusal C). it.cause) same.2 in (same.0, same.1, cause)

-- a line that was refused stays refused, whatever follows
pub packed_stays : {C : Type 0} (P : List ℕ → List ℕ → Type 0) (F : List ℕ → C → Type 0) (bytes more text : List ℕ)
    (r : Refusal C) (k : List ℕ) → StopsAt P F bytes text false r k → StopsAt P F (bytes ++ more) text false r k
packed_stays P F bytes more text r k m = record {
  before = m.before;
  line = m.line;
  after = m.after ++ ended_lines (unended bytes ++ more);
  stands = ended_lines-append bytes more ∙ (ap (λ ls. ls ++ ended_lines (unended bytes ++ more)) m.stands
      ∙ append_assoc m.before (m.line ∷ m.after) (ended_lines (unended bytes ++ more)));
  packs = m.packs;
  is = m.is;
}
