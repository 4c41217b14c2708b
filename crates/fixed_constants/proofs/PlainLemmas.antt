-- Plain lines and plain texts, byte by byte and line by line.
use Rattle.std.proofs.Common.{◌≡◌, ◌∙◌, ◌≤◌, ◌==◌, ℕ, zero, suc, Bool, true, false, List, [], ◌∷◌, ◌++◌, if◌then◌else◌, length, drop, map, refl, sym, ap, subst, arith, append-nil, append_assoc, All, Contains}
use Rattle.std.proofs.lemmas.Bool.{false≢true}
use Rattle.std.proofs.lemmas.List.Elements.{All-append, All-cons, All-contains, All-nil}
use Rattle.fixed_respell.specs.LineWords.{space}
use Rattle.line_engine.specs.LineLaws.{LineComesFirst}
use Rattle.line_engine.specs.Lines.{lines}
use Rattle.fixed_constants.specs.Plain.{is_text, kept_text, next_place, plain_from, plain_line, plain_lines}
use Rattle.fixed_constants.specs.declared.plain.Place.{Place}
use Rattle.fixed_constants.specs.declared.plain.Place.TheVariants.{Start, Word, Gap, Comment}

-- ---- a line
plain_none : (place : Place) → plain_from place [] ≡ []
unfolding plain_from
plain_none place = refl

plain_more : (place : Place) (byte : ℕ) (more : List ℕ) → plain_from place (byte ∷ more) ≡ kept_text place byte ++ plain_from (next_place place byte) more
unfolding plain_from
plain_more place byte more = refl

pub line_more : (place : Place) (byte : ℕ) (more start old new : List ℕ) → start ≡ old ++ plain_from place (byte ∷ more) → new ≡ old ++ kept_text place byte → start ≡ new ++ plain_from (next_place place byte) more
line_more place byte more start old new before e =
    let rest = plain_from (next_place place byte) more in
    before ∙ (ap (λ t. old ++ t) (plain_more place byte more) ∙ (sym (append_assoc old (kept_text place byte) rest) ∙ ap (λ t. t ++ rest) (sym e)))

drop_past : (xs : List ℕ) (i : ℕ) → length xs ≤ i → drop i xs ≡ []
drop_past [] zero h = refl
drop_past [] (suc i) h = refl
drop_past (x ∷ xs) zero h = absurd (omega arith)
drop_past (x ∷ xs) (suc i) h = drop_past xs i (omega arith)

pub line_all : (place : Place) (line start text : List ℕ) (i : ℕ) → length line ≤ i → start ≡ text ++ plain_from place (drop i line) → text ≡ start
line_all place line start text i past before =
    sym (before ∙ (ap (λ t. text ++ plain_from place t) (drop_past line i past) ∙ (ap (λ t. text ++ t) (plain_none place) ∙ append-nil text)))

-- ---- the lines of a plain text
abbrev IsOther : ℕ → Type 0
IsOther byte = byte ≡ 10 → ⊥

text_other : (byte : ℕ) → is_text byte ≡ true → IsOther byte
text_other byte test e = let at : is_text 10 ≡ true = subst (λ b. is_text b ≡ true) e test in false≢true at

kept_by : (byte : ℕ) (test due : Bool) → is_text byte ≡ test → All IsOther (if test then (if due then space ∷ byte ∷ [] else byte ∷ []) else [])
kept_by byte false due e = All-nil IsOther
kept_by byte true true e = All-cons IsOther space (byte ∷ []) (λ h. omega (arith, h)) (All-cons IsOther byte [] (text_other byte e) (All-nil IsOther))
kept_by byte true false e = All-cons IsOther byte [] (text_other byte e) (All-nil IsOther)

kept_other : (place : Place) (byte : ℕ) → All IsOther (kept_text place byte)
kept_other Start byte = kept_by byte (is_text byte) false refl
kept_other Word byte = kept_by byte (is_text byte) (byte == 61) refl
kept_other Gap byte = kept_by byte (is_text byte) true refl
kept_other Comment byte = All-nil IsOther

plain_other : (place : Place) (line : List ℕ) → All IsOther (plain_from place line)
unfolding plain_from
plain_other place [] = All-nil IsOther
plain_other place (byte ∷ more) = All-append IsOther (kept_text place byte) (plain_from (next_place place byte) more) (kept_other place byte) (plain_other (next_place place byte) more)

no_newline : (line : List ℕ) → Contains (plain_line line) 10 → ⊥
no_newline line has = All-contains IsOther (plain_line line) 10 (plain_other Start line) has refl

pub lines_kept : LineComesFirst → (all : List (List ℕ)) → lines (plain_lines all) ≡ map plain_line all
lines_kept first [] = refl
lines_kept first (line ∷ more) = first (plain_line line) (plain_lines more) (no_newline line) ∙ ap (λ l. plain_line line ∷ l) (lines_kept first more)
