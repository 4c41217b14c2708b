-- The constants of a text are entries with different names, and the canonical text of entries declares them.
use Rattle.std.proofs.Common.{◌≡◌, ℕ, ◌+◌, ◌-◌, ◌<◌, ◌≤◌, ◌^◌, ◌⊎◌, Bool, true, false, eqb, get_or, List, [], ◌∷◌, ◌++◌, length, map, ℤ, pos, unsigned_abs, refl, sym, ap, ◌∙◌, subst, arith, inl, inr, append_assoc, All, Contains}
use Rattle.std.specs.Prelude.{Ok}
use Rattle.std.specs.Fmt.{decimal, sign_text}
use Rattle.std.specs.Int.{is_negative}
use Rattle.std.specs.Str.Parse.{AllDigits}
use Rattle.std.proofs.lemmas.Str.Parse.{digit_from_value}
use Rattle.std.proofs.lemmas.Fmt.{decimal_is_IsNumeral}
use Rattle.std.proofs.lemmas.Bool.Decides.{nat_tests}
use Rattle.std.proofs.lemmas.List.Elements.{All-append, All-cons, All-contains, All-from_get_or, All-head, All-nil, All-tail, All-weaker}
use Rattle.fixed_bits.specs.Formats.{FormatParts, IsTypeFormat}
use Rattle.fixed_bits.specs.Ranges.{IsTypeWidth}
use Rattle.fixed_respell.specs.LineWords.{space}
use Rattle.fixed_respell.specs.Split.{count_of}
use Rattle.fixed_respell.specs.Lemmas.FormatLemmas.{counts_within}
use Rattle.fixed_respell.specs.Lemmas.SplitLemmas.{count_cons}
use Rattle.fixed_respell.specs.Words.{format_text, sign_letter}
use Rattle.fixed_write.specs.Places.{exact_text}
use Rattle.line_engine.specs.Lines.{lines}
use Rattle.line_engine.specs.LineLaws.{LineComesFirst}
use Rattle.fixed_constants.specs.Canonical.{canonical_text, entry_line, hex_prefix, literal_text}
use Rattle.fixed_constants.specs.Constants.{ConstantParts, Declare, HasName, IsName, IsNameByte, IsPassedOver, NamedFrom, Names, Says, Spells}
use Rattle.fixed_constants.specs.Entries.{AreEntries, IsEntry}
use Rattle.fixed_constants.specs.Laws.{LiteralReadsBack}
use Rattle.fixed_constants.specs.Lemmas.NameLemmas.{names_one, spelled_name}
use Rattle.fixed_constants.proofs.KnownLemmas.{named_back, named_here, named_longer}
use Rattle.fixed_constants.proofs.LiteralLemmas.{IsShownByte, body_shown}

-- ---- bytes that are neither a space nor a newline
abbrev pub IsVisible : ℕ → Type 0
IsVisible b = 33 ≤ b

visible_by : (b : ℕ) (bs : List ℕ) → IsVisible b → All IsVisible bs → All IsVisible (b ∷ bs)
visible_by b bs is all = All-cons IsVisible b bs is all

no_space : (bs : List ℕ) → All IsVisible bs → count_of space bs ≡ 0
no_space [] all = refl
no_space (b ∷ bs) all =
    let high : 33 ≤ b = All-head IsVisible b bs all in
    let other : eqb b space ≡ false = grind (arith, nat_tests) in
    let later = no_space bs (All-tail IsVisible b bs all) in
    count_cons space b bs ∙ rw (other, later) refl

visible_digits : (ds : List ℕ) → AllDigits 10 ds → All IsVisible ds
visible_digits [] all = All-nil IsVisible
visible_digits (d ∷ ds) all = let is = digit_from_value d all.0 in visible_by d ds (omega (arith, is)) (visible_digits ds all.1)

visible_decimal : (n : ℕ) → n < 2 ^ 64 → All IsVisible (decimal n)
visible_decimal n small = visible_digits (decimal n) (decimal_is_IsNumeral n small).0.1

visible_letter : (s : Bool) (bs : List ℕ) → All IsVisible bs → All IsVisible (sign_letter s ∷ bs)
visible_letter true bs all = visible_by 73 bs (omega arith) all
visible_letter false bs all = visible_by 85 bs (omega arith) all

width_small : (n : ℕ) → IsTypeWidth n → n ≤ 64
width_small n is = omega (arith, is)

visible_format : (f : FormatParts) → IsTypeFormat f.width f.frac → All IsVisible (format_text f)
visible_format f is =
    let small : f.width ≤ 64 = width_small f.width is.is_width in
    let within : f.frac ≤ f.width = is.within in
    let counts = All-append IsVisible (decimal (f.width - f.frac)) (70 ∷ decimal f.frac) (visible_decimal (f.width - f.frac) (omega arith)) (visible_by 70 (decimal f.frac) (omega arith) (visible_decimal f.frac (omega arith))) in
    visible_letter f.signed _ (subst (All IsVisible) (sym (counts_within 70 f within)) counts)

name_byte_visible : (b : ℕ) → IsNameByte b → IsVisible b
name_byte_visible b is = omega (arith, is)

visible_name : (name : List ℕ) → IsName name → All IsVisible name
visible_name name is = All-from_get_or IsVisible name 0 (λ i below. name_byte_visible (get_or name i 0) (is.bytes i below))

visible_sign : (negative : Bool) → All IsVisible (sign_text negative)
visible_sign true = visible_by 45 [] (omega arith) (All-nil IsVisible)
visible_sign false = All-nil IsVisible

visible_literal : (c : ℤ) (g : ℕ) → All IsVisible (literal_text c g)
unfolding literal_text
visible_literal c g =
    let body : List ℕ = exact_text 16 false (pos (unsigned_abs c)) g in
    let shown : All IsVisible body = All-weaker IsShownByte IsVisible (λ b is. let low = is.0 in omega (arith, low)) body (body_shown (unsigned_abs c) g) in
    All-append IsVisible (sign_text (is_negative c)) (hex_prefix ++ body) (visible_sign (is_negative c)) (visible_by 48 (120 ∷ body) (omega arith) (visible_by 120 body (omega arith) shown))

-- ---- a canonical line
-- a line that starts with a name is not passed over
not_passed : (name rest : List ℕ) → IsName name → IsPassedOver (name ++ rest) → ⊥
not_passed [] rest is passed = let some = is.some in omega arith
not_passed (b ∷ bs) rest is (inl none) = absurd cc
not_passed (b ∷ bs) rest is (inr comment) =
    let same : b ≡ 35 = cc in
    let byte : IsNameByte b = is.bytes 0 (omega arith) in
    omega (arith, byte, same)

pub spells_itself : LiteralReadsBack → (c : ConstantParts) → IsEntry c → Spells (entry_line c) c
spells_itself reads c is = record {
  fields = record {
    spoken = not_passed c.name _ is.name;
    name = c.name;
    equals = 61 ∷ [];
    literal = literal_text c.bits c.format.frac;
    format = format_text c.format;
    has = record {
      text = refl;
      unspaced = (no_space c.name (visible_name c.name is.name), (refl, (no_space (literal_text c.bits c.format.frac) (visible_literal c.bits c.format.frac), tt)));
    };
  };
  head = record { name = is.name; equals = refl };
  format = record { format = is.format; text = refl };
  literal = reads c.format c.bits is.bits;
  name = refl;
}

-- bytes of a canonical line are not newlines
abbrev pub IsLate : ℕ → Type 0
IsLate b = 32 ≤ b

late : (bs : List ℕ) → All IsVisible bs → All IsLate bs
late bs all = All-weaker IsVisible IsLate (λ b is. omega (arith, is)) bs all

late_word : (word rest : List ℕ) → All IsVisible word → All IsLate rest → All IsLate (word ++ space ∷ rest)
late_word word rest all more = All-append IsLate word (space ∷ rest) (late word all) (All-cons IsLate space rest (omega arith) more)

equals_visible : All IsVisible (61 ∷ [])
equals_visible = visible_by 61 [] (omega arith) (All-nil IsVisible)

late_line : (c : ConstantParts) → IsEntry c → All IsLate (entry_line c)
late_line c is =
    let literal : List ℕ = literal_text c.bits c.format.frac in
    late_word c.name _ (visible_name c.name is.name)
    (late_word (61 ∷ []) _ equals_visible
    (late_word literal (format_text c.format) (visible_literal c.bits c.format.frac) (late (format_text c.format) (visible_format c.format is.format))))

no_newline : (c : ConstantParts) → IsEntry c → Contains (entry_line c) 10 → ⊥
no_newline c is has = let small : 32 ≤ 10 = All-contains IsLate (entry_line c) 10 (late_line c is) has in omega arith

-- ---- the lines of a canonical text
pub canonical_lines : LineComesFirst → (t : List ConstantParts) → AreEntries t → lines (canonical_text t) ≡ map entry_line t
canonical_lines first [] are = refl
canonical_lines first (c ∷ cs) are =
    ap lines (append_assoc (entry_line c) (10 ∷ []) (canonical_text cs))
    ∙ (first (entry_line c) (canonical_text cs) (no_newline c are.0) ∙ ap (λ l. entry_line c ∷ l) (canonical_lines first cs are.2))

-- ---- the lines declare the constants
-- none of the lines `before` names one of the constants
abbrev pub AreNew : List (List ℕ) → List ConstantParts → Type 0
AreNew before t = (name : List ℕ) → HasName name t → (p : ℕ) → NamedFrom 1 before name p → ⊥

line_names : LiteralReadsBack → (c : ConstantParts) → IsEntry c → (name : List ℕ) → Names (entry_line c) name → c.name ≡ name
line_names reads c is name names = names_one (entry_line c) c.name name (spelled_name (entry_line c) c (spells_itself reads c is)) names

has_other : (name : List ℕ) (c : ConstantParts) (cs : List ConstantParts) → HasName name cs → (HasName c.name cs → ⊥) → c.name ≡ name → ⊥
has_other name c cs has never same = let H : List ℕ → Type 0 = λ n. HasName n cs in never (subst H (sym same) has)

pub declare_canonical : LiteralReadsBack → (before : List (List ℕ)) (t : List ConstantParts) → AreEntries t → AreNew before t → Declare before (map entry_line t) t
declare_canonical reads before [] are new = refl
declare_canonical reads before (c ∷ cs) are new =
    let later : AreNew (before ++ entry_line c ∷ []) cs = λ name has p named. new name (inr has) p (named_back 1 before (entry_line c) name p (λ names. has_other name c cs has are.1 (line_names reads c are.0 name names)) named) in
    inr (c, cs, (spells_itself reads c are.0, new c.name (inl refl)), refl, declare_canonical reads (before ++ entry_line c ∷ []) cs are.2 later)

pub canonical_declares : LineComesFirst → LiteralReadsBack → (t : List ConstantParts) → AreEntries t → Declare [] (lines (canonical_text t)) t
canonical_declares first reads t are =
    let D : List (List ℕ) → Type 0 = λ ls. Declare [] ls t in
    subst D (sym (canonical_lines first t are)) (declare_canonical reads [] t are (λ name has p h. h))

-- ---- the constants of a text are entries
pub spelled_entry : (line : List ℕ) (c : ConstantParts) → Spells line c → IsEntry c
spelled_entry line c s =
    let N : List ℕ → Type 0 = λ n. IsName n in
    record { name = subst N s.name s.head.name; format = s.format.format; bits = s.literal.in_range }

record Declared (before : List (List ℕ)) (t : List ConstantParts) : Type 0 where
  pub are : AreEntries t
  pub new : AreNew before t

declared_more : (before : List (List ℕ)) (line : List ℕ) (c : ConstantParts) (cs : List ConstantParts) → Says before line (Ok c) → Declared (before ++ line ∷ []) cs → Declared before (c ∷ cs)
declared_more before line c cs says later = record { are = (spelled_entry line c says.0, never, later.are); new = new }
  where
    never : HasName c.name cs → ⊥
    never has = later.new c.name has (1 + length before) (named_here 1 before line c.name (1 + length before) says.1 (spelled_name line c says.0) refl)

    new : (name : List ℕ) → (c.name ≡ name) ⊎ HasName name cs → (p : ℕ) → NamedFrom 1 before name p → ⊥
    new name (inl same) p named = let F : List ℕ → Type 0 = λ n. NamedFrom 1 before n p in says.1 p (subst F (sym same) named)
    new name (inr has) p named = later.new name has p (named_longer 1 before line name p named)

declared : (before ls : List (List ℕ)) (t : List ConstantParts) → Declare before ls t → Declared before t
declared before [] [] d = record { are = tt; new = λ name h. absurd h }
declared before [] (c ∷ cs) d = absurd cc
declared before (l ∷ ls) t (inl d) =
    let later = declared (before ++ l ∷ []) ls t d.1 in
    record { are = later.are; new = λ name has p named. later.new name has p (named_longer 1 before l name p named) }
declared before (l ∷ ls) t (inr d) =
    let more = declared_more before l d.0 d.1 d.2 (declared (before ++ l ∷ []) ls d.1 d.4) in
    let D : List ConstantParts → Type 0 = λ u. Declared before u in
    subst D (sym d.3) more

pub declared_entries : (text : List ℕ) (t : List ConstantParts) → Declare [] (lines text) t → AreEntries t
declared_entries text t d = (declared [] (lines text) t d).are
