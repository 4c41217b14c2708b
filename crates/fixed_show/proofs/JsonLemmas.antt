-- JSON texts and objects.
use Rattle.std.proofs.Common.{◌≡◌, ℕ, ◌+◌, ◌<◌, ◌≤◌, List, [], ◌∷◌, ◌++◌, length, take, take_all, ap, ◌∙◌, sym, refl, arith, append_assoc, codes, Bool, true, false, ◌⊎◌, inl, inr, ◌/◌, ◌%◌, nat_lt, ◌*◌, length-append, length-take, Bor, Option, None, Some, IfSome}
use Rattle.std.specs.Prelude.{flat_map, ◌==◌, ◌&&◌, ◌||◌, nat_le, if◌then◌else◌}
use Rattle.std.specs.Fmt.{digit_glyph}
use Rattle.std.specs.Int.Digits.{AllBelowBase}
use Rattle.std.proofs.lemmas.Bool.Decides.{nat_tests}
use Rattle.fixed_write.specs.Texts.{last_digits}
use Rattle.fixed_write.proofs.Public.{last_digits_none, last_digits_suc}
use Rattle.fixed_bits.specs.Formats.{FormatParts}
use Rattle.fixed_bits.specs.declared.format.Policy.{Policy}
use Rattle.fixed_bits.specs.declared.mode.ReadMode.{ReadMode}
use Rattle.fixed_numeral.specs.declared.radix.Radix.{Radix}
use Rattle.fixed_show.specs.Blocks.{Appends}
use Rattle.fixed_show.specs.Forms.{refusal}
use Rattle.fixed_show.specs.ShowBlock.{AreShowFacts, IsShowObject}
use Rattle.fixed_show.specs.declared.form.Form.TheVariants.{Members}
use Rattle.fixed_show.specs.JsonText.{JsonTextIsOneToOne, json_byte, json_text, object_text}
use Rattle.fixed_show.proofs.LineLemmas.{pushed_length, text_short}

pub text_pushed : (old a b c bs : List ℕ) (i : ℕ) → length bs ≤ i → a ≡ old ++ 34 ∷ [] → b ≡ a ++ flat_map json_byte (take i bs) → c ≡ b ++ 34 ∷ [] → c ≡ old ++ json_text bs
unfolding json_text
text_pushed old a b c bs i h p q r =
    let all : take i bs ≡ bs = take_all i bs h in
    let x : c ≡ ((old ++ 34 ∷ []) ++ flat_map json_byte (take i bs)) ++ 34 ∷ [] = cc in
    x ∙ ap (λ t. ((old ++ 34 ∷ []) ++ flat_map json_byte t) ++ 34 ∷ []) all ∙ append_assoc (old ++ 34 ∷ []) (flat_map json_byte bs) (34 ∷ []) ∙ append_assoc old (34 ∷ []) (flat_map json_byte bs ++ 34 ∷ [])

pub object_pushed : (old a b c bytes members : List ℕ) → a ≡ old ++ (codes "{\"given\":" ++ json_text (take 768 bytes)) → b ≡ a ++ members → c ≡ b ++ 125 ∷ [] → c ≡ old ++ object_text bytes members
unfolding object_text
object_pushed old a b c bytes members p q r =
    let x : c ≡ ((old ++ (codes "{\"given\":" ++ json_text (take 768 bytes))) ++ members) ++ 125 ∷ [] = cc in
    x ∙ simp append_assoc

pub object_short : (old a b c : List ℕ) (n : ℕ) → length a ≤ length old + 4620 → length b ≤ length a + n → c ≡ b ++ 125 ∷ [] → length c ≤ length old + (4621 + n)
object_short old a b c n p q r = let s = pushed_length b c (125 ∷ []) 1 r (omega arith) in omega (arith, p, q, s)

-- the object of a numeral
pub show_object : (mode : ReadMode) (r : Radix) (bytes : List ℕ) (f : FormatParts) (policy : Policy) (refused : Bool) (old a b c : List ℕ) → a ≡ old ++ (codes "{\"given\":" ++ json_text (take 768 bytes)) → length a ≤ length old + 4620
    → Appends (AreShowFacts Members mode r bytes f policy refused) 3301 a b → c ≡ b ++ 125 ∷ [] → Appends (IsShowObject mode r bytes f policy refused) 8000 old c
show_object mode r bytes f policy refused old a b c p q facts e =
    let text : List ℕ = object_text bytes facts.text in
    let appended : c ≡ old ++ text = object_pushed old a b c bytes facts.text p facts.appended e in
    let more = pushed_length a b facts.text 3301 facts.appended facts.short in
    let short = object_short old a b c 3301 q more e in
    record {
      text = text;
      is_text = record { members = facts.text; are_facts = facts.is_text; object_is = refl };
      appended = appended;
      short = text_short old c text 8000 appended (omega (arith, short));
    }

-- the object of a refused word, with the message that is returned
pub object_refused : (old a b c bytes : List ℕ) (message : Option (Bor (List ℕ))) → a ≡ old ++ (codes "{\"given\":" ++ json_text (take 768 bytes)) → IfSome message (λ m. b ≡ a ++ refusal Members m.now) → c ≡ b ++ 125 ∷ []
    → IfSome message (λ m. c ≡ old ++ object_text bytes (refusal Members m.now))
object_refused old a b c bytes None p q r = tt
object_refused old a b c bytes (Some m) p q r = object_pushed old a b c bytes (refusal Members m.now) p q r

-- ---- a JSON text has one meaning
two_digits : (b : ℕ) → last_digits 16 false 2 b ≡ digit_glyph false (b / 16 % 16) ∷ digit_glyph false (b % 16) ∷ []
two_digits b =
    last_digits_suc 16 false 1 b ∙ ap (λ t. t ++ digit_glyph false (b % 16) ∷ []) (last_digits_suc 16 false 0 (b / 16) ∙ ap (λ t. t ++ digit_glyph false (b / 16 % 16) ∷ []) (last_digits_none 16 false (b / 16 / 16)))

glyph_one : (c d : ℕ) → c < 16 → d < 16 → digit_glyph false c ≡ digit_glyph false d → c ≡ d
glyph_one c d h k e = grind (arith, nat_tests)

abbrev pub head_of : List ℕ → ℕ
head_of [] = 0
head_of (x ∷ xs) = x

abbrev pub tail_of : List ℕ → List ℕ
tail_of [] = []
tail_of (x ∷ xs) = xs

-- an escaped byte
record IsEscaped (b : ℕ) : Type 0 where
  which : (b ≡ 34) ⊎ (b ≡ 92)
  is : json_byte b ≡ 92 ∷ b ∷ []

record IsPlain (b : ℕ) : Type 0 where
  no_quote : (b ≡ 34) → ⊥
  no_backslash : (b ≡ 92) → ⊥
  is : json_byte b ≡ b ∷ []

record IsNumbered (b : ℕ) : Type 0 where
  is : json_byte b ≡ 92 ∷ 117 ∷ 48 ∷ 48 ∷ digit_glyph false (b / 16 % 16) ∷ digit_glyph false (b % 16) ∷ []

written : (b : ℕ) → IsEscaped b ⊎ (IsPlain b ⊎ IsNumbered b)
written b = first (b == 34) (b == 92) (nat_le 32 b && nat_lt b 127) refl refl refl
  where
    chosen : Bool → Bool → Bool → List ℕ
    chosen q s p = if q || s then 92 ∷ b ∷ [] else (if p then b ∷ [] else codes "\\u00" ++ last_digits 16 false 2 b)

    first : (q s p : Bool) → (b == 34) ≡ q → (b == 92) ≡ s → (nat_le 32 b && nat_lt b 127) ≡ p → IsEscaped b ⊎ (IsPlain b ⊎ IsNumbered b)
    first true s p e f g = inl (record { which = inl (grind (arith, nat_tests)); is = ap (λ t. chosen t (b == 92) (nat_le 32 b && nat_lt b 127)) e })
    first false true p e f g = inl (record { which = inr (grind (arith, nat_tests)); is = ap (λ t. chosen t (b == 92) (nat_le 32 b && nat_lt b 127)) e ∙ ap (λ t. chosen false t (nat_le 32 b && nat_lt b 127)) f })
    first false false true e f g = inr (inl (record {
      no_quote = λ h. grind (arith, nat_tests);
      no_backslash = λ h. grind (arith, nat_tests);
      is = ap (λ t. chosen t (b == 92) (nat_le 32 b && nat_lt b 127)) e ∙ ap (λ t. chosen false t (nat_le 32 b && nat_lt b 127)) f ∙ ap (λ t. chosen false false t) g;
    }))
    first false false false e f g = inr (inr (record {
      is = ap (λ t. chosen t (b == 92) (nat_le 32 b && nat_lt b 127)) e ∙ ap (λ t. chosen false t (nat_le 32 b && nat_lt b 127)) f ∙ ap (λ t. chosen false false t) g ∙ ap (λ t. codes "\\u00" ++ t) (two_digits b);
    }))

apart : (x y : ℕ) → (x ≡ 34) ⊎ (x ≡ 92) → x ≡ 117 → ⊥
apart x y (inl e) h = omega (arith, e, h)
apart x y (inr e) h = omega (arith, e, h)

byte_one : (x y : ℕ) (s t : List ℕ) → x < 256 → y < 256 → json_byte x ++ s ≡ json_byte y ++ t → (x ≡ y) × (s ≡ t)
byte_one x y s t h k e = split (written x) (written y)
  where
    by : (u v : List ℕ) → json_byte x ≡ u → json_byte y ≡ v → u ++ s ≡ v ++ t
    by u v p q = ap (λ w. w ++ s) (sym p) ∙ e ∙ ap (λ w. w ++ t) q

    split : IsEscaped x ⊎ (IsPlain x ⊎ IsNumbered x) → IsEscaped y ⊎ (IsPlain y ⊎ IsNumbered y) → (x ≡ y) × (s ≡ t)
    split (inl a) (inl b) = let w = by _ _ a.is b.is in (ap (λ l. head_of (tail_of l)) w, ap (λ l. tail_of (tail_of l)) w)
    split (inl a) (inr (inl b)) = absurd (b.no_backslash (sym (ap head_of (by _ _ a.is b.is))))
    split (inl a) (inr (inr b)) = absurd (apart x y a.which (ap (λ l. head_of (tail_of l)) (by _ _ a.is b.is)))
    split (inr (inl a)) (inl b) = absurd (a.no_backslash (ap head_of (by _ _ a.is b.is)))
    split (inr (inl a)) (inr (inl b)) = let w = by _ _ a.is b.is in (ap head_of w, ap tail_of w)
    split (inr (inl a)) (inr (inr b)) = absurd (a.no_backslash (ap head_of (by _ _ a.is b.is)))
    split (inr (inr a)) (inl b) = absurd (apart y x b.which (sym (ap (λ l. head_of (tail_of l)) (by _ _ a.is b.is))))
    split (inr (inr a)) (inr (inl b)) = absurd (b.no_backslash (sym (ap head_of (by _ _ a.is b.is))))
    split (inr (inr a)) (inr (inr b)) =
        let w = by _ _ a.is b.is in
        let four : List ℕ → List ℕ = λ l. tail_of (tail_of (tail_of (tail_of l))) in
        let high = glyph_one (x / 16 % 16) (y / 16 % 16) (omega arith) (omega arith) (ap (λ l. head_of (four l)) w) in
        let low = glyph_one (x % 16) (y % 16) (omega arith) (omega arith) (ap (λ l. head_of (tail_of (four l))) w) in
        (omega (arith, h, k, high, low), ap (λ l. tail_of (tail_of (four l))) w)

-- ---- an object is not much longer than its members
byte_short : (b : ℕ) → length (json_byte b) ≤ 6
byte_short b = by_form (written b)
  where
    by_form : IsEscaped b ⊎ (IsPlain b ⊎ IsNumbered b) → length (json_byte b) ≤ 6
    by_form (inl a) = omega (arith, ap length a.is)
    by_form (inr (inl a)) = omega (arith, ap length a.is)
    by_form (inr (inr a)) = omega (arith, ap length a.is)

bytes_short : (bs : List ℕ) → length (flat_map json_byte bs) ≤ 6 * length bs
bytes_short [] = omega arith
bytes_short (b ∷ bs) = omega (arith, byte_short b, bytes_short bs, length-append (json_byte b) (flat_map json_byte bs))

pub object_longer : (bytes members : List ℕ) → (length members ≤ length (object_text bytes members)) × (length (object_text bytes members) ≤ 4621 + length members)
unfolding object_text json_text
object_longer bytes members =
    let given : List ℕ = take 768 bytes in
    let cut = length-take 768 bytes in
    let all = bytes_short given in
    let text = length-append (flat_map json_byte given) (34 ∷ []) in
    let behind = length-append (34 ∷ (flat_map json_byte given ++ 34 ∷ [])) (members ++ codes "}") in
    let end = length-append members (codes "}") in
    (omega (arith, behind, end), omega (arith, cut, all, text, behind, end))

first_byte : (b : ℕ) (s : List ℕ) → head_of (json_byte b ++ s) ≡ 34 → ⊥
first_byte b s e = by_form (written b)
  where
    by_form : IsEscaped b ⊎ (IsPlain b ⊎ IsNumbered b) → ⊥
    by_form (inl a) = let w : 92 ≡ 34 = ap (λ l. head_of (l ++ s)) (sym a.is) ∙ e in absurd (omega (arith, w))
    by_form (inr (inl a)) = a.no_quote (ap (λ l. head_of (l ++ s)) (sym a.is) ∙ e)
    by_form (inr (inr a)) = let w : 92 ≡ 34 = ap (λ l. head_of (l ++ s)) (sym a.is) ∙ e in absurd (omega (arith, w))

bytes_one : (a b : List ℕ) → AllBelowBase 256 a → AllBelowBase 256 b → flat_map json_byte a ++ 34 ∷ [] ≡ flat_map json_byte b ++ 34 ∷ [] → a ≡ b
bytes_one [] [] h k e = refl
bytes_one [] (y ∷ ys) h k e = absurd (first_byte y (flat_map json_byte ys ++ 34 ∷ []) (sym (ap head_of (e ∙ append_assoc (json_byte y) (flat_map json_byte ys) (34 ∷ [])))))
bytes_one (x ∷ xs) [] h k e = absurd (first_byte x (flat_map json_byte xs ++ 34 ∷ []) (ap head_of (sym (append_assoc (json_byte x) (flat_map json_byte xs) (34 ∷ [])) ∙ e)))
bytes_one (x ∷ xs) (y ∷ ys) h k e =
    let w = byte_one x y (flat_map json_byte xs ++ 34 ∷ []) (flat_map json_byte ys ++ 34 ∷ []) h.0 k.0 (sym (append_assoc (json_byte x) (flat_map json_byte xs) (34 ∷ [])) ∙ e ∙ append_assoc (json_byte y) (flat_map json_byte ys) (34 ∷ [])) in
    let rest = bytes_one xs ys h.1 k.1 w.1 in
    ap (λ t. t ∷ xs) w.0 ∙ ap (λ t. y ∷ t) rest

pub json_text_one : JsonTextIsOneToOne
unfolding json_text
json_text_one a b h k e = bytes_one a b h k (ap tail_of e)
