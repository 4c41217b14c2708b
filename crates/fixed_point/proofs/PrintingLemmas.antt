-- The written text is the one in the definitions.
use Rattle.std.proofs.Common.{◌≡◌, ℕ, ◌+◌, ◌≤◌, ◌++◌, List, [], ◌∷◌, ap, ℤ, pos, refl, sym, ◌∙◌, arith, append-nil, append_assoc, length-append, subst}
use Rattle.std.proofs.lemmas.List.{length-replicate}
use Rattle.std.proofs.lemmas.List.Folds.{concat-append}
use Rattle.std.specs.Prelude.{zero, suc, Bool, Result, Option, Some, None, unsigned_abs, nat_le, true, false, if◌then◌else◌, length, replicate, ◌-◌, ◌/◌, ◌==◌}
use Rattle.std.specs.Fmt.{sign_text, WritesOnOk, WritesStyledOnOk, padded_integral, IsPlainFormatter, formatter_spec, padding_before, char_count, spec_width, spec_sign_plus, spec_alternate, sign_text_with, HasWrittenStyled, number_padding}
use Rattle.std.specs.Int.{is_negative}
use Rattle.std.specs.declared.fmt.Formatter.{Formatter}
use Rattle.std.specs.declared.fmt.Error.{Error}
use Rattle.std.specs.List.{FoldsTo, concat, repeat}
use Rattle.std.specs.Char.{encode_utf8}
use Rattle.fixed_bits.specs.declared.mode.ReadMode.TheVariants.{NearestEven}
use Rattle.fixed_write.proofs.Public.{rounded_zeros}
use Rattle.fixed_write.specs.Texts.{shortest_text, decimal_text}
use Rattle.fixed_write.specs.Places.{exact_text, rounded_text}
use Rattle.fixed_write.specs.Bases.{number_of, has_capitals}
use Rattle.fixed_write.specs.declared.in_place.Base.{Base}
use Rattle.fixed_point.specs.Texts.{shown_text, styled_text, exact_shown_text}

-- ---- a sign before the text of the magnitude
not_negative : (m : ℕ) → is_negative (pos m) ≡ false
not_negative zero = refl
not_negative (suc m) = grind arith

pub shortest_text_split : (c : ℤ) (f : ℕ) → shortest_text c f ≡ sign_text (is_negative c) ++ shortest_text (pos (unsigned_abs c)) f
unfolding shortest_text decimal_text
shortest_text_split c f = rw (not_negative (unsigned_abs c)) refl

pub exact_text_split : (base : ℕ) (upper : Bool) (c : ℤ) (f : ℕ) → exact_text base upper c f ≡ sign_text (is_negative c) ++ exact_text base upper (pos (unsigned_abs c)) f
unfolding exact_text
exact_text_split base upper c f = rw (not_negative (unsigned_abs c)) refl

rounded_text_split : (k : ℕ) (c : ℤ) (f : ℕ) → rounded_text NearestEven 10 false k c f ≡ sign_text (is_negative c) ++ rounded_text NearestEven 10 false k (pos (unsigned_abs c)) f
unfolding rounded_text
rounded_text_split k c f = rw (not_negative (unsigned_abs c)) refl

-- ---- without a width, `+` and `#`, a formatter adds only the sign
either : (t : Bool) (x y z : ℕ) → x ≡ z → y ≡ z → (if t then x else y) ≡ z
either true x y z a b = a
either false x y z a b = b

nothing_added : (t u : Bool) (fill sign digits : List ℕ) → repeat (if t then 0 else 0) fill ++ sign ++ [] ++ replicate (if t then 0 else 0) 48 ++ (digits ++ repeat (if t then 0 else 0) fill) ≡ sign ++ digits
nothing_added true u fill sign digits = simp append-nil
nothing_added false u fill sign digits = simp append-nil

side_none : (a : ℕ) → (if a == 1 then 0 else (if a == 2 then 0 / 2 else 0)) ≡ 0
side_none a = either (a == 1) 0 (if a == 2 then 0 / 2 else 0) 0 refl (either (a == 2) 0 0 0 refl refl)

padding_none : {W : Type 0} (f : Formatter W) → padding_before (formatter_spec f) 0 3 ≡ 0
padding_none f = side_none (if (formatter_spec f).align == 0 then 3 else (formatter_spec f).align)

no_width : (w : ℕ) → (if w == 0 then None else Some w) ≡ None → w ≡ 0
no_width zero e = refl
no_width (suc w) e = grind arith

pub bare_text : {W : Type 0} (f : Formatter W) (negative : Bool) (prefix digits : List ℕ) → spec_width (formatter_spec f) ≡ None → spec_sign_plus (formatter_spec f) ≡ false → spec_alternate (formatter_spec f) ≡ false → padded_integral (formatter_spec f) negative prefix digits ≡ sign_text negative ++ digits
unfolding padded_integral
bare_text f negative prefix digits width plus alternate =
    let flat : (formatter_spec f).width ≡ 0 = no_width (formatter_spec f).width width in
    let none : (formatter_spec f).width - length digits - length (sign_text negative) - char_count [] ≡ 0 = omega (arith, flat) in
    rw (plus, alternate, none, padding_none f) (nothing_added (formatter_spec f).zero false (encode_utf8 (formatter_spec f).fill) (sign_text negative) digits)

plain_width : {W : Type 0} (f : Formatter W) → IsPlainFormatter f → spec_width (formatter_spec f) ≡ None
plain_width f plain = rw plain.bare.width refl

pub writes_plain : {W : Type 0} (took : W → List ℕ → W → Type 0) (f g : Formatter W) (r : Result (Unit {0}) Error) (negative : Bool) (prefix digits : List ℕ) → WritesStyledOnOk took f r (padded_integral (formatter_spec f) negative prefix digits) g → WritesOnOk took f r (sign_text negative ++ digits) g
writes_plain took f g r negative prefix digits h plain ok =
    let w = h plain.flush ok in
    record {
      wrote = rw (bare_text f negative prefix digits (plain_width f plain) plain.bare.plus plain.bare.alternate) at w.wrote;
      plain = record { bare = rw w.spec plain.bare; flush = w.flush };
    }

-- ---- the cases of the definitions
le_is : (m n : ℕ) → m ≤ n → nat_le m n ≡ true
le_is m n l = grind arith

pub shown_magnitude : (n f : ℕ) (c : ℤ) (text : List ℕ) → f ≤ n → text ≡ shortest_text (pos (unsigned_abs c)) f → shown_text n f c ≡ sign_text (is_negative c) ++ text
shown_magnitude n f c text l t = rw (le_is f n l, t) (shortest_text_split c f)

pub exact_magnitude : (base : Base) (n f : ℕ) (c : ℤ) (text : List ℕ) → f ≤ n → text ≡ exact_text (number_of base) (has_capitals base) (pos (unsigned_abs c)) f → exact_shown_text base n f c ≡ sign_text (is_negative c) ++ text
exact_magnitude base n f c text l t = rw (le_is f n l, t) (exact_text_split (number_of base) (has_capitals base) c f)

pub styled_bare : {W : Type 0} (g : Formatter W) (precision : Option ℕ) (n f : ℕ) (c : ℤ) (text : List ℕ) → precision ≡ None → f ≤ n → spec_width (formatter_spec g) ≡ None → spec_sign_plus (formatter_spec g) ≡ false → spec_alternate (formatter_spec g) ≡ false → text ≡ shortest_text c f → styled_text precision (padded_integral (formatter_spec g) (is_negative c) []) n f c ≡ text
styled_bare g precision n f c text e l width plus alternate t =
    let same : padded_integral (formatter_spec g) (is_negative c) [] (shortest_text (pos (unsigned_abs c)) f) ≡ text = bare_text g (is_negative c) [] (shortest_text (pos (unsigned_abs c)) f) width plus alternate ∙ sym (t ∙ shortest_text_split c f) in
    rw (e, le_is f n l, same) refl

pub styled_bare_places : {W : Type 0} (g : Formatter W) (precision : Option ℕ) (k n f : ℕ) (c : ℤ) (text : List ℕ) → precision ≡ Some k → f ≤ n → spec_width (formatter_spec g) ≡ None → spec_sign_plus (formatter_spec g) ≡ false → spec_alternate (formatter_spec g) ≡ false → text ≡ rounded_text NearestEven 10 false k c f → styled_text precision (padded_integral (formatter_spec g) (is_negative c) []) n f c ≡ text
styled_bare_places g precision k n f c text e l width plus alternate t =
    let same : padded_integral (formatter_spec g) (is_negative c) [] (rounded_text NearestEven 10 false k (pos (unsigned_abs c)) f) ≡ text = bare_text g (is_negative c) [] (rounded_text NearestEven 10 false k (pos (unsigned_abs c)) f) width plus alternate ∙ sym (t ∙ rounded_text_split k c f) in
    rw (e, le_is f n l, same) refl

pub styled_long : {W : Type 0} (g : Formatter W) (precision : Option ℕ) (p z n f : ℕ) (c : ℤ) (digits : List ℕ) → precision ≡ Some p → p ≡ 64 + z → f ≤ n → f ≤ 64 → digits ≡ rounded_text NearestEven 10 false 64 (pos (unsigned_abs c)) f → styled_text precision (padded_integral (formatter_spec g) (is_negative c) []) n f c ≡ padded_integral (formatter_spec g) (is_negative c) [] (digits ++ replicate z 48)
styled_long g precision p z n f c digits e many l few t =
    rw (e, le_is f n l, many, rounded_zeros z (pos (unsigned_abs c)) f few, t) refl

-- ---- one write after another
folds_on : {W : Type 0} (took : W → List ℕ → W → Type 0) (w : W) (xs : List (List ℕ)) (v : W) (ys : List (List ℕ)) (u : W) → FoldsTo took w xs v → FoldsTo took v ys u → FoldsTo took w (xs ++ ys) u
folds_on took w [] v ys u p q = subst (λ t. FoldsTo took t ys u) (sym p) q
folds_on took w (x ∷ xs) v ys u p q = (p.0, p.1, folds_on took p.0 xs v ys u p.2 q)

written_on : {W : Type 0} (took : W → List ℕ → W → Type 0) (f : Formatter W) (a : List ℕ) (g : Formatter W) (b : List ℕ) (h : Formatter W) → HasWrittenStyled took f a g → HasWrittenStyled took g b h → HasWrittenStyled took f (a ++ b) h
written_on took f a g b h p q = record {
  wrote = record {
    parts = p.wrote.parts ++ q.wrote.parts;
    calls = folds_on took f.writer p.wrote.parts g.writer q.wrote.parts h.writer p.wrote.calls q.wrote.calls;
    whole = concat-append p.wrote.parts q.wrote.parts ∙ (ap (λ t. t ++ concat q.wrote.parts) p.wrote.whole ∙ ap (λ t. a ++ t) q.wrote.whole);
  };
  spec = q.spec ∙ p.spec;
  flush = q.flush;
}

-- ---- digits and zeros, padded by the options
repeat_one : (n b : ℕ) → repeat n (b ∷ []) ≡ replicate n b
repeat_one zero b = refl
repeat_one (suc n) b = ap (λ (t : List ℕ). b ∷ t) (repeat_one n b)

char_count_none : char_count [] ≡ 0
unfolding char_count
char_count_none = refl

no_prefix : (t : Bool) → ◌≡◌ {A = List ℕ} (if t then [] else []) []
no_prefix true = refl
no_prefix false = refl

pieces : (a sign z digits zs b : List ℕ) → a ++ (sign ++ (z ++ (digits ++ (zs ++ b)))) ≡ a ++ sign ++ [] ++ z ++ (digits ++ zs ++ b)
pieces a sign z digits zs b = simp (append_assoc, append-nil)

module _ {W : Type 0} (f : Formatter W) (negative : Bool) (sign digits : List ℕ) (zeros missing before inside after : ℕ)
    (signed : sign ≡ sign_text_with (spec_sign_plus (formatter_spec f)) negative)
    (lacks : missing ≡ (formatter_spec f).width - (length digits + zeros) - length sign)
    (b : before ≡ (if (formatter_spec f).zero then 0 else padding_before (formatter_spec f) missing 3))
    (i : inside ≡ (if (formatter_spec f).zero then missing else 0))
    (a : after ≡ (if (formatter_spec f).zero then 0 else missing - padding_before (formatter_spec f) missing 3)) where
  all_missing : number_padding (formatter_spec f) negative [] (length (digits ++ replicate zeros 48)) ≡ missing
  all_missing =
      let long : length (digits ++ replicate zeros 48) ≡ length digits + zeros = length-append digits (replicate zeros 48) ∙ ap (λ n. length digits + n) (length-replicate zeros 48) in
      let short : length (sign_text_with (spec_sign_plus (formatter_spec f)) negative) ≡ length sign = ap length (sym signed) in
      let none : char_count (if (formatter_spec f).alternate then [] else []) ≡ 0 = ap char_count (no_prefix (formatter_spec f).alternate) ∙ char_count_none in
      rw (long, short, none) (omega (arith, lacks))

  long_text : repeat before (encode_utf8 (formatter_spec f).fill) ++ (sign ++ (repeat inside (48 ∷ []) ++ (digits ++ (repeat zeros (48 ∷ []) ++ repeat after (encode_utf8 (formatter_spec f).fill))))) ≡ padded_integral (formatter_spec f) negative [] (digits ++ replicate zeros 48)
  unfolding padded_integral
  long_text =
      rw (all_missing, no_prefix (formatter_spec f).alternate, sym b, sym i, sym a, sym signed, repeat_one inside 48, repeat_one zeros 48)
      (pieces (repeat before (encode_utf8 (formatter_spec f).fill)) sign (replicate inside 48) digits (replicate zeros 48) (repeat after (encode_utf8 (formatter_spec f).fill)))

  pub long_written : (took : W → List ℕ → W → Type 0) (f1 f2 f3 f4 f5 f6 : Formatter W)
      → HasWrittenStyled took f (repeat before (encode_utf8 (formatter_spec f).fill)) f1 → HasWrittenStyled took f1 sign f2
      → HasWrittenStyled took f2 (repeat inside (48 ∷ [])) f3 → HasWrittenStyled took f3 digits f4
      → HasWrittenStyled took f4 (repeat zeros (48 ∷ [])) f5 → HasWrittenStyled took f5 (repeat after (encode_utf8 (formatter_spec f).fill)) f6
      → HasWrittenStyled took f (padded_integral (formatter_spec f) negative [] (digits ++ replicate zeros 48)) f6
  long_written took f1 f2 f3 f4 f5 f6 h1 h2 h3 h4 h5 h6 =
      let fill : List ℕ = encode_utf8 (formatter_spec f).fill in
      let last = written_on took f4 (repeat zeros (48 ∷ [])) f5 (repeat after fill) f6 h5 h6 in
      let shown = written_on took f3 digits f4 (repeat zeros (48 ∷ []) ++ repeat after fill) f6 h4 last in
      let number = written_on took f2 (repeat inside (48 ∷ [])) f3 (digits ++ (repeat zeros (48 ∷ []) ++ repeat after fill)) f6 h3 shown in
      let all = written_on took f1 sign f2 (repeat inside (48 ∷ []) ++ (digits ++ (repeat zeros (48 ∷ []) ++ repeat after fill))) f6 h2 number in
      subst (λ t. HasWrittenStyled took f t f6) long_text (written_on took f (repeat before fill) f1 (sign ++ (repeat inside (48 ∷ []) ++ (digits ++ (repeat zeros (48 ∷ []) ++ repeat after fill)))) f6 h1 all)
