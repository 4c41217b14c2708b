-- Padded texts.
use Rattle.std.proofs.Common.{◌≡◌, ℕ, zero, suc, ◌+◌, ◌-◌, true, false, List, [], ◌∷◌, ◌++◌, length, replicate, refl, sym, ap, ◌∙◌, arith, append-nil, append_assoc, length-append}
use Rattle.std.proofs.lemmas.List.{length-replicate}
use Rattle.std.specs.List.{repeat}
use Rattle.std.specs.Char.{encode_utf8}
use Rattle.fixed_write.specs.declared.style.Style.{Style}
use Rattle.fixed_write.specs.Styled.{padded_text, fills_before}
use Rattle.fixed_write.specs.Inner.Styling.{laid_out}

pub repeat_more : (n : ℕ) (xs : List ℕ) → repeat (suc n) xs ≡ repeat n xs ++ xs
repeat_more zero xs = append-nil xs
repeat_more (suc n) xs = ap (λ (t : List ℕ). xs ++ t) (repeat_more n xs) ∙ sym (append_assoc xs (repeat n xs) xs)

pub repeat_one : (n x : ℕ) → repeat n (x ∷ []) ≡ replicate n x
repeat_one zero x = refl
repeat_one (suc n) x = ap (λ (t : List ℕ). x ∷ t) (repeat_one n x)

pub padded_text_zeros : (s : Style) (fill prefix body : List ℕ) (n : ℕ) → s.zero_pad ≡ true → n ≡ s.width - (length prefix + length body) → laid_out fill 0 prefix n body 0 ≡ padded_text s prefix body
unfolding padded_text
padded_text_zeros s fill prefix body n z e = rw (z, e) (simp (append_assoc, append-nil))

pub padded_text_sides : (s : Style) (prefix body : List ℕ) (n before : ℕ) → s.zero_pad ≡ false → n ≡ s.width - (length prefix + length body) → before ≡ fills_before s.align n → laid_out (encode_utf8 s.fill) before prefix 0 body (n - before) ≡ padded_text s prefix body
unfolding padded_text
padded_text_sides s prefix body n before z e b = rw (z, b, e) (simp append_assoc)

pub body_length : (digits tail : List ℕ) (zeros : ℕ) → length (digits ++ (replicate zeros 48 ++ tail)) ≡ length digits + zeros + length tail
body_length digits tail zeros = omega (arith, length-append digits (replicate zeros 48 ++ tail), length-append (replicate zeros 48) tail, length-replicate {A = ℕ} zeros 48)

pub pieces_joined : (fill prefix digits tail start a b c d e f g : List ℕ) (before inner zeros after : ℕ) → start ≡ [] → a ≡ start ++ repeat before fill → b ≡ a ++ prefix → c ≡ b ++ repeat inner (48 ∷ []) → d ≡ c ++ digits → e ≡ d ++ repeat zeros (48 ∷ []) → f ≡ e ++ tail → g ≡ f ++ repeat after fill → g ≡ laid_out fill before prefix inner (digits ++ (replicate zeros 48 ++ tail)) after
pieces_joined fill prefix digits tail start a b c d e f g before inner zeros after es ea eb ec ed ee ef eg =
    eg ∙ rw (ef, ee, ed, ec, eb, ea, es, repeat_one inner 48, repeat_one zeros 48) (simp append_assoc)

pub padded_zeros : (s : Style) (fill prefix digits tail : List ℕ) (zeros n : ℕ) → s.zero_pad ≡ true → n ≡ s.width - (length prefix + length digits + zeros + length tail) → laid_out fill 0 prefix n (digits ++ (replicate zeros 48 ++ tail)) 0 ≡ padded_text s prefix (digits ++ (replicate zeros 48 ++ tail))
padded_zeros s fill prefix digits tail zeros n z e =
    let same : n ≡ s.width - (length prefix + length (digits ++ (replicate zeros 48 ++ tail))) = omega (arith, body_length digits tail zeros) in
    padded_text_zeros s fill prefix (digits ++ (replicate zeros 48 ++ tail)) n z same

pub padded_sides : (s : Style) (fill prefix digits tail : List ℕ) (zeros n before : ℕ) → fill ≡ encode_utf8 s.fill → s.zero_pad ≡ false → n ≡ s.width - (length prefix + length digits + zeros + length tail) → before ≡ fills_before s.align n → laid_out fill before prefix 0 (digits ++ (replicate zeros 48 ++ tail)) (n - before) ≡ padded_text s prefix (digits ++ (replicate zeros 48 ++ tail))
padded_sides s fill prefix digits tail zeros n before f z e b =
    let same : n ≡ s.width - (length prefix + length (digits ++ (replicate zeros 48 ++ tail))) = omega (arith, body_length digits tail zeros) in
    rw f (padded_text_sides s prefix (digits ++ (replicate zeros 48 ++ tail)) n before z same b)
