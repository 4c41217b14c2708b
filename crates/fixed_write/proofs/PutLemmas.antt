-- Parts put into bytes one after another.
use Rattle.std.proofs.Common.{◌≡◌, ℕ, zero, suc, ◌+◌, ◌-◌, ◌*◌, ◌≤◌, List, [], ◌∷◌, ◌++◌, length, take, drop, replicate, refl, sym, ap, subst, ◌∙◌, arith, add-one, append_assoc, length-append, take-append-drop}
use borrow.Rule.Slice.PartMut.{put_mid}
use Rattle.std.proofs.lemmas.List.{drop-drop, length-replicate}
use Rattle.std.proofs.lemmas.Slice.{drop-put_mid, take-put_mid}
use Rattle.std.specs.List.{repeat}
use Rattle.fixed_write.specs.Inner.Styling.{IsPut, laid_out, body_text}
use Rattle.fixed_write.proofs.PaddingLemmas.{repeat_more, repeat_one}

pub put_part : (part xs ys : List ℕ) (at end : ℕ) → ys ≡ part → end ≡ at + length part → end ≤ length xs → IsPut part xs (put_mid at (end - at) xs ys) at end
put_part part xs ys at end same e l = rw same (record {
  place = e;
  text = take-put_mid at (end - at) xs part end e (omega arith);
  rest = drop-put_mid at (end - at) xs part end (omega arith) (omega arith) (omega arith);
})

-- one part after another
pub put_more : (p q a b c : List ℕ) (i j k : ℕ) → IsPut p a b i j → IsPut q b c j k → IsPut (p ++ q) a c i k
put_more p q a b c i j k h g =
    let e : k ≡ j + length q = g.place in
    let behind : drop (j + length q) b ≡ drop (j + length q) a = sym (drop-drop (length q) j b) ∙ (ap (λ (t : List ℕ). drop (length q) t) h.rest ∙ drop-drop (length q) j a) in
    record {
      place = omega (arith, h.place, g.place, length-append p q);
      text = g.text ∙ (ap (λ (t : List ℕ). t ++ q) h.text ∙ append_assoc (take i a) p q);
      rest = g.rest ∙ rw e behind;
    }

pub put_again : (p a b c : List ℕ) (n i j k : ℕ) → IsPut (repeat n p) a b i j → IsPut p b c j k → IsPut (repeat (n + 1) p) a c i k
put_again p a b c n i j k h g = rw (add-one, repeat_more) (put_more (repeat n p) p a b c i j k h g)

-- a text put at the start
pub put_all : (text a b : List ℕ) (end : ℕ) → IsPut text a b 0 end → b ≡ text ++ drop (length text) a
put_all text a b end h =
    let e : end ≡ length text = omega (arith, h.place) in
    sym (take-append-drop end b) ∙ (ap (λ (t : List ℕ). t ++ drop end b) h.text ∙ ap (λ (t : List ℕ). text ++ t) (h.rest ∙ rw e refl))

-- ---- the text as it is laid out
pub repeat_length : (n : ℕ) (xs : List ℕ) → length (repeat n xs) ≡ n * length xs
repeat_length zero xs = omega arith
repeat_length (suc n) xs = length-append xs (repeat n xs) ∙ omega (arith, repeat_length n xs)

pub laid_parts : (fill prefix digits tail : List ℕ) (before inner zeros after : ℕ)
    → (((((repeat before fill ++ prefix) ++ repeat inner (48 ∷ [])) ++ digits) ++ repeat zeros (48 ∷ [])) ++ tail) ++ repeat after fill
    ≡ laid_out fill before prefix inner (body_text digits zeros tail) after
laid_parts fill prefix digits tail before inner zeros after = rw (repeat_one inner 48, repeat_one zeros 48) (simp append_assoc)

pub laid_length : (fill prefix digits tail : List ℕ) (before inner zeros after : ℕ)
    → length (laid_out fill before prefix inner (body_text digits zeros tail) after)
    ≡ (before + after) * length fill + length prefix + inner + length digits + zeros + length tail
laid_length fill prefix digits tail before inner zeros after =
    omega (
      arith,
      length-append (repeat before fill) (prefix ++ (replicate inner 48 ++ (body_text digits zeros tail ++ repeat after fill))),
      length-append prefix (replicate inner 48 ++ (body_text digits zeros tail ++ repeat after fill)),
      length-append (replicate inner 48) (body_text digits zeros tail ++ repeat after fill),
      length-append (body_text digits zeros tail) (repeat after fill),
      length-append digits (replicate zeros 48 ++ tail),
      length-append (replicate zeros 48) tail,
      length-replicate {A = ℕ} inner 48,
      length-replicate {A = ℕ} zeros 48,
      repeat_length before fill,
      repeat_length after fill,
    )

-- the parts of a text, put one after another
pub put_laid : (fill prefix digits tail : List ℕ) (before inner zeros after : ℕ) (o o1 o2 o3 o4 o5 o6 o7 : List ℕ) (a1 a2 a3 a4 a5 a6 a7 : ℕ)
    → IsPut (repeat before fill) o o1 0 a1 → IsPut prefix o1 o2 a1 a2 → IsPut (repeat inner (48 ∷ [])) o2 o3 a2 a3 → IsPut digits o3 o4 a3 a4
    → IsPut (repeat zeros (48 ∷ [])) o4 o5 a4 a5 → IsPut tail o5 o6 a5 a6 → IsPut (repeat after fill) o6 o7 a6 a7
    → IsPut (laid_out fill before prefix inner (body_text digits zeros tail) after) o o7 0 a7
put_laid fill prefix digits tail before inner zeros after o o1 o2 o3 o4 o5 o6 o7 a1 a2 a3 a4 a5 a6 a7 f p i d z t g =
    let x2 = put_more (repeat before fill) prefix o o1 o2 0 a1 a2 f p in
    let x3 = put_more (repeat before fill ++ prefix) (repeat inner (48 ∷ [])) o o2 o3 0 a2 a3 x2 i in
    let x4 = put_more ((repeat before fill ++ prefix) ++ repeat inner (48 ∷ [])) digits o o3 o4 0 a3 a4 x3 d in
    let x5 = put_more (((repeat before fill ++ prefix) ++ repeat inner (48 ∷ [])) ++ digits) (repeat zeros (48 ∷ [])) o o4 o5 0 a4 a5 x4 z in
    let x6 = put_more ((((repeat before fill ++ prefix) ++ repeat inner (48 ∷ [])) ++ digits) ++ repeat zeros (48 ∷ [])) tail o o5 o6 0 a5 a6 x5 t in
    let x7 = put_more (((((repeat before fill ++ prefix) ++ repeat inner (48 ∷ [])) ++ digits) ++ repeat zeros (48 ∷ [])) ++ tail) (repeat after fill) o o6 o7 0 a6 a7 x6 g in
    subst (λ (text : List ℕ). IsPut text o o7 0 a7) (laid_parts fill prefix digits tail before inner zeros after) x7
