-- Zeros at the ends, and where the point goes.
use Rattle.std.proofs.Common.{◌≡◌, ℕ, zero, suc, ◌+◌, ◌*◌, ◌^◌, ◌<◌, ◌≤◌, List, [], ◌∷◌, ◌++◌, length, take, drop, refl, sym, ap, ◌∙◌, arith, append_assoc, append-nil, length-append, add-one, take-append-drop, length-drop, pow_pos}
use Rattle.std.proofs.lemmas.List.{length-replicate, replicate_more, replicate-append-replicate, same_from_push, nil_from_length}
use Rattle.std.proofs.lemmas.Nat.{pow-add}
use Rattle.std.proofs.Math.Nat.{pow-zero, one-le-pow}
use Rattle.std.proofs.lemmas.Int.Digits.{number_after_ge}
use Rattle.std.specs.Int.Digits.{number_from_digits, number_from_digits_after, AllBelowBase}
use Rattle.fixed_numeral.proofs.ViewLemmas.{length_between}
use Rattle.fixed_numeral.specs.Spelled.{spelled, IsSameNumber}
use Rattle.fixed_numeral.proofs.SpelledLemmas.{number_append, number_zeros}
use Rattle.fixed_numeral.specs.Digits.{zeros, between_zeros}
use Rattle.fixed_numeral.specs.Place.{NoLeadingZero, NoTrailingZero}
use Rattle.fixed_numeral.specs.Inner.MovedPoint.{IsWithoutLeading, IsWithoutTrailing, IsPlaced, moved}

-- ---- zeros before and after a view
pub zeros_before : (n b : ℕ) (l r : List ℕ) (a : ℕ) → between_zeros (n + b) l r a ≡ zeros n ++ between_zeros b l r a
unfolding between_zeros
zeros_before n b l r a = ap (λ zs. zs ++ (l ++ (r ++ zeros a))) (sym (replicate-append-replicate n b 0)) ∙ append_assoc (zeros n) (zeros b) (l ++ (r ++ zeros a))

pub zeros_after : (n b : ℕ) (l r : List ℕ) (a : ℕ) → between_zeros b l r (a + n) ≡ between_zeros b l r a ++ zeros n
unfolding between_zeros
zeros_after n b l r a = ap (λ zs. zeros b ++ (l ++ (r ++ zs))) (sym (replicate-append-replicate a n 0)) ∙ simp append_assoc

pub between_alone : (l r : List ℕ) → between_zeros 0 l r 0 ≡ l ++ r
unfolding between_zeros
between_alone l r = ap (λ ys. l ++ ys) (append-nil r)

-- ---- no zeros at an end
pub no_leading : (rest others : List ℕ) (d : ℕ) → rest ≡ d ∷ others → (d ≡ 0 → ⊥) → NoLeadingZero rest
no_leading rest others d e n = λ xs f. let same : d ∷ others ≡ 0 ∷ xs = sym e ∙ f in let z : d ≡ 0 = cc in n z

pub no_trailing : (rest others : List ℕ) (d : ℕ) → rest ≡ others ++ d ∷ [] → (d ≡ 0 → ⊥) → NoTrailingZero rest
no_trailing rest others d e n = λ xs f. n (same_from_push others xs d 0 (sym e ∙ f)).1

pub none_leading : (rest : List ℕ) → rest ≡ [] → NoLeadingZero rest
none_leading rest e = λ xs f. let clash : [] ≡ 0 ∷ xs = sym e ∙ f in absurd (cc)

push_some : (xs : List ℕ) (d : ℕ) → [] ≡ xs ++ d ∷ [] → ⊥
push_some [] d e = absurd (cc)
push_some (x ∷ xs) d e = absurd (cc)

pub none_trailing : (rest : List ℕ) → rest ≡ [] → NoTrailingZero rest
none_trailing rest e = λ xs f. push_some xs 0 (sym e ∙ f)

-- ---- ends of parts
pub leading_prefix : (core : List ℕ) (p : ℕ) → NoLeadingZero core → NoLeadingZero (take p core)
leading_prefix core p n = λ xs e. n (xs ++ drop p core) (sym (take-append-drop p core) ∙ ap (λ ys. ys ++ drop p core) e)

pub leading_zeros_after : (core : List ℕ) (k : ℕ) → 0 < length core → NoLeadingZero core → NoLeadingZero (core ++ zeros k)
leading_zeros_after [] k l n = absurd (omega arith)
leading_zeros_after (d ∷ ds) k l n = λ xs e. n ds (let z : d ≡ 0 = cc in ap (λ x. x ∷ ds) z)

pub trailing_back : (core : List ℕ) (p : ℕ) → NoTrailingZero core → NoTrailingZero (drop p core)
trailing_back core p n = λ xs e. n (take p core ++ xs) (sym (take-append-drop p core) ∙ ap (λ ys. take p core ++ ys) e ∙ sym (append_assoc (take p core) xs (0 ∷ [])))

record IsPushed (ds : List ℕ) : Type 0 where
  prefix : List ℕ
  last : ℕ
  is : ds ≡ prefix ++ last ∷ []

pushed : (ds : List ℕ) → 0 < length ds → IsPushed ds
pushed [] l = absurd (omega arith)
pushed (d ∷ []) l = record { prefix = []; last = d; is = refl }
pushed (d ∷ e ∷ ds) l = let p = pushed (e ∷ ds) (omega arith) in record { prefix = d ∷ p.prefix; last = p.last; is = ap (λ ys. d ∷ ys) p.is }

pub trailing_zeros_before : (core : List ℕ) (k : ℕ) → 0 < length core → NoTrailingZero core → NoTrailingZero (zeros k ++ core)
trailing_zeros_before core k l n =
    let p = pushed core l in
    λ xs e. let same : (zeros k ++ p.prefix) ++ p.last ∷ [] ≡ xs ++ 0 ∷ [] = append_assoc (zeros k) p.prefix (p.last ∷ []) ∙ sym (ap (λ ys. zeros k ++ ys) p.is) ∙ e in
    n p.prefix (p.is ∙ ap (λ d. p.prefix ++ d ∷ []) ((same_from_push (zeros k ++ p.prefix) xs p.last 0 same).1))

-- ---- numbers
pub zeros_prefix : (b k : ℕ) (ds : List ℕ) → number_from_digits b (zeros k ++ ds) ≡ number_from_digits b ds
zeros_prefix b k ds = number_append b (zeros k) ds ∙ omega (arith, ap (λ i. i * b ^ length ds) (number_zeros b k))

zeros_end : (b k : ℕ) (ds : List ℕ) → number_from_digits b (ds ++ zeros k) ≡ number_from_digits b ds * b ^ k
zeros_end b k ds = number_append b ds (zeros k) ∙ omega (arith, number_zeros b k, ap (λ i. number_from_digits b ds * b ^ i) (length-replicate {A = ℕ} k 0))

-- `ds` are the digits of `core` between zeros
pub record IsTrimmed (ds core : List ℕ) (k j : ℕ) : Type 0 where
  pub split : ds ≡ zeros k ++ (core ++ zeros j)

trimmed_number : (b : ℕ) (ds core : List ℕ) (k j : ℕ) → IsTrimmed ds core k j → number_from_digits b ds ≡ number_from_digits b core * b ^ j
trimmed_number b ds core k j t = ap (number_from_digits b) t.split ∙ zeros_prefix b k (core ++ zeros j) ∙ zeros_end b j core

trimmed_length : (ds core : List ℕ) (k j : ℕ) → IsTrimmed ds core k j → length ds ≡ k + length core + j
trimmed_length ds core k j t = ap length t.split ∙ simp (length-append, length-replicate) (omega arith)

same_moved : (b n m s d u f e j : ℕ) → m ≡ n * b ^ j → s ≡ n * b ^ e → d + e ≡ j + u + f → s * 2 ^ 0 * b ^ d ≡ m * b ^ u * b ^ f
same_moved b n m s d u f e j hm hs h =
    rw (hm, hs) (omega (arith, ap (λ x. n * x) (sym (pow-add b d e) ∙ ap (λ i. b ^ i) h ∙ pow-add b (j + u) f ∙ ap (λ x. x * b ^ f) (pow-add b j u))))

-- the three ways to place the point
pub placed_before : (b : ℕ) (w r core : List ℕ) (k j up down u d z : ℕ) → IsTrimmed (w ++ r) core k j → z + (length w + up) ≡ k + down → u + (length r + down) ≡ d + up → IsSameNumber (spelled b [] (zeros z ++ core) 0) (moved b w r u d)
placed_before b w r core k j up down u d z t h m =
    let long = trimmed_length (w ++ r) core k j t in
    let f : length (zeros z ++ core) ≡ z + length core = length-append (zeros z) core ∙ ap (λ i. i + length core) (length-replicate {A = ℕ} z 0) in
    same_moved b (number_from_digits b core) (number_from_digits b (w ++ r)) (number_from_digits b (zeros z ++ core)) d u (length (zeros z ++ core)) 0 j
    (trimmed_number b (w ++ r) core k j t) (zeros_prefix b z core ∙ omega (arith, ap (λ i. number_from_digits b core * i) (pow-zero b))) (omega (arith, length-append w r))

pub placed_after : (b : ℕ) (w r core : List ℕ) (k j up down u d z : ℕ) → IsTrimmed (w ++ r) core k j → z + length core + (k + down) ≡ length w + up → u + (length r + down) ≡ d + up → IsSameNumber (spelled b (core ++ zeros z) [] 0) (moved b w r u d)
placed_after b w r core k j up down u d z t h m =
    let long = trimmed_length (w ++ r) core k j t in
    same_moved b (number_from_digits b core) (number_from_digits b (w ++ r)) (number_from_digits b ((core ++ zeros z) ++ [])) d u 0 z j
    (trimmed_number b (w ++ r) core k j t) (ap (number_from_digits b) (append-nil (core ++ zeros z)) ∙ zeros_end b z core) (omega (arith, length-append w r))

pub placed_inside : (b : ℕ) (w r core : List ℕ) (k j up down u d q : ℕ) → IsTrimmed (w ++ r) core k j → q + (k + down) ≡ length w + up → q < length core → u + (length r + down) ≡ d + up → IsSameNumber (spelled b (take q core) (drop q core) 0) (moved b w r u d)
placed_inside b w r core k j up down u d q t h l m =
    let long = trimmed_length (w ++ r) core k j t in
    same_moved b (number_from_digits b core) (number_from_digits b (w ++ r)) (number_from_digits b (take q core ++ drop q core)) d u (length (drop q core)) 0 j
    (trimmed_number b (w ++ r) core k j t) (ap (number_from_digits b) (take-append-drop q core) ∙ omega (arith, ap (λ i. number_from_digits b core * i) (pow-zero b))) (omega (arith, length-append w r, length-drop q core))

-- if all digits are zeros
pub placed_nothing : (b : ℕ) (w r core : List ℕ) (k j u d : ℕ) → IsTrimmed (w ++ r) core k j → core ≡ [] → IsSameNumber (spelled b [] [] 0) (moved b w r u d)
placed_nothing b w r core k j u d t e =
    let zero_core : number_from_digits b core ≡ 0 = ap (number_from_digits b) e in
    let none : number_from_digits b (w ++ r) ≡ 0 = trimmed_number b (w ++ r) core k j t ∙ omega (arith, ap (λ x. x * b ^ j) zero_core) in
    rw none (omega arith)

-- ---- restated for the goals
pub view_before : (v l' r' l r : List ℕ) (n b a : ℕ) → between_zeros b l r a ≡ v → l' ≡ l → r' ≡ r → between_zeros (n + b) l' r' a ≡ zeros n ++ v
view_before v l' r' l r n b a e f g = rw (f, g) (zeros_before n b l r a ∙ ap (λ ds. zeros n ++ ds) e)

pub view_after : (v l' r' l r : List ℕ) (n b a : ℕ) → between_zeros b l r a ≡ v → l' ≡ l → r' ≡ r → between_zeros b l' r' (a + n) ≡ v ++ zeros n
view_after v l' r' l r n b a e f g = rw (f, g) (zeros_after n b l r a ∙ ap (λ ds. ds ++ zeros n) e)

-- `core` is `w ++ r` without its k leading zeros and without its trailing zeros
pub record Cored (w r core : List ℕ) (k : ℕ) : Type 0 where
  pub count : ℕ
  pub trimmed : IsTrimmed (w ++ r) core k count
  pub leading : NoLeadingZero core
  pub trailing : NoTrailingZero core
  pub lengths : length w + length r ≡ k + length core + count

pub cored : (w r initial core : List ℕ) (k : ℕ) → IsWithoutLeading (w ++ r) initial → IsWithoutTrailing initial core → k + length initial ≡ length w + length r → Cored w r core k
cored w r initial core k a b l =
    let same : a.count ≡ k = omega (arith, l, ap length a.split, length-append w r, length-append (zeros a.count) initial, length-replicate {A = ℕ} a.count 0) in
    let t : IsTrimmed (w ++ r) core k b.count = record { split = a.split ∙ (rw (same, b.split) refl) } in
    record {
      count = b.count;
      trimmed = t;
      leading = λ xs f. a.none (xs ++ zeros b.count) (b.split ∙ ap (λ ds. ds ++ zeros b.count) f);
      trailing = b.none;
      lengths = sym (length-append w r) ∙ trimmed_length (w ++ r) core k b.count t;
    }

-- ---- every digit is below the base
pub below_append : (b : ℕ) (xs ys : List ℕ) → AllBelowBase b xs → AllBelowBase b ys → AllBelowBase b (xs ++ ys)
below_append b [] ys h k = k
below_append b (x ∷ xs) ys h k = (h.0, below_append b xs ys h.1 k)

pub below_parts : (b : ℕ) (xs ys : List ℕ) → AllBelowBase b (xs ++ ys) → AllBelowBase b xs × AllBelowBase b ys
below_parts b [] ys h = (tt, h)
below_parts b (x ∷ xs) ys h = let more = below_parts b xs ys h.1 in ((h.0, more.0), more.1)

pub below_zeros : (b k : ℕ) → 0 < b → AllBelowBase b (zeros k)
below_zeros b zero h = tt
below_zeros b (suc k) h = (h, below_zeros b k h)

pub below_core : (b : ℕ) (w r core : List ℕ) (k : ℕ) → Cored w r core k → AllBelowBase b w → AllBelowBase b r → AllBelowBase b core
below_core b w r core k t hw hr =
    let all = below_append b w r hw hr in
    (below_parts b core (zeros t.count) ((below_parts b (zeros k) (core ++ zeros t.count) (rw t.trimmed.split at all)).1)).0

pub below_split : (b : ℕ) (core : List ℕ) (q : ℕ) → AllBelowBase b core → AllBelowBase b (take q core) × AllBelowBase b (drop q core)
below_split b core q h =
    below_parts b (take q core) (drop q core) (rw (take-append-drop q core) h)

-- ---- the ways to place the point
pub nothing_placed : (w r core W F : List ℕ) (k up down : ℕ) → Cored w r core k → length core ≡ 0 → W ≡ [] → F ≡ [] → IsPlaced w r W F up down
nothing_placed w r core W F k up down t l e f = rw (e, f) (record {
  leading = none_leading [] refl;
  trailing = none_trailing [] refl;
  value = λ b u d m. placed_nothing b w r core k t.count u d t.trimmed (nil_from_length core l);
  below = λ b p hw hr. (tt, tt);
})

pub before_placed : (w r core W F : List ℕ) (k up down z : ℕ) → Cored w r core k → 0 < length core → z + (length w + up) ≡ k + down → W ≡ [] → F ≡ zeros z ++ core → IsPlaced w r W F up down
before_placed w r core W F k up down z t l h e f = rw (e, f) (record {
  leading = none_leading [] refl;
  trailing = trailing_zeros_before core z l t.trailing;
  value = λ b u d m. placed_before b w r core k t.count up down u d z t.trimmed h m;
  below = λ b p hw hr. (tt, below_append b (zeros z) core (below_zeros b z p) (below_core b w r core k t hw hr));
})

pub after_placed : (w r core W F : List ℕ) (k up down z : ℕ) → Cored w r core k → 0 < length core → z + length core + (k + down) ≡ length w + up → W ≡ core ++ zeros z → F ≡ [] → IsPlaced w r W F up down
after_placed w r core W F k up down z t l h e f = rw (e, f) (record {
  leading = leading_zeros_after core z l t.leading;
  trailing = none_trailing [] refl;
  value = λ b u d m. placed_after b w r core k t.count up down u d z t.trimmed h m;
  below = λ b p hw hr. (below_append b core (zeros z) (below_core b w r core k t hw hr) (below_zeros b z p), tt);
})

pub inside_placed : (w r core W F : List ℕ) (k up down q : ℕ) → Cored w r core k → q < length core → q + (k + down) ≡ length w + up → W ≡ take q core → F ≡ drop q core → IsPlaced w r W F up down
inside_placed w r core W F k up down q t l h e f = rw (e, f) (record {
  leading = leading_prefix core q t.leading;
  trailing = trailing_back core q t.trailing;
  value = λ b u d m. placed_inside b w r core k t.count up down u d q t.trimmed h l m;
  below = λ b p hw hr. below_split b core q (below_core b w r core k t hw hr);
})

pub stays_placed : (w r W F : List ℕ) → IsWithoutLeading w W → IsWithoutTrailing r F → IsPlaced w r W F 0 0
stays_placed w r W F a b = record {
  leading = a.none;
  trailing = b.none;
  value = λ base u d m.
      let t : IsTrimmed (w ++ r) (W ++ F) a.count b.count = record { split = rw (a.split, b.split) (append_assoc (zeros a.count) W (F ++ zeros b.count) ∙ ap (λ ds. zeros a.count ++ ds) (sym (append_assoc W F (zeros b.count)))) } in
      let long : length r ≡ length F + b.count = ap length b.split ∙ length-append F (zeros b.count) ∙ ap (λ i. length F + i) (length-replicate {A = ℕ} b.count 0) in
      same_moved base (number_from_digits base (W ++ F)) (number_from_digits base (w ++ r)) (number_from_digits base (W ++ F)) d u (length F) 0 b.count
      (trimmed_number base (w ++ r) (W ++ F) a.count b.count t) (omega (arith, ap (λ i. number_from_digits base (W ++ F) * i) (pow-zero base))) (omega (arith, long));
  below = λ base p hw hr. ((below_parts base (zeros a.count) W (rw a.split at hw)).1, (below_parts base F (zeros b.count) (rw b.split at hr)).0);
}

-- ---- zeros at an end of two pieces
pub led_whole : (w f r : List ℕ) → IsWithoutLeading w f → 0 < length f → IsWithoutLeading (w ++ r) (f ++ r)
led_whole w [] r a l = absurd (omega arith)
led_whole w (d ∷ ds) r a l = record { count = a.count; split = ap (λ xs. xs ++ r) a.split ∙ append_assoc (zeros a.count) (d ∷ ds) r; none = λ xs e. a.none ds (let z : d ≡ 0 = cc in ap (λ x. x ∷ ds) z) }

pub led_both : (w f r g : List ℕ) → IsWithoutLeading w f → length f ≤ 0 → IsWithoutLeading r g → IsWithoutLeading (w ++ r) (f ++ g)
led_both w (d ∷ ds) r g a l b = absurd (omega arith)
led_both w [] r g a l b = record { count = a.count + b.count; split = rw (a.split, b.split) (ap (λ xs. xs ++ (zeros b.count ++ g)) (append-nil (zeros a.count)) ∙ sym (append_assoc (zeros a.count) (zeros b.count) g) ∙ ap (λ xs. xs ++ g) (replicate-append-replicate a.count b.count 0)); none = b.none }

pub trailed_fraction : (w r g : List ℕ) → IsWithoutTrailing r g → 0 < length g → IsWithoutTrailing (w ++ r) (w ++ g)
trailed_fraction w r g a l =
    let p = pushed g l in
    record {
      count = a.count;
      split = ap (λ xs. w ++ xs) a.split ∙ sym (append_assoc w g (zeros a.count));
      none = λ xs e.
          let same : (w ++ p.prefix) ++ p.last ∷ [] ≡ xs ++ 0 ∷ [] = append_assoc w p.prefix (p.last ∷ []) ∙ sym (ap (λ ys. w ++ ys) p.is) ∙ e in
          a.none p.prefix (p.is ∙ ap (λ d. p.prefix ++ d ∷ []) ((same_from_push (w ++ p.prefix) xs p.last 0 same).1));
    }

pub trailed_both : (w f r g : List ℕ) → IsWithoutTrailing w f → length g ≤ 0 → IsWithoutTrailing r g → IsWithoutTrailing (w ++ r) (f ++ g)
trailed_both w f r (d ∷ ds) a l b = absurd (omega arith)
trailed_both w f r [] a l b = record { count = a.count + b.count; split = rw (a.split, b.split) (append_assoc f (zeros a.count) (zeros b.count) ∙ ap (λ xs. f ++ xs) (replicate-append-replicate a.count b.count 0) ∙ ap (λ xs. xs ++ zeros (a.count + b.count)) (sym (append-nil f))); none = λ xs e. a.none xs (sym (append-nil f) ∙ e) }

-- ---- the number zero has no digits other than zeros
zero_product : (x y : ℕ) → 0 < y → x * y ≡ 0 → x ≡ 0
zero_product zero y p e = refl
zero_product (suc x) y p e = absurd (omega arith)

number_zero : (b : ℕ) (ds : List ℕ) → 0 < b → number_from_digits b ds ≡ 0 → ds ≡ zeros (length ds)
number_zero b [] p e = refl
number_zero b (zero ∷ ds) p e =
    ap (λ xs. 0 ∷ xs) (number_zero b ds p (ap (λ n. number_from_digits_after b n ds) (omega arith) ∙ e))
number_zero b (suc d ∷ ds) p e = absurd (omega (arith, number_after_ge b (0 * b + suc d) ds p))

pub no_digits_leading : (b : ℕ) (ds : List ℕ) → 0 < b → NoLeadingZero ds → number_from_digits b ds ≡ 0 → ds ≡ []
no_digits_leading b [] p n e = refl
no_digits_leading b (d ∷ ds) p n e = absurd (n (zeros (length ds)) (number_zero b (d ∷ ds) p e))

pub no_digits_trailing : (b : ℕ) (ds : List ℕ) → 0 < b → NoTrailingZero ds → number_from_digits b ds ≡ 0 → ds ≡ []
no_digits_trailing b [] p n e = refl
no_digits_trailing b (d ∷ ds) p n e = absurd (n (zeros (length ds)) (number_zero b (d ∷ ds) p e ∙ sym (replicate_more (length ds) 0 ∙ ap zeros (add-one (length ds)))))

pub zero_views : (b shift : ℕ) (w f : List ℕ) → 0 < b → NoLeadingZero w → NoTrailingZero f → (spelled b w f shift).num ≡ 0 → (w ≡ []) × (f ≡ [])
zero_views b shift w f p nl nt e =
    let all : number_from_digits b (w ++ f) ≡ 0 = zero_product _ (2 ^ shift) (pow_pos shift) e in
    let parts = number_append b w f in
    let initial : number_from_digits b w ≡ 0 = zero_product _ (b ^ length f) (one-le-pow (length f) b p) (omega arith) in
    (no_digits_leading b w p nl initial, no_digits_trailing b f p nt (omega arith))

pub led_shorter : (w r f g : List ℕ) → IsWithoutLeading (w ++ r) (f ++ g) → length f + length g ≤ length w + length r
led_shorter w r f g a = omega (arith, ap length a.split, length-append w r, length-append f g, length-append (zeros a.count) (f ++ g))

pub trailed_shorter : (w r f g : List ℕ) → IsWithoutTrailing (w ++ r) (f ++ g) → length f + length g ≤ length w + length r
trailed_shorter w r f g a = omega (arith, ap length a.split, length-append w r, length-append f g, length-append (f ++ g) (zeros a.count))

-- the core of two pieces, as one view
pub core_length : (l r core : List ℕ) → core ≡ between_zeros 0 l r 0 → length core ≡ length l + length r
core_length l r core e = ap length e ∙ length_between 0 l r 0 ∙ omega arith

pub core_is : (w r f g l m core : List ℕ) (k : ℕ) → IsWithoutLeading (w ++ r) (f ++ g) → IsWithoutTrailing (f ++ g) (l ++ m) → k + (length f + length g) ≡ length w + length r → core ≡ between_zeros 0 l m 0 → Cored w r core k
core_is w r f g l m core k a b n e =
    cored w r (f ++ g) core k a (rw (e ∙ between_alone l m) b) (omega (arith, length-append f g))

-- digits without trailing zeros
pub ruleset trailed = (trailed_fraction, trailed_both, trailed_shorter)

-- digits without leading zeros
pub ruleset led = (led_whole, led_both, led_shorter)
