-- The order of formats, and their ranks.
use Rattle.std.proofs.Common.{◌≡◌, ℕ, ◌+◌, ◌-◌, ◌*◌, ◌<◌, ◌≤◌, ◌⊎◌, Bool, true, false, refl, ap, ◌∙◌, arith, inl, inr, ⊎_elim}
use Rattle.std.proofs.lemmas.Bool.{cases_lt}
use Rattle.fixed_bits.specs.Formats.{FormatParts, IsTypeFormat}
use Rattle.fixed_bits.specs.Ranges.{IsTypeWidth}
use Rattle.fixed_bits.specs.Laws.{RankIsOrder, RankIsTheOne}
use Rattle.fixed_bits.specs.Order.{IsBefore, rank, rank_of_width, rank_of_sign}

-- the ranks of a smaller width are smaller
widths_apart : (v w : ℕ) → IsTypeWidth v → IsTypeWidth w → v < w → rank_of_width v + 2 * (v + 1) ≤ rank_of_width w
widths_apart v w (inl e) (inl h) l = absurd (omega (arith, e, h, l))
widths_apart v w (inl e) (inr (inl h)) l = rw (e, h) (omega arith)
widths_apart v w (inl e) (inr (inr (inl h))) l = rw (e, h) (omega arith)
widths_apart v w (inl e) (inr (inr (inr h))) l = rw (e, h) (omega arith)
widths_apart v w (inr (inl e)) (inl h) l = absurd (omega (arith, e, h, l))
widths_apart v w (inr (inl e)) (inr (inl h)) l = absurd (omega (arith, e, h, l))
widths_apart v w (inr (inl e)) (inr (inr (inl h))) l = rw (e, h) (omega arith)
widths_apart v w (inr (inl e)) (inr (inr (inr h))) l = rw (e, h) (omega arith)
widths_apart v w (inr (inr (inl e))) (inl h) l = absurd (omega (arith, e, h, l))
widths_apart v w (inr (inr (inl e))) (inr (inl h)) l = absurd (omega (arith, e, h, l))
widths_apart v w (inr (inr (inl e))) (inr (inr (inl h))) l = absurd (omega (arith, e, h, l))
widths_apart v w (inr (inr (inl e))) (inr (inr (inr h))) l = rw (e, h) (omega arith)
widths_apart v w (inr (inr (inr e))) (inl h) l = absurd (omega (arith, e, h, l))
widths_apart v w (inr (inr (inr e))) (inr (inl h)) l = absurd (omega (arith, e, h, l))
widths_apart v w (inr (inr (inr e))) (inr (inr (inl h))) l = absurd (omega (arith, e, h, l))
widths_apart v w (inr (inr (inr e))) (inr (inr (inr h))) l = absurd (omega (arith, e, h, l))

pub within_width : (s : Bool) (w f : ℕ) → f ≤ w → rank_of_sign s w + f < 2 * (w + 1)
within_width true w f fits = omega arith
within_width false w f fits = omega arith

wider : (f g : FormatParts) → IsTypeFormat f.width f.frac → IsTypeFormat g.width g.frac → f.width < g.width → rank f < rank g
wider f g x y l = omega (arith, widths_apart f.width g.width x.is_width y.is_width l, within_width f.signed f.width f.frac x.within)

same_width : (s t : Bool) (w f g : ℕ) → f ≤ w → (((s ≡ false) × (t ≡ true)) ⊎ ((s ≡ t) × (f < g))) → rank_of_sign s w + f < rank_of_sign t w + g
same_width s t w f g fits (inl h) = rw (h.0, h.1) (omega arith)
same_width s t w f g fits (inr h) = rw h.0 (omega (arith, h.1))

same_back : (s t : Bool) (w f g : ℕ) → g ≤ w → rank_of_sign s w + f < rank_of_sign t w + g → ((s ≡ false) × (t ≡ true)) ⊎ ((s ≡ t) × (f < g))
same_back true true w f g fits l = inr (refl, omega (arith, l))
same_back true false w f g fits l = absurd (omega (arith, l, fits))
same_back false true w f g fits l = inl (refl, refl)
same_back false false w f g fits l = inr (refl, omega (arith, l))

-- the rank of a format of width `w`
rank_at : (f : FormatParts) (w : ℕ) → f.width ≡ w → rank f ≡ rank_of_width w + (rank_of_sign f.signed w + f.frac)
rank_at f w e = ap (λ n. rank_of_width n + (rank_of_sign f.signed n + f.frac)) e

pub rank_order : RankIsOrder
rank_order f g x y = (to, back)
  where
    to : IsBefore f g → rank f < rank g
    to (inl l) = wider f g x y l
    to (inr (inl h)) = omega (arith, rank_at f g.width h.0, same_width f.signed g.signed g.width f.frac g.frac (omega (arith, x.within, h.0)) (inl (h.1, h.2)))
    to (inr (inr h)) = omega (arith, rank_at f g.width h.0, same_width f.signed g.signed g.width f.frac g.frac (omega (arith, x.within, h.0)) (inr (h.1, h.2)))

    level : f.width ≡ g.width → rank f < rank g → IsBefore f g
    level e l =
        let inner : rank_of_sign f.signed g.width + f.frac < rank_of_sign g.signed g.width + g.frac = omega (arith, rank_at f g.width e, l) in
        ⊎_elim (λ h. inr (inl (e, h.0, h.1))) (λ h. inr (inr (e, h.0, h.1))) (same_back f.signed g.signed g.width f.frac g.frac y.within inner)

    back : rank f < rank g → IsBefore f g
    back l =
        ⊎_elim
        (λ (less : f.width < g.width). inl less)
        (λ (more : g.width ≤ f.width). ⊎_elim
        (λ (past : g.width < f.width). absurd (let other : rank g < rank f = wider g f y x past in omega (arith, other, l)))
        (λ (not_past : f.width ≤ g.width). level (omega (arith, more, not_past)) l)
        (cases_lt g.width f.width))
        (cases_lt f.width g.width)

-- equal ranks within one width belong to one format
same_level : (s t : Bool) (w f g : ℕ) → f ≤ w → g ≤ w → rank_of_sign s w + f ≡ rank_of_sign t w + g → (s ≡ t) × (f ≡ g)
same_level true true w f g x y e = (refl, omega (arith, e))
same_level true false w f g x y e = absurd (omega (arith, e, y))
same_level false true w f g x y e = absurd (omega (arith, e, x))
same_level false false w f g x y e = (refl, omega (arith, e))

abbrev parts : Bool → ℕ → ℕ → FormatParts
parts s w f = record { signed = s; width = w; frac = f }

parts_are : (f g : FormatParts) → f.signed ≡ g.signed → f.width ≡ g.width → f.frac ≡ g.frac → f ≡ g
parts_are f g s w r = ap (λ x. parts x f.width f.frac) s ∙ (ap (λ x. parts g.signed x f.frac) w ∙ ap (λ x. parts g.signed g.width x) r)

pub rank_unique : (f g : FormatParts) → IsTypeFormat f.width f.frac → IsTypeFormat g.width g.frac → rank f ≡ rank g → f ≡ g
rank_unique f g x y e =
    ⊎_elim
    (λ (less : f.width < g.width). absurd (omega (arith, e, wider f g x y less)))
    (λ (more : g.width ≤ f.width). ⊎_elim
    (λ (past : g.width < f.width). absurd (omega (arith, e, wider g f y x past)))
    (λ (not_past : f.width ≤ g.width).
    let w : f.width ≡ g.width = omega (arith, more, not_past) in
    let level = same_level f.signed g.signed g.width f.frac g.frac (omega (arith, x.within, w)) y.within (omega (arith, e, rank_at f g.width w)) in
    parts_are f g level.0 w level.1)
    (cases_lt g.width f.width))
    (cases_lt f.width g.width)

-- all ranks are below 248
most_of : (w : ℕ) → IsTypeWidth w → rank_of_width w + 2 * (w + 1) ≤ 248
most_of w (inl e) = rw e (omega arith)
most_of w (inr (inl e)) = rw e (omega arith)
most_of w (inr (inr (inl e))) = rw e (omega arith)
most_of w (inr (inr (inr e))) = rw e (omega arith)

pub rank_below : (f : FormatParts) → IsTypeFormat f.width f.frac → rank f < 248
rank_below f is = omega (arith, most_of f.width is.is_width, within_width f.signed f.width f.frac is.within)

-- each number below 248 is the rank of a format
in_width : (w base n : ℕ) → IsTypeWidth w → rank_of_width w ≡ base → base ≤ n → n < base + 2 * (w + 1) → (g : FormatParts) × IsTypeFormat g.width g.frac × (rank g ≡ n)
in_width w base n is place low high =
    ⊎_elim
    (λ (less : n - base < w + 1). (record { signed = false; width = w; frac = n - base }, record { is_width = is; within = omega arith }, omega (arith, place, low, less)))
    (λ (more : w + 1 ≤ n - base). (record { signed = true; width = w; frac = n - base - (w + 1) }, record { is_width = is; within = omega (arith, high, more) }, omega (arith, place, low, more, high)))
    (cases_lt (n - base) (w + 1))

pub rank_has_format : (n : ℕ) → n < 248 → (g : FormatParts) × IsTypeFormat g.width g.frac × (rank g ≡ n)
rank_has_format n most =
    ⊎_elim
    (λ (a : n < 18). in_width 8 0 n (inl refl) refl (omega arith) (omega (arith, a)))
    (λ (b : 18 ≤ n). ⊎_elim
    (λ (c : n < 52). in_width 16 18 n (inr (inl refl)) refl b (omega (arith, c)))
    (λ (d : 52 ≤ n). ⊎_elim
    (λ (e : n < 118). in_width 32 52 n (inr (inr (inl refl))) refl d (omega (arith, e)))
    (λ (f : 118 ≤ n). in_width 64 118 n (inr (inr (inr refl))) refl f (omega (arith, most)))
    (cases_lt n 118))
    (cases_lt n 52))
    (cases_lt n 18)

pub rank_is_one : RankIsTheOne
rank_is_one = (rank_below, rank_has_format, rank_unique)
