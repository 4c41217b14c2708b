-- The slots of formats: kinds, intervals of fraction lengths, and how one more value changes them.
use Rattle.std.proofs.Common.{◌≡◌, ℕ, ◌+◌, ◌-◌, ◌*◌, ◌^◌, ◌<◌, ◌≤◌, ◌⊎◌, Bool, true, false, List, length, get_or, set, refl, sym, ap, ◌∙◌, subst, arith, pow_pos, inl, inr, ⊎_elim, mul-le-mul_left}
use Rattle.std.specs.Prelude.{Option, Some, None}
use Rattle.std.proofs.Math.Nat.{le_of_mul-le-mul_left}
use Rattle.std.proofs.Math.Pow.{pow_mono}
use Rattle.std.proofs.lemmas.Bool.{cases_lt}
use Rattle.std.proofs.lemmas.Int.{ints}
use Rattle.std.proofs.lemmas.List.{get_or-set_other, get_or-set_same}
use Rattle.std.proofs.lemmas.Nat.{pow-add}
use Rattle.fixed_bits.specs.Formats.{FormatParts, IsTypeFormat}
use Rattle.fixed_bits.specs.Ranges.{IsInRange, IsTypeWidth}
use Rattle.fixed_bits.specs.Numbers.{with_sign}
use Rattle.fixed_least.specs.Inner.Slots.{AreLiving, AreNoted, IsLiving, IsNoted, slot, slot_of, kind_format, kind_of, kind_signed, kind_width}
use Rattle.fixed_least.specs.Inner.Exact.{HasUlps}
use Rattle.fixed_least.specs.Inner.Valued.{HasValue}
use Rattle.fixed_least.specs.declared.exact.Exact.{Exact}

-- ---- kinds
pub record IsKindOf (s : Bool) (n : ℕ) : Type 0 where
  pub width : kind_width (kind_of s n) ≡ n
  pub signed : kind_signed (kind_of s n) ≡ s
  pub below : kind_of s n < 8

pub kind_back : (s : Bool) (n : ℕ) → IsTypeWidth n → IsKindOf s n
kind_back true n (inl e) = rw e (record { width = refl; signed = refl; below = omega arith })
kind_back true n (inr (inl e)) = rw e (record { width = refl; signed = refl; below = omega arith })
kind_back true n (inr (inr (inl e))) = rw e (record { width = refl; signed = refl; below = omega arith })
kind_back true n (inr (inr (inr e))) = rw e (record { width = refl; signed = refl; below = omega arith })
kind_back false n (inl e) = rw e (record { width = refl; signed = refl; below = omega arith })
kind_back false n (inr (inl e)) = rw e (record { width = refl; signed = refl; below = omega arith })
kind_back false n (inr (inr (inl e))) = rw e (record { width = refl; signed = refl; below = omega arith })
kind_back false n (inr (inr (inr e))) = rw e (record { width = refl; signed = refl; below = omega arith })

-- a format from its sign rule, width and fraction length
abbrev parts : Bool → ℕ → ℕ → FormatParts
parts s n f = record { signed = s; width = n; frac = f }

pub kind_format_is : (f : FormatParts) → IsTypeFormat f.width f.frac → kind_format (kind_of f.signed f.width) f.frac ≡ f
kind_format_is f is =
    let k = kind_back f.signed f.width is.is_width in
    ap (λ s. parts s (kind_width (kind_of f.signed f.width)) f.frac) k.signed ∙ ap (λ n. parts f.signed n f.frac) k.width

pub kind_width_most : (j : ℕ) → kind_width j ≤ 64
kind_width_most j = grind arith

-- ---- a value fits a kind's formats in one interval of fraction lengths
smaller_in : (s : Bool) (n c d : ℕ) (minus : Bool) → c ≤ d → IsInRange s n (with_sign minus d) → IsInRange s n (with_sign minus c)
smaller_in true n c d false le h = record { low = omega (arith, ints); high = let u = h.high in omega (arith, ints) }
smaller_in false n c d false le h = record { low = omega (arith, ints); high = let u = h.high in omega (arith, ints) }
smaller_in true n c d true le h = record { low = let l = h.low in omega (arith, ints); high = omega (arith, ints, pow_pos (n - 1)) }
smaller_in false n c d true le h = record { low = let l = h.low in omega (arith, ints); high = omega (arith, ints, pow_pos n) }

split_ulps : (ulps c big up down : ℕ) → ulps ≡ c * big → big ≡ up * down → ulps ≡ (c * up) * down
split_ulps ulps c big up down e p = e ∙ (ap (λ x. c * x) p ∙ omega arith)

fewer : (ulps c d down less : ℕ) → 0 < down → less ≤ down → ulps ≡ c * down → ulps ≡ d * less → c ≤ d
fewer ulps c d down less some le x y =
    let grown : d * less ≤ d * down = mul-le-mul_left d le in
    le_of_mul-le-mul_left {k = down} (omega (arith, grown, x, y)) some

pub between : (s : Bool) (n a k b : ℕ) (minus : Bool) (ulps : ℕ) → a ≤ k → k ≤ b → b ≤ 64 → HasUlps (parts s n a) minus ulps → HasUlps (parts s n b) minus ulps → HasUlps (parts s n k) minus ulps
between s n a k b minus ulps low high most x y =
    let sum : 64 - a ≡ (k - a) + (64 - k) = omega arith in
    let power : 2 ^ (64 - a) ≡ 2 ^ (k - a) * 2 ^ (64 - k) = ap (λ e. 2 ^ e) sum ∙ pow-add 2 (k - a) (64 - k) in
    let split : ulps ≡ (x.count * 2 ^ (k - a)) * 2 ^ (64 - k) = split_ulps ulps x.count (2 ^ (64 - a)) (2 ^ (k - a)) (2 ^ (64 - k)) x.split power in
    let exponents : 64 - b ≤ 64 - k = omega arith in
    let less : 2 ^ (64 - b) ≤ 2 ^ (64 - k) = pow_mono exponents in
    record {
      count = x.count * 2 ^ (k - a);
      split = split;
      in_range = smaller_in s n (x.count * 2 ^ (k - a)) y.count minus (fewer ulps (x.count * 2 ^ (k - a)) y.count (2 ^ (64 - k)) (2 ^ (64 - b)) (pow_pos (64 - k)) less split y.split) y.in_range;
    }

value_between : (j a k b : ℕ) (value : Option Exact) → a ≤ k → k ≤ b → b ≤ 64 → HasValue (kind_format j a) value → HasValue (kind_format j b) value → HasValue (kind_format j k) value
value_between j a k b None low high most x y = absurd x
value_between j a k b (Some e) low high most x y = between (kind_signed j) (kind_width j) a k b e.negative e.ulps low high most x y

-- ---- one kind after a value
-- a place was written from `low` up to `first`, and from `high` down to `end`
pub record IsRefutedKind (j low first end high : ℕ) (value : Option Exact) (place : ℕ) (old mid new : List ℕ) : Type 0 where
  pub low_first : low ≤ first
  pub first_end : first ≤ end
  pub end_high : end ≤ high
  pub most : high ≤ kind_width j + 1
  pub up : (k : ℕ) → low ≤ k → k < first → (get_or mid (slot j k) 0 ≡ place) × (HasValue (kind_format j k) value → ⊥)
  pub up_others : (i : ℕ) → (i < slot j low) ⊎ (slot j first ≤ i) → get_or mid i 0 ≡ get_or old i 0
  pub up_held : first < high → HasValue (kind_format j first) value
  pub down : (k : ℕ) → end ≤ k → k < high → (get_or new (slot j k) 0 ≡ place) × (HasValue (kind_format j k) value → ⊥)
  pub down_others : (i : ℕ) → (i < slot j end) ⊎ (slot j high ≤ i) → get_or new i 0 ≡ get_or mid i 0
  pub down_held : first < end → HasValue (kind_format j (end - 1)) value

-- the five intervals that `low`, `first`, `end` and `high` make of the fraction lengths
by_part : (P : Type 0) (low first end high k : ℕ) → ((k < low) → P) → (low ≤ k → k < first → P) → (first ≤ k → k < end → P) → (end ≤ k → k < high → P) → (high ≤ k → P) → P
by_part P low first end high k a b c d e =
    ⊎_elim a (λ (x : low ≤ k). ⊎_elim (λ (y : k < first). b x y) (λ (y : first ≤ k). ⊎_elim (λ (z : k < end). c y z) (λ (z : end ≤ k). ⊎_elim (λ (w : k < high). d z w) e (cases_lt k high)) (cases_lt k end)) (cases_lt k first)) (cases_lt k low)

module _ (j low first end high : ℕ) (value : Option Exact) (place : ℕ) (old mid new : List ℕ) (some : 0 < place) (living : IsLiving j low high old) (h : IsRefutedKind j low first end high value place old mid new) where
  before : (k : ℕ) → k < low → get_or new (slot j k) 0 ≡ get_or old (slot j k) 0
  before k l = h.down_others (slot j k) (inl (omega (arith, h.low_first, h.first_end, l))) ∙ h.up_others (slot j k) (inl (omega (arith, l)))

  refuted_up : (k : ℕ) → low ≤ k → k < first → get_or new (slot j k) 0 ≡ place
  refuted_up k l m = h.down_others (slot j k) (inl (omega (arith, h.first_end, m))) ∙ (h.up k l m).0

  kept : (k : ℕ) → first ≤ k → k < end → get_or new (slot j k) 0 ≡ get_or old (slot j k) 0
  kept k l m = h.down_others (slot j k) (inl (omega (arith, m))) ∙ h.up_others (slot j k) (inr (omega (arith, l)))

  past : (k : ℕ) → high ≤ k → get_or new (slot j k) 0 ≡ get_or old (slot j k) 0
  past k l = h.down_others (slot j k) (inr (omega (arith, l))) ∙ h.up_others (slot j k) (inr (omega (arith, l, h.first_end, h.end_high)))

  still : (k : ℕ) → first ≤ k → k < end → HasValue (kind_format j k) value
  still k l m = value_between j first k (end - 1) value l (omega (arith, m)) (omega (arith, h.end_high, h.most, kind_width_most j)) (h.up_held (omega (arith, l, m, h.end_high))) (h.down_held (omega (arith, l, m)))

  was : (k : ℕ) → k ≤ kind_width j → low ≤ k → k < high → get_or old (slot j k) 0 ≡ 0
  was k w l m = (living k w).0 (l, m)

  pub kind_noted : (k : ℕ) → k ≤ kind_width j → IsNoted (kind_format j k) value place (get_or old (slot j k) 0) (get_or new (slot j k) 0)
  kind_noted k w = by_part _ low first end high k
      (λ l. inl ((λ e. let in_ = (living k w).1 e in omega (arith, l, in_.0)), before k l))
      (λ l m. inr (inr (was k w l (omega (arith, m, h.first_end, h.end_high)), (h.up k l m).1, refuted_up k l m)))
      (λ l m. let zero_ = was k w (omega (arith, l, h.low_first)) (omega (arith, m, h.end_high)) in inr (inl (zero_, still k l m, kept k l m ∙ zero_)))
      (λ l m. inr (inr (was k w (omega (arith, l, h.low_first, h.first_end)) m, (h.down k l m).1, (h.down k l m).0)))
      (λ l. inl ((λ e. let in_ = (living k w).1 e in omega (arith, l, in_.1)), past k l))

-- ---- all kinds, one after another
-- the slots after the value was noted for the kinds below j
pub record NotedBelow (j : ℕ) (value : Option Exact) (place : ℕ) (old new : List ℕ) : Type 0 where
  pub passed : (i k : ℕ) → i < j → k ≤ kind_width i → IsNoted (kind_format i k) value place (get_or old (slot i k) 0) (get_or new (slot i k) 0)
  pub ahead : (i : ℕ) → slot j 0 ≤ i → get_or new i 0 ≡ get_or old i 0

-- the slots of another kind are outside those of kind j
other_kind : (i j k : ℕ) → (i ≡ j → ⊥) → k ≤ kind_width i → (slot i k < slot j 0) ⊎ (slot j 65 ≤ slot i k)
other_kind i j k apart w =
    let small = kind_width_most i in
    ⊎_elim
    (λ (less : i < j). inl (omega (arith, less, w, small)))
    (λ (more : j ≤ i). let past : j < i = omega (arith, more, apart) in inr (omega (arith, past)))
    (cases_lt i j)

module _ (j low high first end : ℕ) (value : Option Exact) (place : ℕ) (start old new lows highs : List ℕ) (is : j < 8) (size_low : length lows ≡ 8) (size_high : length highs ≡ 8) (state : AreLiving old lows highs) (order : first ≤ end) (most : end ≤ kind_width j + 1) (living : IsLiving j first end new) (noted : (k : ℕ) → k ≤ kind_width j → IsNoted (kind_format j k) value place (get_or old (slot j k) 0) (get_or new (slot j k) 0)) (others : (i : ℕ) → (i < slot j 0) ⊎ (slot j 65 ≤ i) → get_or new i 0 ≡ get_or old i 0) where
  low_here : get_or (set lows j first) j 0 ≡ first
  low_here = get_or-set_same lows j first 0 (omega (arith, is, size_low))

  high_here : get_or (set highs j end) j 0 ≡ end
  high_here = get_or-set_same highs j end 0 (omega (arith, is, size_high))

  by_kind : (P : ℕ → Type 0) (i : ℕ) → (i ≡ j → P i) → ((i ≡ j → ⊥) → P i) → P i
  by_kind P i same other =
      ⊎_elim
      (λ (less : i < j). other (λ e. omega (arith, less, e)))
      (λ (more : j ≤ i). ⊎_elim (λ (past : j < i). other (λ e. omega (arith, past, e))) (λ (not_past : i ≤ j). same (omega (arith, more, not_past))) (cases_lt j i))
      (cases_lt i j)

  pub still_living : AreLiving new (set lows j first) (set highs j end)
  still_living = record {
    order = λ i small. by_kind (λ n. get_or (set lows j first) n 0 ≤ get_or (set highs j end) n 0) i
        (λ e. rw (e, low_here, high_here) order)
        (λ apart. rw (get_or-set_other lows j i first 0 apart, get_or-set_other highs j i end 0 apart) (state.order i small));
    most = λ i small. by_kind (λ n. get_or (set highs j end) n 0 ≤ kind_width n + 1) i
        (λ e. rw (e, high_here) most)
        (λ apart. rw (get_or-set_other highs j i end 0 apart) (state.most i small));
    living = λ i small. by_kind (λ n. IsLiving n (get_or (set lows j first) n 0) (get_or (set highs j end) n 0) new) i
        (λ e. rw (e, low_here, high_here) living)
        (λ apart. rw (get_or-set_other lows j i first 0 apart, get_or-set_other highs j i end 0 apart) (λ k w. rw (others (slot i k) (other_kind i j k apart w)) (state.living i small k w)));
  }

  pub still_noted : NotedBelow j value place start old → NotedBelow (j + 1) value place start new
  still_noted h = record {
    passed = λ i k less w. by_kind (λ n. IsNoted (kind_format n k) value place (get_or start (slot n k) 0) (get_or new (slot n k) 0)) i
        (λ e. here k i e w)
        (λ apart. rw (others (slot i k) (other_kind i j k apart w)) (h.passed i k (omega (arith, less, apart)) w));
    ahead = λ i past. others i (inr (omega (arith, past))) ∙ h.ahead i (omega (arith, past));
  }
    where
      here : (k i : ℕ) → i ≡ j → k ≤ kind_width i → IsNoted (kind_format i k) value place (get_or start (slot i k) 0) (get_or new (slot i k) 0)
      here k i e w =
          let wide : k ≤ kind_width j = let W : ℕ → Type 0 = λ n. k ≤ kind_width n in subst W e w in
          let O : ℕ → Type 0 = λ n. IsNoted (kind_format j k) value place n (get_or new (slot j k) 0) in
          let N : ℕ → Type 0 = λ n. IsNoted (kind_format n k) value place (get_or start (slot n k) 0) (get_or new (slot n k) 0) in
          subst N (sym e) (subst O (h.ahead (slot j k) (omega arith)) (noted k wide))

-- the value was noted for all kinds
pub all_noted : (value : Option Exact) (place : ℕ) (old new : List ℕ) → NotedBelow 8 value place old new → AreNoted value place old new
all_noted value place old new h f is =
    let k = kind_back f.signed f.width is.is_width in
    let P : FormatParts → Type 0 = λ g. IsNoted g value place (get_or old (slot_of f) 0) (get_or new (slot_of f) 0) in
    subst P (kind_format_is f is) (h.passed (kind_of f.signed f.width) f.frac k.below (omega (arith, is.within, k.width)))

-- ---- one more format of a kind
module _ (j low high k : ℕ) (value : Option Exact) (place : ℕ) (start old : List ℕ) (fits : slot j k < length old) (none : HasValue (kind_format j k) value → ⊥) where
  pub up_refused : ((i : ℕ) → low ≤ i → i < k → (get_or old (slot j i) 0 ≡ place) × (HasValue (kind_format j i) value → ⊥)) → (i : ℕ) → low ≤ i → i < k + 1 → (get_or (set old (slot j k) place) (slot j i) 0 ≡ place) × (HasValue (kind_format j i) value → ⊥)
  up_refused before i l m =
      ⊎_elim
      (λ (less : i < k). let h = before i l less in (get_or-set_other old (slot j k) (slot j i) place 0 (λ e. omega (arith, e, less)) ∙ h.0, h.1))
      (λ (more : k ≤ i). let same : i ≡ k = omega (arith, more, m) in rw same (get_or-set_same old (slot j k) place 0 fits, none))
      (cases_lt i k)

  pub up_others : low ≤ k → ((i : ℕ) → (i < slot j low) ⊎ (slot j k ≤ i) → get_or old i 0 ≡ get_or start i 0) → (i : ℕ) → (i < slot j low) ⊎ (slot j (k + 1) ≤ i) → get_or (set old (slot j k) place) i 0 ≡ get_or start i 0
  up_others le before i (inl l) = get_or-set_other old (slot j k) i place 0 (λ e. omega (arith, e, l, le)) ∙ before i (inl l)
  up_others le before i (inr l) = get_or-set_other old (slot j k) i place 0 (λ e. omega (arith, e, l)) ∙ before i (inr (omega (arith, l)))

  pub down_refused : ((i : ℕ) → k + 1 ≤ i → i < high → (get_or old (slot j i) 0 ≡ place) × (HasValue (kind_format j i) value → ⊥)) → (i : ℕ) → k ≤ i → i < high → (get_or (set old (slot j k) place) (slot j i) 0 ≡ place) × (HasValue (kind_format j i) value → ⊥)
  down_refused before i l m =
      ⊎_elim
      (λ (less : k < i). let h = before i (omega (arith, less)) m in (get_or-set_other old (slot j k) (slot j i) place 0 (λ e. omega (arith, e, less)) ∙ h.0, h.1))
      (λ (more : i ≤ k). let same : i ≡ k = omega (arith, more, l) in rw same (get_or-set_same old (slot j k) place 0 fits, none))
      (cases_lt k i)

  pub down_others : k < high → ((i : ℕ) → (i < slot j (k + 1)) ⊎ (slot j high ≤ i) → get_or old i 0 ≡ get_or start i 0) → (i : ℕ) → (i < slot j k) ⊎ (slot j high ≤ i) → get_or (set old (slot j k) place) i 0 ≡ get_or start i 0
  down_others lt before i (inl l) = get_or-set_other old (slot j k) i place 0 (λ e. omega (arith, e, l)) ∙ before i (inl (omega (arith, l)))
  down_others lt before i (inr l) = get_or-set_other old (slot j k) i place 0 (λ e. omega (arith, e, l, lt)) ∙ before i (inr l)
