-- The formats that serve, after one more line.
use Rattle.std.proofs.Common.{◌≡◌, ℕ, zero, suc, ◌+◌, ◌-◌, ◌/◌, ◌<◌, ◌≤◌, ◌⊎◌, Bool, true, false, List, [], ◌∷◌, ◌++◌, length, take, drop, get_or, max, refl, sym, ap, ◌∙◌, subst, arith, inl, inr, ⊎_elim}
use Rattle.std.proofs.lemmas.Bool.{cases_lt}
use Rattle.std.proofs.lemmas.List.{take_all, take_more}
use Rattle.fixed_bits.specs.Formats.{FormatParts}
use Rattle.fixed_bits.specs.Ranges.{IsTypeWidth, IsWidth}
use Rattle.fixed_bits.specs.declared.mode.ReadMode.TheVariants.{NearestEven}
use Rattle.fixed_error.specs.ErrorSize.{HasErrorAbove, HasErrorWithin, IsReadWithin}
use Rattle.fixed_error.proofs.Public.{above_not_within}
use Rattle.fixed_numeral.specs.Numeral.{IsNumeral}
use Rattle.fixed_numeral.specs.declared.radix.Radix.{Radix}
use Rattle.fixed_fit.specs.Fitting.{AllFit, Choice, IsFirstExceeding, frac_lengths}
use Rattle.fixed_fit.specs.Inner.Lengths.{AreLowered}
use Rattle.fixed_fit.specs.Inner.Serving.{AreAllLeft, AreAllLowered, AreFew, AreTried, HasServing, HasWidth, HaveRoom, IsBelow, IsBestOf, IsIn, IsLeftOf, IsNarrowed, IsServing, most_left}
use Rattle.fixed_fit.specs.Within.{AllWithin, IsErrorWithin, IsHalfWithin, IsLeastWithin, IsNextBelow, IsServed, IsTried, IsUnservedFrom, Serves, most_width}
use Rattle.fixed_fit.specs.declared.lengths.Lengths.{Lengths}
use Rattle.fixed_fit.specs.declared.question.Widths.{Widths}
use Rattle.fixed_fit.specs.declared.question.Widths.TheVariants.{One, Types, Any}
use Rattle.fixed_fit.specs.declared.serving.Serving.{Serving}
use Rattle.fixed_fit.proofs.FittingLemmas.{all_fit_each_shorter, exceeding_not, lengths_one_more}
use Rattle.fixed_fit.proofs.LineLemmas.{fits_within}
use Rattle.fixed_fit.proofs.ProgressLemmas.{all_are_left}
use Rattle.fixed_fit.proofs.WithinLemmas.{all_within_longer, error_before, error_within_longer, from_first, from_longer, lengths_few, more_lengths, serves_before, serves_wider, within_before, within_last, within_one_more}

-- ---- the lengths of several widths
pub few_of : (r : Radix) (c : Choice) (lines : List (List ℕ)) (ls : List Lengths) → AreAllLeft r c lines ls → AreFew ls
few_of r c lines [] all = tt
few_of r c lines (l ∷ ls) all = (all.0.lengths.few, few_of r c lines ls all.1)

pub in_most : (l : Lengths) (ls : List Lengths) → IsIn l ls → l.count ≤ most_left ls
in_most l [] h = absurd h
in_most l (x ∷ xs) (inl same) = let e : x.count ≡ l.count = ap (λ (k : Lengths). k.count) same in omega (arith, e)
in_most l (x ∷ xs) (inr later) = let h = in_most l xs later in omega (arith, h)

pub longer_in : (low : ℕ) (ls : List Lengths) → low < most_left ls → (l : Lengths) × IsIn l ls × (low < l.count)
longer_in low [] h = absurd (omega (arith, h))
longer_in low (l ∷ ls) h =
    ⊎_elim
    (λ (less : low < l.count). (l, inl refl, less))
    (λ (past : l.count ≤ low). let t = longer_in low ls (omega (arith, h, past)) in (t.0, inr t.1, t.2))
    (cases_lt low l.count)

pub left_in : (r : Radix) (c : Choice) (lines : List (List ℕ)) (l : Lengths) (ls : List Lengths) → IsIn l ls → AreAllLeft r c lines ls → IsLeftOf r c lines l
left_in r c lines l [] h all = absurd h
left_in r c lines l (x ∷ xs) (inl same) all = subst (λ (k : Lengths). IsLeftOf r c lines k) same all.0
left_in r c lines l (x ∷ xs) (inr later) all = left_in r c lines l xs later all.1

pub width_in : (l : Lengths) (ls : List Lengths) → IsIn l ls → HasWidth l.kind.width ls
width_in l [] h = absurd h
width_in l (x ∷ xs) (inl same) = inl (ap (λ (k : Lengths). k.kind.width) same)
width_in l (x ∷ xs) (inr later) = inr (width_in l xs later)

pub in_width : (n : ℕ) (ls : List Lengths) → HasWidth n ls → (l : Lengths) × IsIn l ls × (l.kind.width ≡ n)
in_width n [] h = absurd h
in_width n (x ∷ xs) (inl same) = (x, inl refl, same)
in_width n (x ∷ xs) (inr later) = let t = in_width n xs later in (t.0, inr t.1, t.2)

-- ---- the lengths after one more line
pub all_one_more : (r : Radix) (c : Choice) (done : List (List ℕ)) (line : List ℕ) (place : ℕ) (olds news : List Lengths) → place ≡ length done + 1 → AreAllLowered r line place olds news → AreAllLeft r c done olds → AreAllLeft r c (done ++ line ∷ []) news
all_one_more r c done line place [] [] at low all = tt
all_one_more r c done line place [] (new ∷ news) at low all = absurd low
all_one_more r c done line place (old ∷ olds) [] at low all = absurd low
all_one_more r c done line place (old ∷ olds) (new ∷ news) at low all = (
  record {
    signed = ap (λ (k : FormatParts). k.signed) low.0.kind ∙ all.0.signed;
    width = subst (λ (k : FormatParts). IsWidth k.width) (sym low.0.kind) all.0.width;
    lengths = lengths_one_more c.fractions r done line place old new at all.0.lengths low.0;
  },
  all_one_more r c done line place olds news at low.1 all.1,
)

widths_after : (r : Radix) (line : List ℕ) (place n : ℕ) (olds news : List Lengths) → AreAllLowered r line place olds news → HasWidth n olds → HasWidth n news
widths_after r line place n [] [] low h = absurd h
widths_after r line place n [] (new ∷ news) low h = absurd low
widths_after r line place n (old ∷ olds) [] low h = absurd low
widths_after r line place n (old ∷ olds) (new ∷ news) low (inl same) = inl (ap (λ (k : FormatParts). k.width) low.0.kind ∙ same)
widths_after r line place n (old ∷ olds) (new ∷ news) low (inr later) = inr (widths_after r line place n olds news low.1 later)

widths_back : (r : Radix) (line : List ℕ) (place n : ℕ) (olds news : List Lengths) → AreAllLowered r line place olds news → HasWidth n news → HasWidth n olds
widths_back r line place n [] [] low h = absurd h
widths_back r line place n [] (new ∷ news) low h = absurd low
widths_back r line place n (old ∷ olds) [] low h = absurd low
widths_back r line place n (old ∷ olds) (new ∷ news) low (inl same) = inl (sym (ap (λ (k : FormatParts). k.width) low.0.kind) ∙ same)
widths_back r line place n (old ∷ olds) (new ∷ news) low (inr later) = inr (widths_back r line place n olds news low.1 later)

tried_after : (r : Radix) (line : List ℕ) (place : ℕ) (widths : Widths) (one : ℕ) (olds news : List Lengths) → AreAllLowered r line place olds news → AreTried widths one olds → AreTried widths one news
tried_after r line place widths one olds news low h = record {
  all = λ n t. widths_after r line place n olds news low (h.all n t);
  only = λ n w. h.only n (widths_back r line place n olds news low w);
}

pub few_after : (r : Radix) (line : List ℕ) (place : ℕ) (olds news : List Lengths) → AreAllLowered r line place olds news → AreFew olds → AreFew news
few_after r line place [] [] low few = tt
few_after r line place [] (new ∷ news) low few = absurd low
few_after r line place (old ∷ olds) [] low few = absurd low
few_after r line place (old ∷ olds) (new ∷ news) low few = (let most = few.0 in omega (arith, low.0.fewer, most), few_after r line place olds news low.1 few.1)

-- a line is rounded to fewer than 2^64 ulps at each length that remains of some width
pub lowered_within : (r : Radix) (c : Choice) (done : List (List ℕ)) (line : List ℕ) (place f : ℕ) (olds news : List Lengths) → AreAllLowered r line place olds news → AreAllLeft r c done olds → f < most_left news → IsReadWithin NearestEven r f line
lowered_within r c done line place f [] [] low all less = absurd (omega (arith, less))
lowered_within r c done line place f [] (new ∷ news) low all less = absurd low
lowered_within r c done line place f (old ∷ olds) [] low all less = absurd low
lowered_within r c done line place f (old ∷ olds) (new ∷ news) low all less =
    ⊎_elim
    (λ (here : f < new.count). fits_within r old.kind.signed old.kind.width f line all.0.width.most (low.0.fit f here))
    (λ (past : new.count ≤ f). lowered_within r c done line place f olds news low.1 all.1 (omega (arith, less, past)))
    (cases_lt f new.count)

pub lowered_few : (r : Radix) (c : Choice) (done : List (List ℕ)) (line : List ℕ) (place : ℕ) (olds news : List Lengths) → AreAllLowered r line place olds news → AreAllLeft r c done olds → most_left news ≤ 65
lowered_few r c done line place [] [] low all = omega arith
lowered_few r c done line place [] (new ∷ news) low all = absurd low
lowered_few r c done line place (old ∷ olds) [] low all = absurd low
lowered_few r c done line place (old ∷ olds) (new ∷ news) low all =
    let rest = lowered_few r c done line place olds news low.1 all.1 in
    omega (arith, rest, low.0.fewer, all.0.lengths.few)

-- ---- a format serves if and only if its length remains and the greatest error at it is within the bound
pub serves_by : (range : Bool) (r : Radix) (c : Choice) (bound : List ℕ) (lines : List (List ℕ)) (l : Lengths) (f : ℕ) → IsLeftOf r c lines l → f < l.count → IsErrorWithin range r f bound lines → Serves range r c bound lines l.kind.width f
serves_by range r c bound lines l f h less within = record {
  chosen = omega (arith, less, h.lengths.most);
  fit = subst (λ t. AllFit r t l.kind.width f lines) h.signed (h.lengths.fit f less);
  within = within;
}

pub serves_not : (range : Bool) (r : Radix) (c : Choice) (bound : List ℕ) (lines : List (List ℕ)) (l : Lengths) (g : ℕ) → IsLeftOf r c lines l → l.count ≤ g → Serves range r c bound lines l.kind.width g → ⊥
serves_not range r c bound lines l g h past serves =
    let first : IsFirstExceeding r l.kind.signed l.kind.width l.count lines l.place = h.lengths.first (let within = serves.chosen in omega (arith, past, within)) in
    let fit : AllFit r l.kind.signed l.kind.width g lines = subst (λ t. AllFit r t l.kind.width g lines) (sym h.signed) serves.fit in
    exceeding_not r l.kind.signed l.kind.width l.count lines l.place first (all_fit_each_shorter r l.kind.signed l.kind.width g l.count lines past fit)

served_by : (range : Bool) (r : Radix) (c : Choice) (widths : Widths) (one : ℕ) (lines : List (List ℕ)) (v : Serving) → AreTried widths one v.lengths.items → IsServing range r c lines v → IsServed range r c v.bound.items widths one lines
served_by range r c widths one lines v tried h =
    let l = longer_in v.low v.lengths.items h.served in
    record {
      width = l.0.kind.width;
      tried = tried.only l.0.kind.width (width_in l.0 v.lengths.items l.1);
      frac = v.low;
      serves = serves_by range r c v.bound.items lines l.0 v.low (left_in r c lines l.0 v.lengths.items l.1 h.lengths) l.2 h.within;
    }

unserved_by : (range : Bool) (r : Radix) (c : Choice) (bound : List ℕ) (widths : Widths) (one low : ℕ) (lines : List (List ℕ)) (ls : List Lengths) → AreTried widths one ls → AreAllLeft r c lines ls → ((f : ℕ) → f < low → ¬ IsErrorWithin range r f bound lines) → most_left ls ≤ low → ¬ IsServed range r c bound widths one lines
unserved_by range r c bound widths one low lines ls tried all least past h =
    let l = in_width h.width ls (tried.all h.width h.tried) in
    let serves : Serves range r c bound lines l.0.kind.width h.frac = subst (λ n. Serves range r c bound lines n h.frac) (sym l.2) h.serves in
    ⊎_elim
    (λ (less : h.frac < low). least h.frac less h.serves.within)
    (λ (more : low ≤ h.frac).
    let most = in_most l.0 ls l.1 in
    serves_not range r c bound lines l.0 h.frac (left_in r c lines l.0 ls l.1 all) (omega (arith, most, past, more)) serves)
    (cases_lt h.frac low)

-- ---- the least format that serves
pub least_by : (range : Bool) (r : Radix) (c : Choice) (widths : Widths) (one : ℕ) (lines : List (List ℕ)) (v : Serving) (best : Lengths) (f : ℕ) → suc f ≡ best.count → AreTried widths one v.lengths.items → IsServing range r c lines v → IsBestOf v.low v.lengths.items best
    → IsLeastWithin range r c v.bound.items widths one lines best.kind.width f
least_by range r c widths one lines v best f last tried h b =
    let left = left_in r c lines best v.lengths.items b.among h.lengths in
    let bound : List ℕ = v.bound.items in
    let longer = b.longer in
    record {
      tried = tried.only best.kind.width (width_in best v.lengths.items b.among);
      serves = serves_by range r c bound lines best f left (omega (arith, last)) (error_within_longer range r v.low f bound lines (omega (arith, last, longer)) h.within);
      greatest = λ g more serves. serves_not range r c bound lines best g left (omega (arith, last, more)) serves;
      least = λ m g less is serves.
          let l = in_width m v.lengths.items (tried.all m is) in
          let here : Serves range r c bound lines l.0.kind.width g = subst (λ n. Serves range r c bound lines n g) (sym l.2) serves in
          ⊎_elim
          (λ (short : g < v.low). h.least g short serves.within)
          (λ (from : v.low ≤ g). ⊎_elim
          (λ (within : g < l.0.count). let order = b.least l.0 l.1 (omega (arith, from, within)) in omega (arith, order, l.2, less))
          (λ (past : l.0.count ≤ g). serves_not range r c bound lines l.0 g (left_in r c lines l.0 v.lengths.items l.1 h.lengths) past here)
          (cases_lt g l.0.count))
          (cases_lt g v.low);
    }

-- ---- one more line
pub frozen : (range : Bool) (r : Radix) (c : Choice) (widths : Widths) (one : ℕ) (done : List (List ℕ)) (line : List ℕ) (v : Serving) → v.is_served ≡ false → HasServing range r c widths one done v → HasServing range r c widths one (done ++ line ∷ []) v
frozen range r c widths one done line v over h = record {
  range_is = h.range_is;
  numeral = h.numeral;
  half = h.half;
  signed_is = h.signed_is;
  room = h.room;
  tried = h.tried;
  serving = λ served. let no : true ≡ false = sym served ∙ over in cc;
  narrowed = λ served. let no : true ≡ false = sym served ∙ over in cc;
  unserved = λ _. from_longer range r c v.bound.items widths one done line v.place (h.unserved over);
}

not_shorter : (r : Radix) (bound : List ℕ) (done : List (List ℕ)) (line : List ℕ) (old new : ℕ) → ((f : ℕ) → f < old → ¬ AllWithin r f bound done) → ((f : ℕ) → old ≤ f → f < new → HasErrorAbove NearestEven r f line bound) → (f : ℕ) → f < new → ¬ AllWithin r f bound (done ++ line ∷ [])
not_shorter r bound done line old new least above f less all =
    ⊎_elim
    (λ (before : f < old). least f before (within_before r f bound done (line ∷ []) all))
    (λ (from : old ≤ f). above_not_within NearestEven r f line bound (above f from less) (within_last r f bound done line all))
    (cases_lt f old)

-- the least length within the bound may grow for a list, and stays the same for a range
pub low_within : (range : Bool) (r : Radix) (bound : List ℕ) (done : List (List ℕ)) (line : List ℕ) (old new : ℕ) → range ≡ false → old ≤ new → HasErrorWithin NearestEven r new line bound → IsErrorWithin range r old bound done → IsErrorWithin range r new bound (done ++ line ∷ [])
low_within range r bound done line old new is order here all =
    let before : AllWithin r old bound done = subst (λ b. IsErrorWithin b r old bound done) is all in
    subst (λ b. IsErrorWithin b r new bound (done ++ line ∷ [])) (sym is) (within_one_more r new bound done line (all_within_longer r old new bound done order before) here)

pub low_least : (range : Bool) (r : Radix) (bound : List ℕ) (done : List (List ℕ)) (line : List ℕ) (old new : ℕ) → range ≡ false → ((f : ℕ) → old ≤ f → f < new → HasErrorAbove NearestEven r f line bound) → ((f : ℕ) → f < old → ¬ IsErrorWithin range r f bound done) → (f : ℕ) → f < new → ¬ IsErrorWithin range r f bound (done ++ line ∷ [])
low_least range r bound done line old new is above least f less all =
    not_shorter r bound done line old new (λ g before w. least g before (subst (λ b. IsErrorWithin b r g bound done) (sym is) w)) above f less (subst (λ b. IsErrorWithin b r f bound (done ++ line ∷ [])) is all)

pub range_within : (range : Bool) (r : Radix) (bound : List ℕ) (done : List (List ℕ)) (line : List ℕ) (low : ℕ) → range ≡ true → IsErrorWithin range r low bound done → IsErrorWithin range r low bound (done ++ line ∷ [])
range_within range r bound done line low is h = subst (λ b. IsErrorWithin b r low bound (done ++ line ∷ [])) (sym is) (subst (λ b. IsErrorWithin b r low bound done) is h)

pub range_least : (range : Bool) (r : Radix) (bound : List ℕ) (done : List (List ℕ)) (line : List ℕ) (low : ℕ) → range ≡ true → ((f : ℕ) → f < low → ¬ IsErrorWithin range r f bound done) → (f : ℕ) → f < low → ¬ IsErrorWithin range r f bound (done ++ line ∷ [])
range_least range r bound done line low is least f less h = least f less (error_before range r f bound done (line ∷ []) h)

-- the least length within the bound goes from `old` to `new` with one more line
abbrev pub IsWithinNext : Bool → Radix → List ℕ → ℕ → ℕ → List ℕ → Type 0
IsWithinNext range r line old new bound = (lines : List (List ℕ)) → IsErrorWithin range r old bound lines → IsErrorWithin range r new bound (lines ++ line ∷ [])

abbrev pub IsLeastNext : Bool → Radix → List ℕ → ℕ → ℕ → List ℕ → Type 0
IsLeastNext range r line old new bound = (lines : List (List ℕ)) → ((f : ℕ) → f < old → ¬ IsErrorWithin range r f bound lines) → (f : ℕ) → f < new → ¬ IsErrorWithin range r f bound (lines ++ line ∷ [])

-- a format still serves after the line
serving_on : (range : Bool) (r : Radix) (c : Choice) (widths : Widths) (one : ℕ) (done : List (List ℕ)) (line : List ℕ) (place : ℕ) (old new : Serving) → new.bound.items ≡ old.bound.items → old.is_served ≡ true → AreAllLowered r line place old.lengths.items new.lengths.items
    → IsWithinNext old.is_range r line old.low new.low old.bound.items
    → IsLeastNext old.is_range r line old.low new.low old.bound.items
    → new.low < most_left new.lengths.items → place ≡ length done + 1
    → HasServing range r c widths one done old → IsServing range r c (done ++ line ∷ []) new
serving_on range r c widths one done line place old new bound on low within least served at h =
    let was = h.serving on in
    let E : Bool → List ℕ → Type 0 = λ b k. IsErrorWithin b r new.low k (done ++ line ∷ []) in
    let W : Bool → Type 0 = λ b. IsErrorWithin b r old.low old.bound.items done in
    let N : Bool → Type 0 = λ b. (f : ℕ) → f < old.low → ¬ IsErrorWithin b r f old.bound.items done in
    let L : Bool → List ℕ → Type 0 = λ b k. (f : ℕ) → f < new.low → ¬ IsErrorWithin b r f k (done ++ line ∷ []) in
    record {
      lengths = all_one_more r c done line place old.lengths.items new.lengths.items at low was.lengths;
      within = subst (E range) (sym bound) (subst (λ b. E b old.bound.items) h.range_is (within done (subst W (sym h.range_is) was.within)));
      least = subst (L range) (sym bound) (subst (λ b. L b old.bound.items) h.range_is (least done (subst N (sym h.range_is) was.least)));
      served = served;
    }

-- if the least width grows, the next lower width served until this line
moved_from : (range : Bool) (r : Radix) (c : Choice) (bound : List ℕ) (widths : Widths) (one : ℕ) (done : List (List ℕ)) (line : List ℕ) (place n f o e m : ℕ) → place ≡ length done + 1 → o < n → IsNextBelow widths one n m
    → IsLeastWithin range r c bound widths one (done ++ line ∷ []) n f → IsLeastWithin range r c bound widths one done o e → IsUnservedFrom range r c bound One m (done ++ line ∷ []) place
moved_from range r c bound widths one done line place n f o e m at less next new old =
    let order : o ≤ m = next.greatest o old.tried less in
    from_first range r c bound One m (done ++ line ∷ []) place (record {
      before = done;
      line = line;
      after = [];
      split = refl;
      served = record { width = m; tried = refl; frac = e; serves = serves_wider range r c bound done o m e order old.serves };
      unserved = λ h.
          let narrow = next.less in
          let same : h.width ≡ m = h.tried in
          new.least h.width h.frac (omega (arith, narrow, same)) (subst (λ (k : ℕ). IsTried widths one k) (sym same) next.tried) h.serves;
      place_is = at;
    })

narrowed_on : (range : Bool) (r : Radix) (c : Choice) (widths : Widths) (one : ℕ) (done : List (List ℕ)) (line : List ℕ) (place : ℕ) (old new : Serving) (best : Lengths) → place ≡ length done + 1 → new.bound.items ≡ old.bound.items → new.width ≡ best.kind.width → (new.width ≡ old.width → new.raised ≡ old.raised) → ((new.width ≡ old.width → ⊥) → new.raised ≡ place)
    → AreTried widths one new.lengths.items → IsServing range r c (done ++ line ∷ []) new → IsBestOf new.low new.lengths.items best → IsNarrowed range r c widths one done old → IsNarrowed range r c widths one (done ++ line ∷ []) new
narrowed_on range r c widths one done line place old new best at bound width same moved tried serving is h =
    let longer = is.longer in
    let f : ℕ = best.count - 1 in
    let here : IsLeastWithin range r c new.bound.items widths one (done ++ line ∷ []) best.kind.width f = least_by range r c widths one (done ++ line ∷ []) new best f (omega (arith, longer)) tried serving is in
    let least : IsLeastWithin range r c new.bound.items widths one (done ++ line ∷ []) new.width f = subst (λ (n : ℕ). IsLeastWithin range r c new.bound.items widths one (done ++ line ∷ []) n f) (sym width) here in
    let was : IsLeastWithin range r c new.bound.items widths one done old.width h.frac = subst (λ (b : List ℕ). IsLeastWithin range r c b widths one done old.width h.frac) (sym bound) h.least in
    record {
      frac = f;
      least = least;
      below = λ m next. ⊎_elim
          (λ (more : old.width < new.width).
          let there = moved_from range r c new.bound.items widths one done line place new.width f old.width h.frac m at more next least was in
          subst (λ (p : ℕ). IsUnservedFrom range r c new.bound.items One m (done ++ line ∷ []) p) (sym (moved (λ e. omega (arith, e, more)))) there)
          (λ (past : new.width ≤ old.width). ⊎_elim
          (λ (less : new.width < old.width). absurd (was.least new.width f less least.tried (serves_before range r c new.bound.items done (line ∷ []) new.width f least.serves)))
          (λ (back : old.width ≤ new.width).
          let e : new.width ≡ old.width = omega (arith, past, back) in
          let there = h.below m (subst (λ (n : ℕ). IsNextBelow widths one n m) e next) in
          let after = from_longer range r c old.bound.items One m done line old.raised there in
          subst (λ (p : ℕ). IsUnservedFrom range r c new.bound.items One m (done ++ line ∷ []) p) (sym (same e)) (subst (λ (b : List ℕ). IsUnservedFrom range r c b One m (done ++ line ∷ []) old.raised) (sym bound) after))
          (cases_lt new.width old.width))
          (cases_lt old.width new.width);
    }

same_half : (r : Radix) (f g : ℕ) (b c : List ℕ) → g ≡ f → c ≡ b → (f < 65 → IsHalfWithin r f b) → g < 65 → IsHalfWithin r g c
same_half r f g b c same bound h = subst (λ (k : ℕ). k < 65 → IsHalfWithin r k c) (sym same) (subst (λ (l : List ℕ). f < 65 → IsHalfWithin r f l) (sym bound) h)

pub goes_on : (range : Bool) (r : Radix) (c : Choice) (widths : Widths) (one : ℕ) (done : List (List ℕ)) (line : List ℕ) (place : ℕ) (old new : Serving) (best : Lengths) → new.bound.items ≡ old.bound.items → new.is_range ≡ old.is_range → new.half ≡ old.half → new.signed ≡ old.signed → HaveRoom new.room new.lengths.items → new.is_served ≡ old.is_served → old.is_served ≡ true → AreAllLowered r line place old.lengths.items new.lengths.items
    → IsWithinNext old.is_range r line old.low new.low old.bound.items
    → IsLeastNext old.is_range r line old.low new.low old.bound.items
    → new.low < most_left new.lengths.items → place ≡ length done + 1 → IsBestOf new.low new.lengths.items best → new.width ≡ best.kind.width → (new.width ≡ old.width → new.raised ≡ old.raised) → ((new.width ≡ old.width → ⊥) → new.raised ≡ place)
    → HasServing range r c widths one done old → HasServing range r c widths one (done ++ line ∷ []) new
goes_on range r c widths one done line place old new best bound ranged half signed room same on low within least served at is width kept moved h =
    let serving = serving_on range r c widths one done line place old new bound on low within least served at h in
    let tried = tried_after r line place widths one old.lengths.items new.lengths.items low h.tried in
    record {
      range_is = ranged ∙ h.range_is;
      numeral = subst (λ b. IsNumeral r b) (sym bound) h.numeral;
      half = same_half r old.half new.half old.bound.items new.bound.items half bound h.half;
      signed_is = signed ∙ h.signed_is;
      room = room;
      tried = tried;
      serving = λ _. serving;
      narrowed = λ _. narrowed_on range r c widths one done line place old new best at bound width kept moved tried serving is (h.narrowed on);
      unserved = λ over. let no : true ≡ false = sym on ∙ (sym same ∙ over) in cc;
    }

pub ends : (range : Bool) (r : Radix) (c : Choice) (widths : Widths) (one : ℕ) (done : List (List ℕ)) (line : List ℕ) (place : ℕ) (old new : Serving) → new.bound.items ≡ old.bound.items → new.is_range ≡ old.is_range → new.half ≡ old.half → new.signed ≡ old.signed → HaveRoom new.room new.lengths.items → new.is_served ≡ false → new.place ≡ place → old.is_served ≡ true → AreAllLowered r line place old.lengths.items new.lengths.items
    → IsLeastNext old.is_range r line old.low new.low old.bound.items
    → most_left new.lengths.items ≤ new.low → place ≡ length done + 1
    → HasServing range r c widths one done old → HasServing range r c widths one (done ++ line ∷ []) new
ends range r c widths one done line place old new bound ranged half signed room over same on low least past at h =
    let was = h.serving on in
    let tried = tried_after r line place widths one old.lengths.items new.lengths.items low h.tried in
    let left = all_one_more r c done line place old.lengths.items new.lengths.items at low was.lengths in
    let F : List ℕ → Type 0 = λ b. IsUnservedFrom range r c b widths one (done ++ line ∷ []) new.place in
    let N : Bool → Type 0 = λ b. (f : ℕ) → f < old.low → ¬ IsErrorWithin b r f old.bound.items done in
    let L : Bool → Type 0 = λ b. (f : ℕ) → f < new.low → ¬ IsErrorWithin b r f old.bound.items (done ++ line ∷ []) in
    let shorter : L range = subst L h.range_is (least done (subst N (sym h.range_is) was.least)) in
    record {
      range_is = ranged ∙ h.range_is;
      numeral = subst (λ b. IsNumeral r b) (sym bound) h.numeral;
      half = same_half r old.half new.half old.bound.items new.bound.items half bound h.half;
      signed_is = signed ∙ h.signed_is;
      room = room;
      tried = tried;
      serving = λ on'. let no : true ≡ false = sym on' ∙ over in cc;
      narrowed = λ on'. let no : true ≡ false = sym on' ∙ over in cc;
      unserved = λ _. subst F (sym bound) (from_first range r c old.bound.items widths one (done ++ line ∷ []) new.place (record {
        before = done;
        line = line;
        after = [];
        split = refl;
        served = served_by range r c widths one done old h.tried was;
        unserved = unserved_by range r c old.bound.items widths one new.low (done ++ line ∷ []) new.lengths.items tried left shorter past;
        place_is = same ∙ at;
      }));
    }

-- ---- before the first line
pub record IsFresh (c : Choice) (l : Lengths) : Type 0 where
  pub signed : l.kind.signed ≡ c.signed
  pub width : IsWidth l.kind.width
  pub all : l.count ≡ frac_lengths c.fractions l.kind.width
  pub few : l.count ≤ 65
  pub place : l.place ≡ 0

abbrev pub AreFresh : Choice → List Lengths → Type 0
AreFresh c [] = Unit {0}
AreFresh c (l ∷ ls) = IsFresh c l × AreFresh c ls

pub fresh_more : (c : Choice) (ls : List Lengths) (l : Lengths) → AreFresh c ls → IsFresh c l → AreFresh c (ls ++ l ∷ [])
fresh_more c [] l all here = (here, tt)
fresh_more c (x ∷ xs) l all here = (all.0, fresh_more c xs l all.1 here)

pub width_more : (n : ℕ) (ls : List Lengths) (l : Lengths) → HasWidth n ls ⊎ (l.kind.width ≡ n) → HasWidth n (ls ++ l ∷ [])
width_more n [] l (inl none) = absurd none
width_more n [] l (inr here) = inl here
width_more n (x ∷ xs) l (inl (inl same)) = inl same
width_more n (x ∷ xs) l (inl (inr later)) = inr (width_more n xs l (inl later))
width_more n (x ∷ xs) l (inr here) = inr (width_more n xs l (inr here))

pub width_less : (n : ℕ) (ls : List Lengths) (l : Lengths) → HasWidth n (ls ++ l ∷ []) → HasWidth n ls ⊎ (l.kind.width ≡ n)
width_less n [] l (inl here) = inr here
width_less n [] l (inr none) = absurd none
width_less n (x ∷ xs) l (inl same) = inl (inl same)
width_less n (x ∷ xs) l (inr later) = by (width_less n xs l later)
  where
    by : HasWidth n xs ⊎ (l.kind.width ≡ n) → HasWidth n (x ∷ xs) ⊎ (l.kind.width ≡ n)
    by (inl more) = inl (inr more)
    by (inr here) = inr here

pub tried_width : (widths : Widths) (one n : ℕ) → IsWidth one → IsTried widths one n → IsWidth n
tried_width One one n h same = subst IsWidth (sym same) h
tried_width Types one n h (inl a) = record { some = omega (arith, a); most = omega (arith, a) }
tried_width Types one n h (inr (inl a)) = record { some = omega (arith, a); most = omega (arith, a) }
tried_width Types one n h (inr (inr (inl a))) = record { some = omega (arith, a); most = omega (arith, a) }
tried_width Types one n h (inr (inr (inr a))) = record { some = omega (arith, a); most = omega (arith, a) }
tried_width Any one n h is = is

most_tried : (widths : Widths) (one : ℕ) → IsTried widths one (most_width widths one)
most_tried One one = refl
most_tried Types one = inr (inr (inr refl))
most_tried Any one = record { some = omega arith; most = omega arith }

pub tried_most : (widths : Widths) (one n : ℕ) → IsTried widths one n → n ≤ most_width widths one
tried_most One one n same = omega (arith, same)
tried_most Types one n (inl a) = omega (arith, a)
tried_most Types one n (inr (inl a)) = omega (arith, a)
tried_most Types one n (inr (inr (inl a))) = omega (arith, a)
tried_most Types one n (inr (inr (inr a))) = omega (arith, a)
tried_most Any one n is = let most = is.most in omega (arith, most)

fresh_left : (r : Radix) (c : Choice) (ls : List Lengths) → AreFresh c ls → AreAllLeft r c [] ls
fresh_left r c [] all = tt
fresh_left r c (l ∷ ls) all = (record { signed = all.0.signed; width = all.0.width; lengths = all_are_left c.fractions r l all.0.all all.0.few all.0.place }, fresh_left r c ls all.1)

fresh_in : (c : Choice) (l : Lengths) (ls : List Lengths) → IsIn l ls → AreFresh c ls → IsFresh c l
fresh_in c l [] h all = absurd h
fresh_in c l (x ∷ xs) (inl same) all = subst (λ (k : Lengths). IsFresh c k) same all.0
fresh_in c l (x ∷ xs) (inr later) all = fresh_in c l xs later all.1

never_served : (range : Bool) (r : Radix) (c : Choice) (bound : List ℕ) (widths : Widths) (one low : ℕ) → ((f : ℕ) → f < low → ¬ IsErrorWithin range r f bound []) → frac_lengths c.fractions (most_width widths one) ≤ low → IsServed range r c bound widths one [] → ⊥
never_served range r c bound widths one low least past h =
    let order = tried_most widths one h.width h.tried in
    let few = more_lengths c.fractions h.width (most_width widths one) order in
    let within = h.serves.chosen in
    least h.frac (omega (arith, few, within, past)) h.serves.within

-- the greatest width has the most lengths
pub fresh_most : (c : Choice) (widths : Widths) (one : ℕ) (ls : List Lengths) → AreTried widths one ls → AreFresh c ls → frac_lengths c.fractions (most_width widths one) ≤ most_left ls
fresh_most c widths one ls tried fresh =
    let w : ℕ = most_width widths one in
    let l = in_width w ls (tried.all w (most_tried widths one)) in
    let all = (fresh_in c l.0 ls l.1 fresh).all in
    let here : l.0.count ≡ frac_lengths c.fractions w = subst (λ (n : ℕ). l.0.count ≡ frac_lengths c.fractions n) l.2 all in
    let most = in_most l.0 ls l.1 in
    omega (arith, most, here)

fresh_narrowed : (range : Bool) (r : Radix) (c : Choice) (widths : Widths) (one : ℕ) (v : Serving) (best : Lengths) → v.raised ≡ 0 → v.width ≡ best.kind.width → AreTried widths one v.lengths.items → IsServing range r c [] v → IsBestOf v.low v.lengths.items best → IsNarrowed range r c widths one [] v
fresh_narrowed range r c widths one v best raised width tried serving is =
    let longer = is.longer in
    let f : ℕ = best.count - 1 in
    let least : IsLeastWithin range r c v.bound.items widths one [] best.kind.width f = least_by range r c widths one [] v best f (omega (arith, longer)) tried serving is in
    record {
      frac = f;
      least = subst (λ (n : ℕ). IsLeastWithin range r c v.bound.items widths one [] n f) (sym width) least;
      below = λ m next. record {
        never = λ _ h.
            let narrow = next.less in
            let same : h.width ≡ m = h.tried in
            least.least h.width h.frac (omega (arith, narrow, same, width)) (subst (λ (k : ℕ). IsTried widths one k) (sym same) next.tried) h.serves;
        first = λ more. absurd (omega (arith, more, raised));
      };
    }

pub starts : (range : Bool) (r : Radix) (c : Choice) (widths : Widths) (one : ℕ) (v : Serving) → v.is_range ≡ range → v.place ≡ 0 → v.raised ≡ 0 → IsWidth one → IsNumeral r v.bound.items → (v.half < 65 → IsHalfWithin r v.half v.bound.items) → v.signed ≡ c.signed → HaveRoom v.room v.lengths.items → AreTried widths one v.lengths.items → AreFresh c v.lengths.items
    → (v.low < 65 → IsErrorWithin range r v.low v.bound.items []) → ((f : ℕ) → f < v.low → ¬ IsErrorWithin range r f v.bound.items [])
    → (v.is_served ≡ true → v.low < frac_lengths c.fractions (most_width widths one)) → (v.is_served ≡ false → frac_lengths c.fractions (most_width widths one) ≤ v.low)
    → (v.is_served ≡ true → (best : Lengths) × IsBestOf v.low v.lengths.items best × (v.width ≡ best.kind.width)) → HasServing range r c widths one [] v
starts range r c widths one v ranged place raised wide numeral half signed room tried fresh within least on over best =
    let w : ℕ = most_width widths one in
    let most = fresh_most c widths one v.lengths.items tried fresh in
    let few = lengths_few c.fractions w (tried_width widths one w wide (most_tried widths one)).most in
    record {
      range_is = ranged;
      numeral = numeral;
      half = half;
      signed_is = signed;
      room = room;
      tried = tried;
      serving = serving few most;
      narrowed = λ yes. let b = best yes in fresh_narrowed range r c widths one v b.0 raised b.2 tried (serving few most yes) b.1;
      unserved = λ no. record {
        never = λ _. never_served range r c v.bound.items widths one v.low least (over no);
        first = λ more. absurd (omega (arith, more, place));
      };
    }
  where
    serving : frac_lengths c.fractions (most_width widths one) ≤ 65 → frac_lengths c.fractions (most_width widths one) ≤ most_left v.lengths.items → v.is_served ≡ true → IsServing range r c [] v
    serving few most is = let fits = on is in record {
      lengths = fresh_left r c v.lengths.items fresh;
      within = within (omega (arith, fits, few));
      least = least;
      served = omega (arith, fits, most);
    }

-- ---- the tried widths
pub at_least_8 : (m : ℕ) → IsTypeWidth m → 8 ≤ m
at_least_8 m (inl a) = omega (arith, a)
at_least_8 m (inr (inl a)) = omega (arith, a)
at_least_8 m (inr (inr (inl a))) = omega (arith, a)
at_least_8 m (inr (inr (inr a))) = omega (arith, a)

-- the type widths below 16, 32 and 64
less_types : (m : ℕ) → IsTypeWidth m → (m < 16 → m ≤ 8) × (m < 32 → m ≤ 16) × (m < 64 → m ≤ 32)
less_types m (inl a) = (λ _. omega (arith, a), λ _. omega (arith, a), λ _. omega (arith, a))
less_types m (inr (inl a)) = (λ less. omega (arith, a, less), λ _. omega (arith, a), λ _. omega (arith, a))
less_types m (inr (inr (inl a))) = (λ less. omega (arith, a, less), λ less. omega (arith, a, less), λ _. omega (arith, a))
less_types m (inr (inr (inr a))) = (λ less. omega (arith, a, less), λ less. omega (arith, a, less), λ less. omega (arith, a, less))

-- the next lower tried width
pub below_one : (one n : ℕ) → IsTried One one n → IsBelow One one n 0
below_one one n same = record { none = λ _ m is. omega (arith, same, is); some = λ more. absurd (omega (arith, more)) }

pub below_any : (one n : ℕ) → IsTried Any one n → IsBelow Any one n (n - 1)
below_any one n is =
    let some = is.some in
    let most = is.most in
    record {
      none = λ zero m at. let from = at.some in omega (arith, zero, from);
      some = λ more. record {
        tried = record { some = omega (arith, more); most = omega (arith, most) };
        less = omega (arith, some);
        greatest = λ k _ less. omega (arith, less);
      };
    }

pub below_least : (one n : ℕ) → IsTried Types one n → n ≤ 8 → IsBelow Types one n 0
below_least one n is few = record { none = λ _ m at. let from = at_least_8 m at in omega (arith, few, from); some = λ more. absurd (omega (arith, more)) }

pub below_half : (one n : ℕ) → IsTried Types one n → 8 < n → IsBelow Types one n (n / 2)
below_half one n (inl a) more = absurd (omega (arith, a, more))
below_half one n (inr (inl a)) more =
    let h : n / 2 ≡ 8 = omega (arith, a) in
    subst (λ (b : ℕ). IsBelow Types one n b) (sym h) (record { none = λ zero. absurd (omega (arith, zero)); some = λ _. record { tried = inl refl; less = omega (arith, a); greatest = λ k at less. (less_types k at).0 (omega (arith, less, a)) } })
below_half one n (inr (inr (inl a))) more =
    let h : n / 2 ≡ 16 = omega (arith, a) in
    subst (λ (b : ℕ). IsBelow Types one n b) (sym h) (record { none = λ zero. absurd (omega (arith, zero)); some = λ _. record { tried = inr (inl refl); less = omega (arith, a); greatest = λ k at less. (less_types k at).1 (omega (arith, less, a)) } })
below_half one n (inr (inr (inr a))) more =
    let h : n / 2 ≡ 32 = omega (arith, a) in
    subst (λ (b : ℕ). IsBelow Types one n b) (sym h) (record { none = λ zero. absurd (omega (arith, zero)); some = λ _. record { tried = inr (inr (inl refl)); less = omega (arith, a); greatest = λ k at less. (less_types k at).2 (omega (arith, less, a)) } })

pub some_below : (widths : Widths) (one n : ℕ) → IsTried widths one n → (b : ℕ) × IsBelow widths one n b
some_below One one n is = (0, below_one one n is)
some_below Any one n is = (n - 1, below_any one n is)
some_below Types one n is =
    ⊎_elim
    (λ (more : 8 < n). (n / 2, below_half one n is more))
    (λ (few : n ≤ 8). (0, below_least one n is few))
    (cases_lt 8 n)

-- ---- loops over the lengths
get_dropped : (xs : List Lengths) (k : ℕ) (d : Lengths) → get_or xs k d ≡ get_or (drop k xs) 0 d
get_dropped xs zero d = refl
get_dropped [] (suc k) d = refl
get_dropped (x ∷ xs) (suc k) d = get_dropped xs k d

drop_one : (xs : List Lengths) (k : ℕ) → drop (suc k) xs ≡ drop 1 (drop k xs)
drop_one xs zero = refl
drop_one [] (suc k) = refl
drop_one (x ∷ xs) (suc k) = drop_one xs k

pub left_one_less : (xs ys : List Lengths) (k : ℕ) → drop k xs ≡ drop k ys → drop (k + 1) xs ≡ drop (k + 1) ys
left_one_less xs ys k left =
    let e : k + 1 ≡ suc k = omega arith in
    ap (λ n. drop n xs) e ∙ (drop_one xs k ∙ (ap (λ l. drop 1 l) left ∙ (sym (drop_one ys k) ∙ ap (λ n. drop n ys) (sym e))))

pub same_element : (items initial : List Lengths) (k : ℕ) (d : Lengths) → drop k items ≡ drop k initial → get_or items k d ≡ get_or initial k d
same_element items initial k d left = get_dropped items k d ∙ (ap (λ l. get_or l 0 d) left ∙ sym (get_dropped initial k d))

pub few_at : (ls : List Lengths) (k : ℕ) (d : Lengths) → k < length ls → AreFew ls → (get_or ls k d).count ≤ 65
few_at [] k d less all = absurd (omega (arith, less))
few_at (l ∷ ls) zero d less all = all.0
few_at (l ∷ ls) (suc k) d less all = few_at ls k d (omega (arith, less)) all.1

pub lowered_more : (r : Radix) (line : List ℕ) (place : ℕ) (olds news : List Lengths) (old new : Lengths) → AreAllLowered r line place olds news → AreLowered r line place old new → AreAllLowered r line place (olds ++ old ∷ []) (news ++ new ∷ [])
lowered_more r line place [] [] old new all here = (here, tt)
lowered_more r line place [] (y ∷ ys) old new all here = absurd all
lowered_more r line place (x ∷ xs) [] old new all here = absurd all
lowered_more r line place (x ∷ xs) (y ∷ ys) old new all here = (all.0, lowered_more r line place xs ys old new all.1 here)

pub most_more : (ls : List Lengths) (l : Lengths) → most_left (ls ++ l ∷ []) ≡ max (most_left ls) l.count
most_more [] l = omega arith
most_more (x ∷ xs) l = let h = most_more xs l in omega (arith, h)

pub some_items : (low : ℕ) (ls : List Lengths) → low < most_left ls → 0 < length ls
some_items low [] h = absurd (omega (arith, h))
some_items low (l ∷ ls) h = omega arith

pub in_get : (ls : List Lengths) (k : ℕ) (d : Lengths) → k < length ls → IsIn (get_or ls k d) ls
in_get [] k d less = absurd (omega (arith, less))
in_get (l ∷ ls) zero d less = inl refl
in_get (l ∷ ls) (suc k) d less = inr (in_get ls k d (omega (arith, less)))

pub in_more : (x l : Lengths) (ls : List Lengths) → IsIn x (ls ++ l ∷ []) → IsIn x ls ⊎ (l ≡ x)
in_more x l [] (inl here) = inr here
in_more x l [] (inr none) = absurd none
in_more x l (y ∷ ys) (inl same) = inl (inl same)
in_more x l (y ∷ ys) (inr later) = by (in_more x l ys later)
  where
    by : IsIn x ys ⊎ (l ≡ x) → IsIn x (y ∷ ys) ⊎ (l ≡ x)
    by (inl more) = inl (inr more)
    by (inr here) = inr here

pub best_more : (low : ℕ) (items : List Lengths) (k : ℕ) (d best new : Lengths) → k < length items → (new ≡ best) ⊎ (new ≡ get_or items k d)
    → (low < (get_or items k d).count → (low < new.count) × (new.kind.width ≤ (get_or items k d).kind.width)) → (low < best.count → (low < new.count) × (new.kind.width ≤ best.kind.width))
    → IsIn best items → ((x : Lengths) → IsIn x (take k items) → low < x.count → (low < best.count) × (best.kind.width ≤ x.kind.width))
    → IsIn new items × ((x : Lengths) → IsIn x (take (k + 1) items) → low < x.count → (low < new.count) × (new.kind.width ≤ x.kind.width))
best_more low items k d best new less one left kept among least = (inside one, λ x is longer. by x (in_more x (get_or items k d) (take k items) (subst (λ (l : List Lengths). IsIn x l) (take_more items k d less) is)) longer)
  where
    inside : (new ≡ best) ⊎ (new ≡ get_or items k d) → IsIn new items
    inside (inl e) = subst (λ (l : Lengths). IsIn l items) (sym e) among
    inside (inr e) = subst (λ (l : Lengths). IsIn l items) (sym e) (in_get items k d less)

    by : (x : Lengths) → IsIn x (take k items) ⊎ (get_or items k d ≡ x) → low < x.count → (low < new.count) × (new.kind.width ≤ x.kind.width)
    by x (inl before) longer =
        let b = least x before longer in
        let e = kept b.0 in
        let order : new.kind.width ≤ x.kind.width = omega (arith, e.1, b.1) in
        (e.0, order)
    by x (inr same) longer = subst (λ (l : Lengths). (low < new.count) × (new.kind.width ≤ l.kind.width)) same (left (subst (λ (l : Lengths). low < l.count) (sym same) longer))

pub best_all : (low : ℕ) (items : List Lengths) (k : ℕ) (best : Lengths) → length items ≤ k → low < most_left items → IsIn best items
    → ((x : Lengths) → IsIn x (take k items) → low < x.count → (low < best.count) × (best.kind.width ≤ x.kind.width)) → IsBestOf low items best
best_all low items k best past some among least =
    let t = longer_in low items some in
    let back : (x : Lengths) → IsIn x items → IsIn x (take k items) = λ x is. subst (λ (l : List Lengths). IsIn x l) (sym (take_all k items past)) is in
    record {
      among = among;
      longer = (least t.0 (back t.0 t.1) t.2).0;
      least = λ x is longer. (least x (back x is) longer).1;
    }

pub fresh_few : (c : Choice) (ls : List Lengths) → AreFresh c ls → AreFew ls
fresh_few c [] all = tt
fresh_few c (l ∷ ls) all = (all.0.few, fresh_few c ls all.1)

-- the lengths of all tried widths below `width`
pub record IsCovered (c : Choice) (widths : Widths) (one width : ℕ) (items : List Lengths) : Type 0 where
  pub fresh : AreFresh c items
  pub all : (n : ℕ) → 0 < n → n < width → IsTried widths one n → HasWidth n items
  pub only : (n : ℕ) → HasWidth n items → IsTried widths one n

pub none_covered : (c : Choice) (widths : Widths) (one : ℕ) → IsCovered c widths one 1 []
none_covered c widths one = record { fresh = tt; all = λ n some less t. absurd (omega (arith, some, less)); only = λ n h. absurd h }

pub covered_more : (c : Choice) (widths : Widths) (one width : ℕ) (items after : List Lengths) (l : Lengths) → after ≡ items ++ l ∷ [] → IsWidth width → IsTried widths one width → l.kind.signed ≡ c.signed → l.kind.width ≡ width → l.count ≡ frac_lengths c.fractions l.kind.width → l.count ≤ 65 → l.place ≡ 0
    → IsCovered c widths one width items → IsCovered c widths one (width + 1) after
covered_more c widths one width items after l is at tried signed same count few place h = subst (λ (x : List Lengths). IsCovered c widths one (width + 1) x) (sym is) (record {
  fresh = fresh_more c items l h.fresh (record { signed = signed; width = subst IsWidth (sym same) at; all = count; few = few; place = place });
  all = λ n some less t. width_more n items l (⊎_elim
      (λ (before : n < width). inl (h.all n some before t))
      (λ (past : width ≤ n). let e : width ≡ n = omega (arith, past, less) in inr (same ∙ e))
      (cases_lt n width));
  only = λ n has. by n (width_less n items l has);
})
  where
    by : (n : ℕ) → HasWidth n items ⊎ (l.kind.width ≡ n) → IsTried widths one n
    by n (inl before) = h.only n before
    by n (inr here) = subst (λ (m : ℕ). IsTried widths one m) (sym same ∙ here) tried

pub covered_past : (c : Choice) (widths : Widths) (one width : ℕ) (items : List Lengths) → ¬ IsTried widths one width → IsCovered c widths one width items → IsCovered c widths one (width + 1) items
covered_past c widths one width items not h = record {
  fresh = h.fresh;
  all = λ n some less t. ⊎_elim
      (λ (before : n < width). h.all n some before t)
      (λ (past : width ≤ n). let e : n ≡ width = omega (arith, past, less) in absurd (not (subst (λ (m : ℕ). IsTried widths one m) e t)))
      (cases_lt n width);
  only = h.only;
}

pub covered_all : (c : Choice) (widths : Widths) (one width : ℕ) (items : List Lengths) → IsWidth one → 65 ≤ width → IsCovered c widths one width items → AreTried widths one items
covered_all c widths one width items at past h = record {
  all = λ n t. let w = tried_width widths one n at t in h.all n w.some (let most = w.most in omega (arith, most, past)) t;
  only = h.only;
}
