-- A short decimal that changes nothing: in range with each remaining length, and with its error within the bound.
use Rattle.std.proofs.Common.{◌≡◌, ℕ, ◌+◌, ◌*◌, ◌^◌, ◌<◌, ◌≤◌, Bool, true, false, List, [], ◌∷◌, ◌++◌, length, sym, ◌∙◌, subst, arith, ap, ⊎_elim, mul-le-mul_right, ◌⊎◌, inl, inr, pos, refl}
use Rattle.std.proofs.lemmas.Bool.{cases_lt}
use Rattle.fixed_bits.specs.Nearest.{IsNearest, distance}
use Rattle.fixed_bits.specs.declared.mode.ReadMode.TheVariants.{NearestEven}
use Rattle.fixed_error.specs.ErrorSize.{HasErrorWithin, IsAtMost, error_size}
use Rattle.fixed_error.specs.Short.{IsShortRead}
use Rattle.fixed_numeral.specs.Numeral.{IsNumeral}
use Rattle.fixed_numeral.specs.Value.{Fraction, magnitude}
use Rattle.fixed_numeral.specs.declared.radix.Radix.{Radix}
use Rattle.fixed_numeral.specs.declared.short.ShortNumeral.{ShortNumeral}
use Rattle.fixed_numeral.proofs.Public.{magnitude_pos}
use Rattle.fixed_read.proofs.Public.{read_number_is_the_one}
use Rattle.fixed_fit.specs.Fitting.{Choice}
use Rattle.fixed_fit.specs.Inner.Lengths.{IsFlatDecimal, IsRoomOf, IsWholeFraction}
use Rattle.fixed_fit.specs.Inner.Serving.{AreAllLeft, AreAllLowered, AreSurelyLeft, HasServing, HaveRoom, IsIn, most_left}
use Rattle.fixed_fit.specs.Within.{IsErrorWithin, IsHalfWithin, IsLeastWithin, Serves}
use Rattle.fixed_fit.specs.declared.lengths.Lengths.{Lengths}
use Rattle.fixed_fit.specs.declared.short.FlatDecimal.{FlatDecimal}
use Rattle.fixed_fit.specs.declared.question.Widths.{Widths}
use Rattle.fixed_fit.specs.declared.question.Widths.TheVariants.{One}
use Rattle.fixed_fit.specs.declared.serving.Serving.{Serving}
use Rattle.fixed_fit.proofs.RangeLemmas.{within_half}
use Rattle.fixed_fit.proofs.ServingLemmas.{all_one_more, in_width, left_in, serves_by, serves_not}
use Rattle.fixed_fit.proofs.ShortLemmas.{left_as_they_were, less_room, read_numeral, surely_left, whole_magnitude}
use Rattle.fixed_fit.proofs.WithinLemmas.{error_before, error_within_longer, from_longer, half_within_longer, serves_before, within_one_more}

-- ---- the lengths of several widths
pub all_as_they_were : (r : Radix) (line : List ℕ) (place : ℕ) (n : ShortNumeral) (ls : List Lengths) → IsShortRead r line n → n.exponent ≡ pos 0 → AreSurelyLeft ls n → AreAllLowered r line place ls ls
all_as_they_were r line place n [] read none all = tt
all_as_they_were r line place n (l ∷ ls) read none all = (left_as_they_were r line place l n read none all.0, all_as_they_were r line place n ls read none all.1)

-- ---- the room of all widths
pub less_rooms : (j k : ℕ) (ls : List Lengths) → j ≤ k → HaveRoom k ls → HaveRoom j ls
less_rooms j k [] order all = tt
less_rooms j k (l ∷ ls) order all = (less_room j k l order all.0, less_rooms j k ls order all.1)

pub more_room : (k : ℕ) (ls : List Lengths) (l : Lengths) → HaveRoom k ls → IsRoomOf k l → HaveRoom k (ls ++ l ∷ [])
more_room k [] l all here = (here, tt)
more_room k (x ∷ xs) l all here = (all.0, more_room k xs l all.1 here)

pub all_by_room : (ls : List Lengths) (d : FlatDecimal) (k : ℕ) (s : Bool) → ((l : Lengths) → IsIn l ls → l.kind.signed ≡ s) → (d.decimal.negative ≡ true → s ≡ true) → IsFlatDecimal d → d.parts ≤ k → HaveRoom k ls → AreSurelyLeft ls d.decimal
all_by_room [] d k s signs sign flat less room = tt
all_by_room (l ∷ ls) d k s signs sign flat less room = (
  surely_left l d k (λ f last minus. signs l (inl refl) ∙ sign minus) flat less room.0,
  all_by_room ls d k s (λ x within. signs x (inr within)) sign flat less room.1,
)

-- ---- if half an ulp is within the bound, the error of each numeral is
pub numeral_within : (r : Radix) (f : ℕ) (line bound : List ℕ) → IsNumeral r line → IsHalfWithin r f bound → HasErrorWithin NearestEven r f line bound
numeral_within r f line bound numeral h =
    let p = numeral.0 in
    let v = read_number_is_the_one NearestEven r p f in
    record {
      size = error_size (magnitude r p) f v.1.ulps;
      has_size = record { parts = p; numeral = numeral.1; number = v.0; read = v.1; size_is = refl };
      bound_parts = h.parts;
      bound_numeral = h.numeral;
      at_most = within_half (magnitude r p) (magnitude r h.parts) f v.1.ulps v.1.rounded h.at_most;
    }

within_by : (range : Bool) (r : Radix) (f : ℕ) (bound : List ℕ) (done : List (List ℕ)) (line : List ℕ) → HasErrorWithin NearestEven r f line bound → IsErrorWithin range r f bound done → IsErrorWithin range r f bound (done ++ line ∷ [])
within_by true r f bound done line here h = h
within_by false r f bound done line here h = within_one_more r f bound done line h here

within_on : (range : Bool) (r : Radix) (f : ℕ) (bound : List ℕ) (done : List (List ℕ)) (line : List ℕ) → IsNumeral r line → IsHalfWithin r f bound → IsErrorWithin range r f bound done → IsErrorWithin range r f bound (done ++ line ∷ [])
within_on true r f bound done line numeral half h = h
within_on false r f bound done line numeral half h = within_one_more r f bound done line h (numeral_within r f line bound numeral half)

-- ---- a whole number of ulps has no error
nearest_whole : (w den q : ℕ) → 0 < den → IsNearest (w * den) den q → distance (w * den) (q * den) ≡ 0
nearest_whole w den q some h = ⊎_elim
    (λ (less : w < q). let m : (w + 1) * den ≤ q * den = mul-le-mul_right den (omega (arith, less)) in let near = h.near in absurd (omega (arith, m, near, some)))
    (λ (most : q ≤ w). ⊎_elim
    (λ (more : q < w). let m : (q + 1) * den ≤ w * den = mul-le-mul_right den (omega (arith, more)) in let near = h.near in absurd (omega (arith, m, near, some)))
    (λ (least : w ≤ q). let same : w ≡ q = omega (arith, least, most) in let e : w * den ≡ q * den = ap (λ (k : ℕ). k * den) same in omega (arith, e))
    (cases_lt q w))
    (cases_lt w q)

no_error : (m b : Fraction) (f w q : ℕ) → 0 < m.den → m.num * 2 ^ f ≡ w * m.den → IsNearest (m.num * 2 ^ f) m.den q → IsAtMost (error_size m f q) b
no_error m b f w q some is near =
    let none : distance (w * m.den) (q * m.den) ≡ 0 = nearest_whole w m.den q some (subst (λ (k : ℕ). IsNearest k m.den q) is near) in
    let here : distance (m.num * 2 ^ f) (q * m.den) ≡ 0 = subst (λ (k : ℕ). distance k (q * m.den) ≡ 0) (sym is) none in
    let left : distance (m.num * 2 ^ f) (q * m.den) * b.den ≡ 0 * b.den = ap (λ (k : ℕ). k * b.den) here in
    omega (arith, left)

whole_within : (r : Radix) (f : ℕ) (line bound : List ℕ) (n : ShortNumeral) → IsShortRead r line n → n.exponent ≡ pos 0 → IsWholeFraction n f → IsNumeral r bound → HasErrorWithin NearestEven r f line bound
whole_within r f line bound n read none whole limit =
    let numeral = read_numeral r line n read in
    let p = numeral.0 in
    let v = read_number_is_the_one NearestEven r p f in
    record {
      size = error_size (magnitude r p) f v.1.ulps;
      has_size = record { parts = p; numeral = numeral.1; number = v.0; read = v.1; size_is = refl };
      bound_parts = limit.0;
      bound_numeral = limit.1;
      at_most = no_error (magnitude r p) (magnitude r limit.0) f (n.whole * 2 ^ f + whole.0) v.1.ulps (magnitude_pos r p) (whole_magnitude r line n p f whole.0 numeral.1 read none whole.1) v.1.rounded;
    }

-- ---- the format that serves at the least width still serves
serves_on : (range : Bool) (r : Radix) (c : Choice) (bound : List ℕ) (done : List (List ℕ)) (line : List ℕ) (ls : List Lengths) (l : Lengths) (low f : ℕ) → AreAllLeft r c done ls → AreAllLeft r c (done ++ line ∷ []) ls → (f < l.count) ⊎ (l.count ≤ f) → (f < low) ⊎ (low ≤ f) → IsIn l ls
    → ((g : ℕ) → g < low → ¬ IsErrorWithin range r g bound done) → IsErrorWithin range r low bound (done ++ line ∷ []) → Serves range r c bound done l.kind.width f → Serves range r c bound (done ++ line ∷ []) l.kind.width f
serves_on range r c bound done line ls l low f before after (inr past) order is least within h = absurd (serves_not range r c bound done l f (left_in r c done l ls is before) past h)
serves_on range r c bound done line ls l low f before after (inl less) (inl short) is least within h = absurd (least f short h.within)
serves_on range r c bound done line ls l low f before after (inl less) (inr from) is least within h =
    serves_by range r c bound (done ++ line ∷ []) l f (left_in r c (done ++ line ∷ []) l ls is after) less (error_within_longer range r low f bound (done ++ line ∷ []) from within)

least_on : (range : Bool) (r : Radix) (c : Choice) (bound : List ℕ) (widths : Widths) (one : ℕ) (done : List (List ℕ)) (line : List ℕ) (n f : ℕ) → Serves range r c bound (done ++ line ∷ []) n f → IsLeastWithin range r c bound widths one done n f → IsLeastWithin range r c bound widths one (done ++ line ∷ []) n f
least_on range r c bound widths one done line n f serves h = record {
  tried = h.tried;
  serves = serves;
  greatest = λ g more x. h.greatest g more (serves_before range r c bound done (line ∷ []) n g x);
  least = λ m g less is x. h.least m g less is (serves_before range r c bound done (line ∷ []) m g x);
}

few_left : (r : Radix) (c : Choice) (lines : List (List ℕ)) (ls : List Lengths) → AreAllLeft r c lines ls → most_left ls ≤ 65
few_left r c lines [] all = omega arith
few_left r c lines (l ∷ ls) all = let rest = few_left r c lines ls all.1 in omega (arith, rest, all.0.lengths.few)

pub stays : (range : Bool) (r : Radix) (c : Choice) (widths : Widths) (one : ℕ) (done : List (List ℕ)) (line : List ℕ) (place : ℕ) (n : ShortNumeral) (v : Serving) → v.is_served ≡ true → (v.half ≤ v.low) ⊎ IsWholeFraction n v.low → IsShortRead r line n → n.exponent ≡ pos 0 → AreSurelyLeft v.lengths.items n → place ≡ length done + 1
    → HasServing range r c widths one done v → HasServing range r c widths one (done ++ line ∷ []) v
stays range r c widths one done line place n v on sure read none surely at h =
    let was = h.serving on in
    let now = h.narrowed on in
    let bound : List ℕ = v.bound.items in
    let ls : List Lengths = v.lengths.items in
    let few = few_left r c done ls was.lengths in
    let served = was.served in
    let after = all_one_more r c done line place ls ls at (all_as_they_were r line place n ls read none surely) was.lengths in
    let within = ⊎_elim
    (λ (order : v.half ≤ v.low). within_on range r v.low bound done line (read_numeral r line n read) (half_within_longer r v.half v.low bound order (h.half (omega (arith, order, few, served)))) was.within)
    (λ (whole : IsWholeFraction n v.low). within_by range r v.low bound done line (whole_within r v.low line bound n read none whole h.numeral) was.within)
    sure in
    let l = in_width v.width ls (h.tried.all v.width now.least.tried) in
    let S : List (List ℕ) → ℕ → Type 0 = λ lines m. Serves range r c bound lines m now.frac in
    let serves : S (done ++ line ∷ []) v.width = subst (S (done ++ line ∷ [])) l.2 (serves_on range r c bound done line ls l.0 v.low now.frac was.lengths after (cases_lt now.frac l.0.count) (cases_lt now.frac v.low) l.1 was.least within (subst (S done) (sym l.2) now.least.serves)) in
    record {
      range_is = h.range_is;
      numeral = h.numeral;
      half = h.half;
      signed_is = h.signed_is;
      room = h.room;
      tried = h.tried;
      serving = λ _. record {
        lengths = after;
        within = within;
        least = λ f less x. was.least f less (error_before range r f bound done (line ∷ []) x);
        served = served;
      };
      narrowed = λ _. record {
        frac = now.frac;
        least = least_on range r c bound widths one done line v.width now.frac serves now.least;
        below = λ m next. from_longer range r c bound One m done line v.raised (now.below m next);
      };
      unserved = λ over. let no : true ≡ false = sym on ∙ over in cc;
    }
