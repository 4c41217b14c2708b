-- What is known of the formats that serve so far.
use Rattle.std.specs.Prelude.{◌≡◌, ◌⊎◌, ◌<◌, ◌≤◌, ◌&&◌, ℕ, max, Bool, true, false, List, [], ◌∷◌, ◌++◌, suc}
use Rattle.std.specs.Prelude.{if◌then◌else◌, nat_lt}
use Rattle.fixed_bits.specs.Ranges.{IsWidth}
use Rattle.fixed_numeral.specs.Numeral.{IsNumeral}
use Rattle.fixed_numeral.specs.declared.radix.Radix.{Radix}
use Rattle.fixed_numeral.specs.declared.short.ShortNumeral.{ShortNumeral}
use Rattle.fixed_fit.specs.Inner.Lengths.{AreLengths, AreLowered, IsRoomOf, IsSomeAnswer, IsSurelyLeft}
use Rattle.line_engine.specs.AnswerText.{AnswerText}
use Rattle.fixed_fit.specs.declared.question.Fractions.{Fractions}
use Rattle.fixed_fit.specs.declared.question.Question.{Question}
use Rattle.fixed_fit.specs.Bounded.{width_line}
use Rattle.fixed_fit.specs.Fitting.{Choice, choice}
use Rattle.fixed_fit.specs.Within.{IsErrorWithin, IsHalfWithin, IsLeastWithin, IsNextBelow, IsTried, IsUnservedFrom}
use Rattle.fixed_fit.specs.declared.lengths.Lengths.{Lengths}
use Rattle.fixed_fit.specs.declared.question.Widths.{Widths}
use Rattle.fixed_fit.specs.declared.question.Widths.TheVariants.{One}
use Rattle.fixed_fit.specs.declared.serving.Serving.{Serving}
use Rattle.fixed_fit.specs.declared.serving.Within.{Within}

-- the fraction lengths that are left of a width
pub record IsLeftOf (r : Radix) (c : Choice) (lines : List (List ℕ)) (l : Lengths) : Type 0 where
  pub signed : l.kind.signed ≡ c.signed
  pub width : IsWidth l.kind.width
  pub lengths : AreLengths c.fractions r lines l

-- the fraction lengths that are left of each of some widths
abbrev pub AreAllLeft : Radix → Choice → List (List ℕ) → List Lengths → Type 0
AreAllLeft r c lines [] = Unit {0}
AreAllLeft r c lines (l ∷ ls) = IsLeftOf r c lines l × AreAllLeft r c lines ls

-- each width has at most 65 lengths left
abbrev pub AreFew : List Lengths → Type 0
AreFew [] = Unit {0}
AreFew (l ∷ ls) = (l.count ≤ 65) × AreFew ls

-- the new lengths are those that a line at a place leaves of the old ones
abbrev pub AreAllLowered : Radix → List ℕ → ℕ → List Lengths → List Lengths → Type 0
AreAllLowered r line place [] [] = Unit {0}
AreAllLowered r line place [] (new ∷ news) = ⊥
AreAllLowered r line place (old ∷ olds) [] = ⊥
AreAllLowered r line place (old ∷ olds) (new ∷ news) = AreLowered r line place old new
    × AreAllLowered r line place olds news

-- a short decimal is surely in range with each length that is left of each width
abbrev pub AreSurelyLeft : List Lengths → ShortNumeral → Type 0
AreSurelyLeft [] n = Unit {0}
AreSurelyLeft (l ∷ ls) n = IsSurelyLeft l n × AreSurelyLeft ls n

-- each number of at most k parts of 10^-18 has room with the longest length that is left of each width
abbrev pub HaveRoom : ℕ → List Lengths → Type 0
HaveRoom k [] = Unit {0}
HaveRoom k (l ∷ ls) = IsRoomOf k l × HaveRoom k ls

-- l is one of the list
abbrev pub IsIn : Lengths → List Lengths → Type 0
IsIn l [] = ⊥
IsIn l (x ∷ xs) = (x ≡ l) ⊎ IsIn l xs

-- n is the width of one of the list
abbrev pub HasWidth : ℕ → List Lengths → Type 0
HasWidth n [] = ⊥
HasWidth n (l ∷ ls) = (l.kind.width ≡ n) ⊎ HasWidth n ls

-- the greatest number of lengths that are left of one width
abbrev pub most_left : List Lengths → ℕ
most_left [] = 0
most_left (l ∷ ls) = max l.count (most_left ls)

-- their widths are the widths that are tried
pub record AreTried (widths : Widths) (one : ℕ) (ls : List Lengths) : Type 0 where
  pub all : (n : ℕ) → IsTried widths one n → HasWidth n ls
  pub only : (n : ℕ) → HasWidth n ls → IsTried widths one n

-- best is one of the least width among those with more than `low` lengths
pub record IsBestOf (low : ℕ) (ls : List Lengths) (best : Lengths) : Type 0 where
  pub among : IsIn best ls
  pub longer : low < best.count
  pub least : (l : Lengths) → IsIn l ls → low < l.count → best.kind.width ≤ l.kind.width

-- while a format serves: the lengths that are left, and the least that is within the bound
pub record IsServing (range : Bool) (r : Radix) (c : Choice) (lines : List (List ℕ)) (v : Serving) : Type 0 where
  pub lengths : AreAllLeft r c lines v.lengths.items
  pub within : IsErrorWithin range r v.low v.bound.items lines
  pub least : (f : ℕ) → f < v.low → ¬ IsErrorWithin range r f v.bound.items lines
  pub served : v.low < most_left v.lengths.items

-- while a format serves: the least width at which one does, and the line from which on none of the next lesser one does
pub record IsNarrowed (range : Bool) (r : Radix) (c : Choice) (widths : Widths) (one : ℕ) (lines : List (List ℕ))
    (v : Serving) : Type 0 where
  pub frac : ℕ
  pub least : IsLeastWithin range r c v.bound.items widths one lines v.width frac
  pub below : (m : ℕ) → IsNextBelow widths one v.width m → IsUnservedFrom range r c v.bound.items One m lines v.raised

-- `v` is what is kept of the lines
pub record HasServing (range : Bool) (r : Radix) (c : Choice) (widths : Widths) (one : ℕ) (lines : List (List ℕ))
    (v : Serving) : Type 0 where
  pub range_is : v.is_range ≡ range
  pub numeral : IsNumeral r v.bound.items
  pub half : v.half < 65 → IsHalfWithin r v.half v.bound.items
  pub signed_is : v.signed ≡ c.signed
  pub room : HaveRoom v.room v.lengths.items
  pub tried : AreTried widths one v.lengths.items
  pub serving : v.is_served ≡ true → IsServing range r c lines v
  pub narrowed : v.is_served ≡ true → IsNarrowed range r c widths one lines v
  pub unserved : v.is_served ≡ false → IsUnservedFrom range r c v.bound.items widths one lines v.place

-- `v` is what is kept of some lines
abbrev pub HasSomeServing : Radix → Serving → Type 0
HasSomeServing r v = (range : Bool) × (c : Choice) × (widths : Widths) × (one : ℕ) × (lines : List (List ℕ))
    × HasServing range r c widths one lines v

-- a request: a format of a width, or one of some widths within a bound
pub record Asked : Type 0 where
  pub width : ℕ
  pub fractions : Fractions
  pub is_bounded : Bool
  pub is_range : Bool
  pub bound : List ℕ
  pub widths : Widths
  pub one : ℕ

abbrev pub asked_of : ℕ → Fractions → Bool → Bool → List ℕ → Widths → ℕ → Asked
asked_of n fractions is range bound widths one = record {
  width = n;
  fractions = fractions;
  is_bounded = is;
  is_range = range;
  bound = bound;
  widths = widths;
  one = one;
}

abbrev pub unbounded : ℕ → Fractions → Asked
unbounded n fractions = asked_of n fractions false false [] One n

abbrev pub bounded : Bool → ℕ → Fractions → List ℕ → Widths → ℕ → Asked
bounded range n fractions bound widths one = asked_of n fractions true range bound widths one

-- `w` is what is kept of the formats within the bound
pub record AreServed (r : Radix) (a : Asked) (lines : List (List ℕ)) (w : Within) : Type 0 where
  pub plain_bound : w.plain.bound.items ≡ a.bound
  pub signed_bound : w.signed.bound.items ≡ a.bound
  pub plain : HasServing a.is_range r (choice false a.fractions) a.widths a.one lines w.plain
  pub signed : HasServing a.is_range r (choice true a.fractions) a.widths a.one lines w.signed

-- below is the tried width next below n, or 0 if there is none
pub record IsBelow (widths : Widths) (one n below : ℕ) : Type 0 where
  pub none : below ≡ 0 → (m : ℕ) → IsTried widths one m → n ≤ m
  pub some : 0 < below → IsNextBelow widths one n below

-- the reason that is written: the line from which on no format of the next lesser width serves
abbrev pub lesser_of : Bool → ℕ → ℕ → List ℕ
lesser_of asked below place = if asked && nat_lt 0 below then width_line below place else []

-- the answer while a format serves
pub record IsServingAnswer (q : Question) (widths : Widths) (list : List (List ℕ)) (v : Serving)
    (answer : AnswerText) : Type 0 where
  pub best : Lengths
  pub is_best : IsBestOf v.low v.lengths.items best
  pub frac : ℕ
  pub last : suc frac ≡ best.count
  pub before : AnswerText
  pub some : IsSomeAnswer q list best.kind frac best.place before
  pub below : ℕ
  pub is_below : IsBelow widths q.kind.width v.width below
  pub text : answer.text ≡ before.text ++ lesser_of q.is_reason_asked below v.raised
  pub fault : answer.fault ≡ before.fault
