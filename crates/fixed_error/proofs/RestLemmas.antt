-- How far a numeral is above a whole number of ulps, from its digits after the point.
use Rattle.std.proofs.Common.{◌≡◌, ℕ, suc, ◌+◌, ◌-◌, ◌*◌, ◌/◌, ◌%◌, ◌^◌, ◌<◌, ◌≤◌, ◌⊎◌, ◌↔◌, IsTrue, not, Bool, true, false, List, [], ◌∷◌, length, take, drop, refl, sym, ap, ◌∙◌, subst, arith, ⊎_elim, inl, inr, mul-le-mul_right, length-drop, mod-eq_of_lt, if◌then◌else◌}
use Rattle.std.specs.Prelude.{min}
use Rattle.std.specs.Int.Digits.{AllBelowBase, number_from_digits}
use Rattle.std.proofs.Math.Nat.{one-le-pow, pow-le-pow_right, pow-zero}
use Rattle.std.proofs.lemmas.Bool.{cases_lt}
use Rattle.std.proofs.lemmas.Int.Digits.{number_lt}
use Rattle.std.proofs.lemmas.List.{take-append-drop, length-take}
use Rattle.std.proofs.lemmas.Nat.{pow-add}
use Rattle.fixed_numeral.proofs.Public.{below_split, number_append, pow-mul}
use Rattle.fixed_numeral.specs.Numeral.{Parts, HasNumeral, base}
use Rattle.fixed_numeral.specs.Scanned.{IsScanned, exponent_unit}
use Rattle.fixed_numeral.specs.Value.{magnitude}
use Rattle.fixed_numeral.specs.declared.radix.Radix.{Radix}
use Rattle.fixed_numeral.specs.declared.radix.Radix.TheVariants.{Bin, Oct, Dec, Hex}
use Rattle.fixed_error.specs.Errors.{block, parts}
use Rattle.fixed_error.specs.Inner.Rest.{IsBehind, IsRest, first_number}
use Rattle.fixed_error.specs.declared.rest.Rest.{Rest}
use Rattle.fixed_error.proofs.GapLemmas.{base_least, cancel_le, in_ulps_of}
use Rattle.fixed_error.proofs.SumLemmas.{power_split}

nil_of : (xs : List ℕ) → length xs ≡ 0 → xs ≡ []
nil_of [] e = refl
nil_of (x ∷ xs) e = absurd (omega (arith, e))

-- ---- remainders
pub rest_of_small : (n m : ℕ) → n < m → n ≡ n % m
rest_of_small n m h = sym (mod-eq_of_lt h)

-- ---- powers
pub oct_power : (k : ℕ) → 2 ^ (3 * k) ≡ 8 ^ k
oct_power k = sym (pow-mul 2 3 k)

pub hex_power : (k : ℕ) → 2 ^ (4 * k) ≡ 16 ^ k
hex_power k = sym (pow-mul 2 4 k)

pub power_within : (b k n : ℕ) → 1 ≤ b → k ≤ n → b ^ k ≤ b ^ n
power_within b k n some h = pow-le-pow_right some h

pub block_power : (r : Radix) → base r ^ block r ≤ 2 ^ 60
block_power Bin = omega arith
block_power Oct = omega arith
block_power Dec = omega arith
block_power Hex = omega arith

pub product_is : (b x y number k : ℕ) → x ≡ number → y ≡ b ^ k → x * y ≡ number * b ^ k
product_is b x y number k e f = ap (λ t. t * y) e ∙ ap (λ t. number * t) f

pub first_below : (r : Radix) (ds : List ℕ) → AllBelowBase (base r) ds → first_number (base r) (block r) ds < base r ^ block r
unfolding first_number
first_below r ds all =
    let b : ℕ = base r in
    let h : ℕ = block r in
    let t : ℕ = length (take h ds) in
    let rest : ℕ = b ^ (h - min h (length ds)) in
    let less : number_from_digits b (take h ds) < b ^ t = number_lt b (take h ds) (below_split b ds h all).0 in
    let some : 1 ≤ b ^ (h - min h (length ds)) = one-le-pow (h - min h (length ds)) b (base_least r) in
    let m : (number_from_digits b (take h ds) + 1) * rest ≤ b ^ t * rest = mul-le-mul_right rest (omega (arith, less)) in
    let left : h - min h (length ds) ≡ h - t = omega (arith, length-take h ds) in
    let e : b ^ t * rest ≡ b ^ t * b ^ (h - t) = ap (λ k. b ^ t * b ^ k) left in
    let split : b ^ h ≡ b ^ t * b ^ (h - t) = power_split b t h (omega (arith, length-take h ds)) in
    omega (arith, m, e, split, some)

pub first_within : (r : Radix) (ds : List ℕ) → AllBelowBase (base r) ds → first_number (base r) (block r) ds ≤ 2 ^ 60
first_within r ds all = omega (arith, first_below r ds all, block_power r)

-- ---- a block of digits
cut : (b h : ℕ) (ds : List ℕ) → number_from_digits b (drop h ds) * b ^ (h - min h (length ds)) ≡ number_from_digits b (drop h ds)
cut b h ds =
    ⊎_elim
    (λ (less : length ds < h).
    let none : drop h ds ≡ [] = nil_of (drop h ds) (omega (arith, length-drop h ds, less)) in
    let P : List ℕ → Type 0 = λ l. number_from_digits b l * b ^ (h - min h (length ds)) ≡ number_from_digits b l in
    subst P (sym none) (omega arith))
    (λ (more : h ≤ length ds).
    let e : h - min h (length ds) ≡ 0 = omega (arith, more) in
    let one : b ^ (h - min h (length ds)) ≡ 1 = ap (λ k. b ^ k) e ∙ pow-zero b in
    let m : number_from_digits b (drop h ds) * b ^ (h - min h (length ds)) ≡ number_from_digits b (drop h ds) * 1 = ap (λ t. number_from_digits b (drop h ds) * t) one in
    omega (arith, m))
    (cases_lt (length ds) h)

regroup : (x n pt e g : ℕ) → n * e ≡ n → (x * g + n) * (pt * e) * g ≡ (x * e * g + n) * (pt * g)
regroup x n pt e g h = let m : n * e * (pt * g) ≡ n * (pt * g) = ap (λ t. t * (pt * g)) h in omega (arith, m)

pub block_is : (b h : ℕ) (ds : List ℕ) → number_from_digits b ds * b ^ h * b ^ length (drop h ds) ≡ (first_number b h ds * b ^ length (drop h ds) + number_from_digits b (drop h ds)) * b ^ length ds
unfolding first_number
block_is b h ds =
    let t : ℕ = min h (length ds) in
    let g : ℕ = b ^ length (drop h ds) in
    let x : ℕ = number_from_digits b (take h ds) in
    let n : ℕ = number_from_digits b (drop h ds) in
    let number : number_from_digits b ds ≡ x * g + n = ap (number_from_digits b) (sym (take-append-drop h ds)) ∙ number_append b (take h ds) (drop h ds) in
    let long : length ds ≡ t + length (drop h ds) = omega (arith, length-drop h ds) in
    let power : b ^ length ds ≡ b ^ t * g = ap (λ k. b ^ k) long ∙ pow-add b t (length (drop h ds)) in
    let split : b ^ h ≡ b ^ t * b ^ (h - t) = power_split b t h (omega arith) in
    ap (λ v. v * b ^ h * g) number
    ∙ (ap (λ v. (x * g + n) * v * g) split
    ∙ (regroup x n (b ^ t) (b ^ (h - t)) g (cut b h ds)
    ∙ ap (λ v. (x * b ^ (h - t) * g + n) * v) (sym power)))

pub cancel_eq : (a b t : ℕ) → 0 < t → a * t ≡ b * t → a ≡ b
cancel_eq a b t some e = omega (arith, cancel_le a b t some (omega (arith, e)), cancel_le b a t some (omega (arith, e)))

two_blocks : (n p g a m f k c z : ℕ) → 0 < g → n * p * g ≡ (a * g + m) * f → m * p * k ≡ (c * k + z) * g → n * (p * p) * k ≡ ((a * p + c) * k + z) * f
two_blocks n p g a m f k c z some one two =
    let x : n * p * g * (p * k) ≡ (a * g + m) * f * (p * k) = ap (λ t. t * (p * k)) one in
    let y : m * p * k * f ≡ (c * k + z) * g * f = ap (λ t. t * f) two in
    cancel_eq (n * (p * p) * k) (((a * p + c) * k + z) * f) g some (omega (arith, x, y))

-- ---- n / f is v of d parts, or up to `more` parts more
record IsCut (n d v more f : ℕ) : Type 0 where
  at_least : v * f ≤ n * d
  at_most : n * d ≤ (v + more) * f

cut_of : (n d v more f k z : ℕ) → 0 < k → n * d * k ≡ (v * k + z) * f → z ≤ more * k → IsCut n d v more f
cut_of n d v more f k z some e less =
    let m : z * f ≤ more * k * f = mul-le-mul_right f less in
    record {
      at_least = cancel_le (v * f) (n * d) k some (omega (arith, e));
      at_most = cancel_le (n * d) ((v + more) * f) k some (omega (arith, e, m));
    }

pub digits_are : (b h : ℕ) (ds : List ℕ) → 1 ≤ b → number_from_digits b ds * (b ^ h * b ^ h) * b ^ length (drop h (drop h ds)) ≡ ((first_number b h ds * b ^ h + first_number b h (drop h ds)) * b ^ length (drop h (drop h ds)) + number_from_digits b (drop h (drop h ds))) * b ^ length ds
digits_are b h ds some =
    let later : List ℕ = drop h ds in
    let last : List ℕ = drop h later in
    let g : 1 ≤ b ^ length later = one-le-pow (length later) b some in
    two_blocks (number_from_digits b ds) (b ^ h) (b ^ length later) (first_number b h ds) (number_from_digits b later) (b ^ length ds) (b ^ length last) (first_number b h later) (number_from_digits b last) (omega (arith, g)) (block_is b h ds) (block_is b h later)

digits_cut : (b h more : ℕ) (ds : List ℕ) → 1 ≤ b → number_from_digits b (drop h (drop h ds)) ≤ more * b ^ length (drop h (drop h ds)) → IsCut (number_from_digits b ds) (b ^ h * b ^ h) (first_number b h ds * b ^ h + first_number b h (drop h ds)) more (b ^ length ds)
digits_cut b h more ds some less =
    let last : List ℕ = drop h (drop h ds) in
    let k : 1 ≤ b ^ length last = one-le-pow (length last) b some in
    cut_of (number_from_digits b ds) (b ^ h * b ^ h) (first_number b h ds * b ^ h + first_number b h (drop h ds)) more (b ^ length ds) (b ^ length last) (number_from_digits b last) (omega (arith, k)) (digits_are b h ds some) less

behind_by : (num den w n f d v more u q r : ℕ) → 0 < f → num * f ≡ (w * f + n) * u * den → IsCut n d v more f → v * u ≡ q * d + r → IsBehind num den d r (more * u)
behind_by num den w n f d v more u q r some number c split =
    let a : v * f * (u * den) ≤ n * d * (u * den) = mul-le-mul_right (u * den) c.at_least in
    let b : n * d * (u * den) ≤ (v + more) * f * (u * den) = mul-le-mul_right (u * den) c.at_most in
    let e : num * f * d ≡ (w * f + n) * u * den * d = ap (λ t. t * d) number in
    let low : (w * d + v) * u * den ≤ num * d = cancel_le ((w * d + v) * u * den) (num * d) f some (omega (arith, a, e)) in
    let high : num * d ≤ (w * d + v + more) * u * den = cancel_le (num * d) ((w * d + v + more) * u * den) f some (omega (arith, b, e)) in
    let s : v * u * den ≡ (q * d + r) * den = ap (λ t. t * den) split in
    record { ulps = w * u + q; at_least = omega (arith, low, s); at_most = omega (arith, high, s) }

parts_some : (r : Radix) → 0 < base r ^ block r * base r ^ block r
parts_some Bin = omega arith
parts_some Oct = omega arith
parts_some Dec = omega arith
parts_some Hex = omega arith

pub parts_pos : (r : Radix) → 0 < parts r
unfolding parts
parts_pos r = parts_some r

pub parts_most : (r : Radix) → parts r ≤ 2 ^ 120
unfolding parts
parts_most Bin = omega arith
parts_most Oct = omega arith
parts_most Dec = omega arith
parts_most Hex = omega arith

pub shift_most : (r : Radix) (s : ℕ) → s < exponent_unit r → 2 ^ s ≤ 8
shift_most Bin s h = let m : 2 ^ s ≤ 2 ^ 3 = power_within 2 s 3 (omega arith) (omega (arith, h)) in omega (arith, m)
shift_most Oct s h = let m : 2 ^ s ≤ 2 ^ 3 = power_within 2 s 3 (omega arith) (omega (arith, h)) in omega (arith, m)
shift_most Dec s h = let m : 2 ^ s ≤ 2 ^ 3 = power_within 2 s 3 (omega arith) (omega (arith, h)) in omega (arith, m)
shift_most Hex s h = let m : 2 ^ s ≤ 2 ^ 3 = power_within 2 s 3 (omega arith) (omega (arith, h)) in omega (arith, m)

-- one more part at most if digits were cut
abbrev more_of : Bool → ℕ
more_of b = if b then 1 else 0

last_within : (b : ℕ) (cut : Bool) (last : List ℕ) → AllBelowBase b last → (cut ≡ false → last ≡ []) → number_from_digits b last ≤ more_of cut * b ^ length last
last_within b true last all none = let less = number_lt b last all in omega (arith, less)
last_within b false last all none = let P : List ℕ → Type 0 = λ l. number_from_digits b l ≤ 0 * b ^ length l in subst P (sym (none refl)) (omega arith)

slack_is : (cut : Bool) (u : ℕ) → more_of cut * u ≡ (if cut then u else 0)
slack_is true u = omega arith
slack_is false u = omega arith

pub not_cut : (b : Bool) (last : List ℕ) → (IsTrue b ↔ (last ≡ [])) → not b ≡ false → last ≡ []
not_cut true last h e = h.0 refl
not_cut false last h e = let no : true ≡ false = e in cc

slack_few : (cut : Bool) (u : ℕ) → u ≤ 8 → (if cut then u else 0) ≤ 8
slack_few true u h = h
slack_few false u h = omega arith

pub rest_found : (r : Radix) (text : List ℕ) (negative : Bool) (whole fraction : List ℕ) (s : ℕ) (cut : Bool) (x : Rest) → AllBelowBase (base r) fraction → s < exponent_unit r
    → ((p : Parts) → HasNumeral r text p → IsScanned r p negative whole fraction s) → (cut ≡ false → drop (block r) (drop (block r) fraction) ≡ [])
    → x.one ≡ base r ^ block r * base r ^ block r
    → x.rest ≡ (first_number (base r) (block r) fraction * base r ^ block r + first_number (base r) (block r) (drop (block r) fraction)) * 2 ^ s % (base r ^ block r * base r ^ block r)
    → x.slack ≡ (if cut then 2 ^ s else 0) → IsRest r 0 text x
unfolding parts
rest_found r text negative whole fraction s cut x all small scanned none one rest slack =
    let b : ℕ = base r in
    let h : ℕ = block r in
    let d : ℕ = b ^ h * b ^ h in
    let v : ℕ = first_number b h fraction * b ^ h + first_number b h (drop h fraction) in
    let u : ℕ = 2 ^ s in
    let some : 0 < d = parts_some r in
    let last_all : AllBelowBase b (drop h (drop h fraction)) = (below_split b (drop h fraction) h (below_split b fraction h all).1).1 in
    let c = digits_cut b h (more_of cut) fraction (base_least r) (last_within b cut (drop h (drop h fraction)) last_all none) in
    let power : 1 ≤ b ^ length fraction = one-le-pow (length fraction) b (base_least r) in
    let split : v * u ≡ v * u / d * d + v * u % d = omega (arith, some) in
    record {
      behind = λ p numeral.
          let i = in_ulps_of r p 0 negative whole fraction s (scanned p numeral) in
          let none : 0 + s ≡ s = omega arith in
          let number : (magnitude r p).num * 2 ^ 0 * b ^ length fraction ≡ (number_from_digits b whole * b ^ length fraction + number_from_digits b fraction) * u * (magnitude r p).den = subst (λ k. (magnitude r p).num * 2 ^ 0 * b ^ length fraction ≡ (number_from_digits b whole * b ^ length fraction + number_from_digits b fraction) * 2 ^ k * (magnitude r p).den) none i.number in
          let y = behind_by ((magnitude r p).num * 2 ^ 0) (magnitude r p).den (number_from_digits b whole) (number_from_digits b fraction) (b ^ length fraction) d v (more_of cut) u (v * u / d) (v * u % d) (omega (arith, power)) number c split in
          let P : ℕ → Type 0 = λ t. IsBehind ((magnitude r p).num * 2 ^ 0) (magnitude r p).den d t x.slack in
          let Q : ℕ → Type 0 = λ t. IsBehind ((magnitude r p).num * 2 ^ 0) (magnitude r p).den d (v * u % d) t in
          subst P (sym rest) (subst Q (slack_is cut u ∙ sym slack) y);
      one = one;
      below = omega (arith, one, rest, some);
      few = omega (arith, slack, slack_few cut (2 ^ s) (shift_most r s small));
    }

-- ---- the next fraction length
double_low : (a aa den d u r s rr : ℕ) → aa ≡ 2 * a → (u * d + r) * den ≤ a * d → rr ≡ 2 * r → (2 * u * d + rr) * den ≤ aa * d
double_low a aa den d u r s rr e low f = let x : aa * d ≡ 2 * a * d = ap (λ t. t * d) e in let y : rr * den ≡ 2 * r * den = ap (λ t. t * den) f in omega (arith, x, y, low)

double_high : (a aa den d u r s rr ss : ℕ) → aa ≡ 2 * a → a * d ≤ (u * d + r + s) * den → rr ≡ 2 * r → ss ≡ 2 * s → aa * d ≤ (2 * u * d + rr + ss) * den
double_high a aa den d u r s rr ss e high f g = let x : aa * d ≡ 2 * a * d = ap (λ t. t * d) e in let y : rr * den ≡ 2 * r * den = ap (λ t. t * den) f in let z : ss * den ≡ 2 * s * den = ap (λ t. t * den) g in omega (arith, x, y, z, high)

doubled : (a aa den d r s rr ss : ℕ) → aa ≡ 2 * a → IsBehind a den d r s → (rr ≡ 2 * r) ⊎ (rr + d ≡ 2 * r) → ss ≡ 2 * s → IsBehind aa den d rr ss
doubled a aa den d r s rr ss e h (inl same) g = record { ulps = 2 * h.ulps; at_least = double_low a aa den d h.ulps r s rr e h.at_least same; at_most = double_high a aa den d h.ulps r s rr ss e h.at_most same g }
doubled a aa den d r s rr ss e h (inr less) g =
    let low : (2 * h.ulps * d + (rr + d)) * den ≤ aa * d = double_low a aa den d h.ulps r s (rr + d) e h.at_least less in
    let high : aa * d ≤ (2 * h.ulps * d + (rr + d) + ss) * den = double_high a aa den d h.ulps r s (rr + d) ss e h.at_most less g in
    record { ulps = 2 * h.ulps + 1; at_least = omega (arith, low); at_most = omega (arith, high) }

pub twice_power : (m f : ℕ) → m * 2 ^ suc f ≡ 2 * (m * 2 ^ f)
twice_power m f = let e : 2 ^ suc f ≡ 2 * 2 ^ f = omega arith in let x : m * 2 ^ suc f ≡ m * (2 * 2 ^ f) = ap (λ t. m * t) e in omega (arith, x)

pub rest_halved : (r : Radix) (f : ℕ) (text : List ℕ) (x y : Rest) → IsRest r f text x → y.one ≡ x.one → (y.rest ≡ 2 * x.rest) ⊎ (y.rest + x.one ≡ 2 * x.rest) → y.rest < x.one → y.slack ≡ 2 * x.slack → IsRest r (suc f) text y
rest_halved r f text x y h one rest below slack =
    let D : ℕ → Type 0 = λ t. (y.rest ≡ 2 * x.rest) ⊎ (y.rest + t ≡ 2 * x.rest) in
    record {
      behind = λ p numeral. doubled ((magnitude r p).num * 2 ^ f) ((magnitude r p).num * 2 ^ suc f) (magnitude r p).den (parts r) x.rest x.slack y.rest y.slack (twice_power (magnitude r p).num f) (h.behind p numeral) (subst D h.one rest) slack;
      one = one ∙ h.one;
      below = omega (arith, one, below);
      few = let few = h.few in omega (arith, few, slack, twice_power 8 f, pow-add 2 f 3, pow-add 2 (suc f) 3);
    }
