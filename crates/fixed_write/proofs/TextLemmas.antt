-- The shortest text as a whole.
use Rattle.std.proofs.Common.{◌≡◌, ℕ, zero, suc, ◌+◌, ◌/◌, ◌^◌, ◌<◌, ◌≤◌, ◌↔◌, Bool, false, List, ◌++◌, length, ℤ, unsigned_abs, refl, sym, ap, ◌∙◌, arith, length-append, append_assoc}
use Rattle.std.specs.Fmt.{sign_text}
use Rattle.std.specs.Int.{is_negative}
use Rattle.fixed_write.specs.Texts.{IsShortestText, decimal_text, point_text, whole_digits, fraction_part, shortest_text}
use Rattle.fixed_write.specs.Shortest.{shortest_number, shortest_places}
use Rattle.fixed_write.specs.Inner.Fraction.{AppendsFraction}
use Rattle.fixed_write.proofs.ShortestLemmas.{shortest_unique, shortest_at_most}
use Rattle.fixed_write.proofs.DigitLemmas.{fraction_none, fraction_suc, last_digits_length}
use Rattle.fixed_write.proofs.PassLemmas.{shortest_exists}
use Rattle.fixed_write.proofs.ComputedLemmas.{shortest_pair_is}
use Rattle.fixed_write.proofs.IntegerLemmas.{sign_length, word_digits}

pub shortest_text_exists : (c : ℤ) (g : ℕ) → (text : List ℕ) × IsShortestText c g text
shortest_text_exists c g =
    let (n, k, h) = shortest_exists (unsigned_abs c) g in
    (decimal_text (is_negative c) n k, record { number = n; places = k; shortest = h; text_is = refl })

pub shortest_text_unique : (c : ℤ) (g : ℕ) (a b : List ℕ) → IsShortestText c g a → IsShortestText c g b → a ≡ b
shortest_text_unique c g a b h i =
    let (k, n) = shortest_unique (unsigned_abs c) g h.number h.places i.number i.places h.shortest i.shortest in
    h.text_is ∙ rw (k, n) (sym i.text_is)

pub shortest_text_is : (c : ℤ) (g : ℕ) → IsShortestText c g (shortest_text c g)
unfolding shortest_text
shortest_text_is c g = record {
  number = shortest_number (unsigned_abs c) g;
  places = shortest_places (unsigned_abs c) g;
  shortest = shortest_pair_is (unsigned_abs c) g;
  text_is = refl;
}

pub shortest_text_computed : (c : ℤ) (g : ℕ) (text : List ℕ) → IsShortestText c g text ↔ (text ≡ shortest_text c g)
shortest_text_computed c g text = (
  λ h. shortest_text_unique c g text (shortest_text c g) h (shortest_text_is c g),
  λ e. rw e (shortest_text_is c g),
)

in_parts : (negative : Bool) (n k w : ℕ) → n / 10 ^ k ≡ w → sign_text negative ++ (whole_digits 10 false w ++ fraction_part 10 false k n) ≡ decimal_text negative n k
unfolding decimal_text point_text
in_parts negative n k w e = rw e refl

-- a text that was printed in three parts is the shortest text
pub text_of_parts : (c : ℤ) (g m w : ℕ) (old start before after : List ℕ) → m ≡ unsigned_abs c → w ≡ m / 2 ^ g → start ≡ old ++ sign_text (is_negative c) → before ≡ start ++ whole_digits 10 false w → AppendsFraction m g before after → after ≡ old ++ shortest_text c g
text_of_parts c g m w old start before after e f s b h =
    let whole : h.number / 10 ^ h.places ≡ w = h.whole ∙ sym f in
    let printed : IsShortestText c g (sign_text (is_negative c) ++ (whole_digits 10 false w ++ fraction_part 10 false h.places h.number)) = record {
      number = h.number;
      places = h.places;
      shortest = rw (sym e) h.shortest;
      text_is = in_parts (is_negative c) h.number h.places w whole;
    } in
    h.text_is ∙ (rw (b, s) (regroup old (sign_text (is_negative c)) (whole_digits 10 false w) (fraction_part 10 false h.places h.number)) ∙ ap (λ (t : List ℕ). old ++ t) (shortest_text_unique c g _ _ printed (shortest_text_is c g)))
  where
    regroup : (o s w f : List ℕ) → ((o ++ s) ++ w) ++ f ≡ o ++ (s ++ (w ++ f))
    regroup o s w f = simp append_assoc

-- the length of the text, by its parts
pub appended_fraction_length : (c g : ℕ) (before after : List ℕ) → g ≤ 64 → AppendsFraction c g before after → length after ≤ length before + 21
appended_fraction_length c g before after l h =
    let few : h.places ≤ 20 = (shortest_at_most c g h.number h.places h.shortest).1 l in
    omega (arith, ap length h.text_is ∙ length-append before (fraction_part 10 false h.places h.number), fraction_length 10 false h.places h.number)
  where
    fraction_length : (b : ℕ) (u : Bool) (k n : ℕ) → length (fraction_part b u k n) ≤ k + 1
    fraction_length b u zero n = omega (arith, ap length (fraction_none b u n))
    fraction_length b u (suc k) n = omega (arith, ap length (fraction_suc b u k n), last_digits_length b u (suc k) n)

pub parts_length : (c : ℤ) (g m w : ℕ) (old start before after : List ℕ) → g ≤ 64 → w < 2 ^ 64 → start ≡ old ++ sign_text (is_negative c) → before ≡ start ++ whole_digits 10 false w → AppendsFraction m g before after → after ≡ old ++ shortest_text c g → (length (shortest_text c g) ≤ 48) × (length after ≤ length old + 48)
parts_length c g m w old start before after l small s b h all =
    let most : length after ≤ length old + 42 = omega (arith, appended_fraction_length m g before after l h, ap length s ∙ length-append old (sign_text (is_negative c)), ap length b ∙ length-append start (whole_digits 10 false w), sign_length (is_negative c), word_digits w small) in
    (omega (arith, ap length all ∙ length-append old (shortest_text c g)), omega arith)
