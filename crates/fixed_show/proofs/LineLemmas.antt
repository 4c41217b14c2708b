-- Lines appended part by part.
use Rattle.std.proofs.Common.{◌≡◌, ℕ, ◌+◌, ◌≤◌, List, [], ◌∷◌, ◌++◌, length, take, ◌-◌, codes, ap, sym, subst, ◌∙◌, arith, append_assoc, length-append}
use Rattle.std.proofs.Common.{ℤ}
use Rattle.std.specs.Fmt.{signed_decimal}
use Rattle.fixed_show.specs.Blocks.{Appends, line}
use Rattle.fixed_show.specs.Forms.{end_byte, fact, label}
use Rattle.fixed_show.specs.declared.form.Form.{Form}
use Rattle.fixed_show.specs.declared.form.Form.TheVariants.{Lines, Members}
use Rattle.fixed_show.specs.ToolNames.{pair_text}

pub line_pushed : (old a b c label text : List ℕ) → a ≡ old ++ label → b ≡ a ++ text → c ≡ b ++ 10 ∷ [] → c ≡ old ++ line label text
unfolding line
line_pushed old a b c label text p q r =
    let e : c ≡ ((old ++ label) ++ text) ++ 10 ∷ [] = cc in
    e ∙ simp append_assoc

-- the label before a fact
pub line_label : (form : Form) (old a b key : List ℕ) → form ≡ Lines → a ≡ old ++ key → b ≡ a ++ take (10 - length key) (codes "          ") → b ≡ old ++ label form key
unfolding label
line_label form old a b key e p q =
    let x : b ≡ (old ++ key) ++ take (10 - length key) (codes "          ") = cc in
    x ∙ append_assoc old key (take (10 - length key) (codes "          ")) ∙ ap (λ t. old ++ label t key) (sym e)

pub key_label : (form : Form) (old a b c key : List ℕ) → form ≡ Members → a ≡ old ++ codes ",\"" → b ≡ a ++ key → c ≡ b ++ codes "\":\"" → c ≡ old ++ label form key
unfolding label
key_label form old a b c key e p q r =
    let x : c ≡ ((old ++ codes ",\"") ++ key) ++ codes "\":\"" = cc in
    x ∙ append_assoc (old ++ codes ",\"") key (codes "\":\"") ∙ append_assoc old (codes ",\"") (key ++ codes "\":\"") ∙ ap (λ t. old ++ label t key) (sym e)

pub fact_pushed : (form : Form) (old a b c key text : List ℕ) (e : ℕ) → a ≡ old ++ label form key → b ≡ a ++ text → e ≡ end_byte form → c ≡ b ++ e ∷ [] → c ≡ old ++ fact form key text
unfolding fact
fact_pushed form old a b c key text e p q r s =
    let x : c ≡ ((old ++ label form key) ++ text) ++ end_byte form ∷ [] = cc in
    x ∙ simp append_assoc

-- a line of three texts
pub three_pushed : (old o1 o2 o3 o4 o5 l a b c : List ℕ) → o1 ≡ old ++ l → o2 ≡ o1 ++ a → o3 ≡ o2 ++ b → o4 ≡ o3 ++ c → o5 ≡ o4 ++ 10 ∷ [] → o5 ≡ old ++ line l (a ++ (b ++ c))
unfolding line
three_pushed old o1 o2 o3 o4 o5 l a b c p q r s t =
    let e : o5 ≡ ((((old ++ l) ++ a) ++ b) ++ c) ++ 10 ∷ [] = cc in
    e ∙ simp append_assoc

-- a line of four texts
pub four_pushed : (old o1 o2 o3 o4 o5 o6 l a b c d : List ℕ) → o1 ≡ old ++ l → o2 ≡ o1 ++ a → o3 ≡ o2 ++ b → o4 ≡ o3 ++ c → o5 ≡ o4 ++ d → o6 ≡ o5 ++ 10 ∷ [] → o6 ≡ old ++ line l (a ++ (b ++ (c ++ d)))
unfolding line
four_pushed old o1 o2 o3 o4 o5 o6 l a b c d p q r s t u =
    let e : o6 ≡ (((((old ++ l) ++ a) ++ b) ++ c) ++ d) ++ 10 ∷ [] = cc in
    e ∙ simp append_assoc

pub pushed_length : (old new t : List ℕ) (n : ℕ) → new ≡ old ++ t → length t ≤ n → length new ≤ length old + n
pushed_length old new t n e h = omega (arith, ap length e, length-append old t)

pub four_lines : (old o1 o2 o3 o4 a b c d : List ℕ) → o1 ≡ old ++ a → o2 ≡ o1 ++ b → o3 ≡ o2 ++ c → o4 ≡ o3 ++ d → o4 ≡ old ++ (a ++ (b ++ (c ++ d)))
four_lines old o1 o2 o3 o4 a b c d p q r s =
    let e : o4 ≡ ((((old ++ a) ++ b) ++ c) ++ d) = cc in
    e ∙ simp append_assoc

pub text_short : (old new text : List ℕ) (n : ℕ) → new ≡ old ++ text → length new ≤ length old + n → length text ≤ n
text_short old new text n e h = omega (arith, ap length e, length-append old text)

-- a name of two numbers
pub pair_pushed : (form : Form) (old o1 o2 o3 o4 o5 o6 o7 key head : List ℕ) (first : ℤ) (mark : List ℕ) (second : ℤ) (tail : List ℕ) (e : ℕ)
    → o1 ≡ old ++ label form key → o2 ≡ o1 ++ head → o3 ≡ o2 ++ signed_decimal first → o4 ≡ o3 ++ mark
    → o5 ≡ o4 ++ signed_decimal second → o6 ≡ o5 ++ tail → e ≡ end_byte form → o7 ≡ o6 ++ e ∷ []
    → o7 ≡ old ++ fact form key (pair_text head first mark second tail)
unfolding fact pair_text
pair_pushed form old o1 o2 o3 o4 o5 o6 o7 key head first mark second tail e p q r s t u w v =
    let x : o7 ≡ ((((((old ++ label form key) ++ head) ++ signed_decimal first) ++ mark) ++ signed_decimal second) ++ tail) ++ end_byte form ∷ [] = cc in
    x ∙ simp append_assoc

pub seven_lines : (old o1 o2 o3 o4 o5 o6 o7 a b c d f g h : List ℕ) → o1 ≡ old ++ a → o2 ≡ o1 ++ b → o3 ≡ o2 ++ c → o4 ≡ o3 ++ d → o5 ≡ o4 ++ f → o6 ≡ o5 ++ g → o7 ≡ o6 ++ h → o7 ≡ old ++ (a ++ (b ++ (c ++ (d ++ (f ++ (g ++ h))))))
seven_lines old o1 o2 o3 o4 o5 o6 o7 a b c d f g h p q r s t u v =
    let e : o7 ≡ (((((((old ++ a) ++ b) ++ c) ++ d) ++ f) ++ g) ++ h) = cc in
    e ∙ simp append_assoc

pub three_texts : (old o1 o2 o3 a b c : List ℕ) → o1 ≡ old ++ a → o2 ≡ o1 ++ b → o3 ≡ o2 ++ c → o3 ≡ old ++ (a ++ (b ++ c))
three_texts old o1 o2 o3 a b c p q r =
    let e : o3 ≡ ((old ++ a) ++ b) ++ c = cc in
    e ∙ simp append_assoc

-- a text that was appended to nothing
pub alone : (Is : List ℕ → Type 0) (most : ℕ) (before after : List ℕ) → before ≡ [] → Appends Is most before after → Is after
alone Is most before after none t = subst Is (sym (t.appended ∙ ap (λ s. s ++ t.text) none)) t.is_text
