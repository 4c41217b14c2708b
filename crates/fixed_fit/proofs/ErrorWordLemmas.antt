-- The size of the greatest error, as it is written.
use Rattle.std.proofs.Common.{◌≡◌, ℕ, suc, ◌+◌, ◌≤◌, ◌==◌, Bool, true, false, if◌then◌else◌, List, [], ◌∷◌, ◌++◌, length, append_assoc, refl, sym, ap, ◌∙◌, subst, arith, inl, inr, ℤ}
use Rattle.std.specs.Prelude.{codes}
use Rattle.fixed_bits.specs.Formats.{FormatParts}
use Rattle.fixed_bits.specs.declared.format.Policy.TheVariants.{Checked}
use Rattle.fixed_bits.specs.declared.mode.ReadMode.TheVariants.{NearestEven}
use Rattle.fixed_bits.specs.declared.mode.ReadMode.{ReadMode}
use Rattle.fixed_error.specs.Errors.{IsGreatestAt}
use Rattle.fixed_error.specs.Greatest.{Entry, IsFirstGreatest, IsKept}
use Rattle.fixed_error.specs.declared.greatest.GreatestError.{GreatestError}
use Rattle.fixed_error.proofs.Public.{first_greatest_one}
use Rattle.fixed_numeral.specs.Numeral.{Parts}
use Rattle.fixed_numeral.specs.declared.radix.Radix.{Radix}
use Rattle.fixed_numeral.specs.declared.radix.Radix.TheVariants.{Bin}
use Rattle.fixed_numeral.proofs.Public.{parts_unique}
use Rattle.fixed_read.specs.Reading.{IsReadNumber}
use Rattle.fixed_read.proofs.Public.{read_unique}
use Rattle.fixed_show.specs.Blocks.{Appends}
use Rattle.fixed_show.specs.ShortError.{IsErrorText}
use Rattle.fixed_show.specs.ShowBlock.{HasNoBits, IsShownError}
use Rattle.fixed_show.specs.declared.form.Form.TheVariants.{Members}
use Rattle.fixed_show.specs.declared.measure.Measure.TheVariants.{Value}
use Rattle.fixed_show.proofs.Public.{error_text_one}
use Rattle.fixed_fit.specs.ErrorWord.{IsErrorWord, IsGreatestText, IsSizeText, entries_from, half_ulp, without_minus}
use Rattle.fixed_fit.specs.Fitting.{AllFit, Fits}
use Rattle.fixed_fit.proofs.FittingLemmas.{not_both}

pub length_without : (xs : List ℕ) → length (without_minus xs) ≤ length xs
length_without [] = omega arith
length_without (b ∷ bs) = by (b == 45)
  where
    by : (t : Bool) → length (if t then bs else b ∷ bs) ≤ length (b ∷ bs)
    by true = omega arith
    by false = omega arith

-- ---- a numeral that fits has an error
no_bits_not : (r : Radix) (f : FormatParts) (line : List ℕ) → Fits r f.signed f.width f.frac line → HasNoBits NearestEven r line f Checked → ⊥
no_bits_not r f line h (kind, inl cause) = cause.none (h.parts, h.has)
no_bits_not r f line h (kind, inr (_, _, out)) = not_both r f.signed f.width f.frac line h out

pub size_appended : (r : Radix) (f : FormatParts) (numeral start signed text before after : List ℕ) (read : Bool) → start ≡ [] → Fits r f.signed f.width f.frac numeral → (read ≡ true → Appends (IsShownError NearestEven r numeral f Checked) 1380 start signed)
    → (read ≡ false → HasNoBits NearestEven r numeral f Checked × (signed ≡ start)) → text ≡ without_minus signed → after ≡ before ++ text → Appends (IsSizeText r f numeral) 1380 before after
size_appended r f numeral start signed text before after false empty fits shown none is grown = absurd (no_bits_not r f numeral fits (none refl).0)
size_appended r f numeral start signed text before after true empty fits shown none is grown =
    let a = shown refl in
    let same : signed ≡ a.text = a.appended ∙ ap (λ (l : List ℕ). l ++ a.text) empty in
    record {
      text = text;
      is_text = record { signed = signed; shown = subst (λ (l : List ℕ). IsShownError NearestEven r numeral f Checked l) (sym same) a.is_text; text_is = is };
      appended = grown;
      short = omega (arith, ap length is, length_without signed, ap length same, a.short);
    }

-- ---- the text of an error's size is unique
shown_one : (r : Radix) (f : FormatParts) (line a b : List ℕ) → IsShownError NearestEven r line f Checked a → IsShownError NearestEven r line f Checked b → a ≡ b
shown_one r f line a b x y =
    let parts : x.read.parts ≡ y.read.parts = parts_unique r line x.read.parts y.read.parts x.read.numeral.beginning y.read.numeral.beginning in
    let number : x.read.number ≡ y.read.number = read_unique NearestEven r y.read.parts f.frac x.read.number y.read.number (subst (λ (q : Parts). IsReadNumber NearestEven r q f.frac x.read.number) parts x.read.read) y.read.read in
    let bits : x.bits ≡ y.bits = x.read.image.same ∙ number ∙ sym y.read.image.same in
    let here : IsErrorText Members Value r y.read.parts f.frac x.bits a = subst (λ (q : Parts). IsErrorText Members Value r q f.frac x.bits a) parts x.is_error in
    let moved : IsErrorText Members Value r y.read.parts f.frac y.bits a = subst (λ (v : ℤ). IsErrorText Members Value r y.read.parts f.frac v a) bits here in
    error_text_one Members Value r y.read.parts f.frac y.bits a b moved y.is_error

size_one : (r : Radix) (f : FormatParts) (numeral a b : List ℕ) → IsSizeText r f numeral a → IsSizeText r f numeral b → a ≡ b
size_one r f numeral a b x y = x.text_is ∙ ap without_minus (shown_one r f numeral x.signed y.signed x.shown y.shown) ∙ sym y.text_is

no_first : (before after : List Entry) (e : Entry) → [] ≡ before ++ e ∷ after → ⊥
no_first [] after e is = cc
no_first (x ∷ before) after e is = cc

none_greatest : (r : Radix) (f : FormatParts) (lines : List (List ℕ)) (text : List ℕ) → lines ≡ [] → IsGreatestText r f lines text → ⊥
none_greatest r f lines text none h =
    no_first h.greatest.before h.greatest.after (record { place = h.place; numeral = h.numeral }) (sym (ap (λ (l : List (List ℕ)). entries_from 1 l) none) ∙ h.greatest.split)

pub word_one : (range : Bool) (r : Radix) (f : FormatParts) (lines : List (List ℕ)) (a b : List ℕ) → IsErrorWord range r f lines a → IsErrorWord range r f lines b → a ≡ b
word_one true r f lines a b x y = size_one Bin f (half_ulp f.frac) a b x y
word_one false r f lines a b (inl x) (inl y) = x.1 ∙ sym y.1
word_one false r f lines a b (inl x) (inr y) = absurd (none_greatest r f lines b x.0 y)
word_one false r f lines a b (inr x) (inl y) = absurd (none_greatest r f lines a y.0 x)
word_one false r f lines a b (inr x) (inr y) =
    let same = first_greatest_one NearestEven r f.frac (entries_from 1 lines) x.place y.place x.numeral y.numeral x.greatest y.greatest in
    size_one r f y.numeral a b (subst (λ (l : List ℕ). IsSizeText r f l a) same.1 x.size) y.size

-- ---- the numeral with the greatest error fits
first_of : (a b : Entry) (xs ys : List Entry) → a ∷ xs ≡ b ∷ ys → a ≡ b
first_of a b xs ys e = cc

rest_of : (a b : Entry) (xs ys : List Entry) → a ∷ xs ≡ b ∷ ys → xs ≡ ys
rest_of a b xs ys e = cc

entry_fits : (r : Radix) (s : Bool) (n f p : ℕ) (lines : List (List ℕ)) (before after : List Entry) (e : Entry) → entries_from p lines ≡ before ++ e ∷ after → AllFit r s n f lines → Fits r s n f e.numeral
entry_fits r s n f p [] before after e is all = absurd (no_first before after e is)
entry_fits r s n f p (line ∷ lines) [] after e is all =
    let here : Entry = record { place = p; numeral = line } in
    subst (λ (l : List ℕ). Fits r s n f l) (ap (λ (x : Entry). x.numeral) (first_of here e (entries_from (suc p) lines) after is)) all.0
entry_fits r s n f p (line ∷ lines) (x ∷ before) after e is all =
    let here : Entry = record { place = p; numeral = line } in
    entry_fits r s n f (suc p) lines before after e (rest_of here x (entries_from (suc p) lines) (before ++ e ∷ after) is) all.1

pub greatest_fits : (r : Radix) (s : Bool) (n f place : ℕ) (lines : List (List ℕ)) (numeral : List ℕ) → IsFirstGreatest NearestEven r f (entries_from 1 lines) place numeral → AllFit r s n f lines → Fits r s n f numeral
greatest_fits r s n f place lines numeral h all = entry_fits r s n f 1 lines h.before h.after (record { place = place; numeral = numeral }) h.split all

pub no_entries : (lines : List (List ℕ)) → entries_from 1 lines ≡ [] → lines ≡ []
no_entries [] e = refl
no_entries (line ∷ lines) e = cc

-- ---- one more line
pub entries_longer : (p : ℕ) (done : List (List ℕ)) (line : List ℕ) → entries_from p (done ++ line ∷ []) ≡ entries_from p done ++ record { place = length done + p; numeral = line } ∷ []
entries_longer p [] line = let at : p ≡ 0 + p = omega arith in ap (λ (k : ℕ). record { place = k; numeral = line } ∷ []) at
entries_longer p (first ∷ done) line =
    let later : entries_from (suc p) (done ++ line ∷ []) ≡ entries_from (suc p) done ++ record { place = length done + suc p; numeral = line } ∷ [] = entries_longer (suc p) done line in
    let at : length done + suc p ≡ suc (length done) + p = omega arith in
    ap (λ (l : List Entry). record { place = p; numeral = first } ∷ l) (later ∙ ap (λ (k : ℕ). entries_from (suc p) done ++ record { place = k; numeral = line } ∷ []) at)

-- ---- the appended text
pub kept_first : (r : Radix) (f : ℕ) (entries : List Entry) (g : GreatestError) → IsGreatestAt r f entries g → g.is_some ≡ true → IsFirstGreatest NearestEven r f entries g.place g.numeral.items
kept_first r f entries g h some =
    let a : IsKept g.mode g.radix g.frac entries true g.place g.numeral.items = subst (λ (b : Bool). IsKept g.mode g.radix g.frac entries b g.place g.numeral.items) some h.greatest.kept in
    let b : IsFirstGreatest NearestEven g.radix g.frac entries g.place g.numeral.items = subst (λ (m : ReadMode). IsFirstGreatest m g.radix g.frac entries g.place g.numeral.items) h.mode a in
    let d : IsFirstGreatest NearestEven r g.frac entries g.place g.numeral.items = subst (λ (x : Radix). IsFirstGreatest NearestEven x g.frac entries g.place g.numeral.items) h.radix b in
    subst (λ (n : ℕ). IsFirstGreatest NearestEven r n entries g.place g.numeral.items) h.frac d

pub kept_none : (r : Radix) (f : ℕ) (lines : List (List ℕ)) (g : GreatestError) → IsGreatestAt r f (entries_from 1 lines) g → g.is_some ≡ false → lines ≡ []
kept_none r f lines g h none = no_entries lines (subst (λ (b : Bool). IsKept g.mode g.radix g.frac (entries_from 1 lines) b g.place g.numeral.items) none h.greatest.kept)

at_format : (range : Bool) (r : Radix) (f g : FormatParts) (lines : List (List ℕ)) (before after : List ℕ) → f ≡ g → Appends (IsErrorWord range r f lines) 1380 before after → Appends (IsErrorWord range r g lines) 1380 before after
at_format range r f g lines before after same h = subst (λ (x : FormatParts). Appends (IsErrorWord range r x lines) 1380 before after) same h

pub range_word : (range : Bool) (r : Radix) (f g : FormatParts) (lines : List (List ℕ)) (before after : List ℕ) → range ≡ true → f ≡ g → Appends (IsSizeText Bin f (half_ulp f.frac)) 1380 before after → Appends (IsErrorWord range r g lines) 1380 before after
range_word range r f g lines before after is same h =
    at_format range r f g lines before after same (subst (λ (b : Bool). Appends (IsErrorWord b r f lines) 1380 before after) (sym is) (record { text = h.text; is_text = h.is_text; appended = h.appended; short = h.short }))

pub some_word : (range : Bool) (r : Radix) (f g : FormatParts) (lines : List (List ℕ)) (e : GreatestError) (numeral before after : List ℕ) → range ≡ false → f ≡ g → IsGreatestAt r g.frac (entries_from 1 lines) e → e.is_some ≡ true → numeral ≡ e.numeral.items
    → Appends (IsSizeText r f numeral) 1380 before after → Appends (IsErrorWord range r g lines) 1380 before after
some_word range r f g lines e numeral before after is same at some here h =
    let moved : IsSizeText r g e.numeral.items h.text = subst (λ (l : List ℕ). IsSizeText r g l h.text) here (subst (λ (x : FormatParts). IsSizeText r x numeral h.text) same h.is_text) in
    subst (λ (b : Bool). Appends (IsErrorWord b r g lines) 1380 before after) (sym is) (record {
      text = h.text;
      is_text = inr (record { place = e.place; numeral = e.numeral.items; greatest = kept_first r g.frac (entries_from 1 lines) e at some; size = moved });
      appended = h.appended;
      short = h.short;
    })

pub none_word : (range : Bool) (r : Radix) (g : FormatParts) (lines : List (List ℕ)) (e : GreatestError) (before after : List ℕ) → range ≡ false → IsGreatestAt r g.frac (entries_from 1 lines) e → e.is_some ≡ false
    → after ≡ before ++ 48 ∷ [] → Appends (IsErrorWord range r g lines) 1380 before after
none_word range r g lines e before after is at none grown =
    subst (λ (b : Bool). Appends (IsErrorWord b r g lines) 1380 before after) (sym is) (record {
      text = 48 ∷ [];
      is_text = inl (kept_none r g.frac lines e at none, refl);
      appended = grown;
      short = omega arith;
    })

pub size_fits : (r : Radix) (f g : FormatParts) (lines : List (List ℕ)) (e : GreatestError) (numeral : List ℕ) → f ≡ g → IsGreatestAt r g.frac (entries_from 1 lines) e → e.is_some ≡ true → numeral ≡ e.numeral.items → AllFit r g.signed g.width g.frac lines
    → Fits r f.signed f.width f.frac numeral
size_fits r f g lines e numeral same at some here all =
    let fits : Fits r g.signed g.width g.frac e.numeral.items = greatest_fits r g.signed g.width g.frac e.place lines e.numeral.items (kept_first r g.frac (entries_from 1 lines) e at some) all in
    subst (λ (l : List ℕ). Fits r f.signed f.width f.frac l) (sym here) (subst (λ (x : FormatParts). Fits r x.signed x.width x.frac e.numeral.items) (sym same) fits)

-- the text of an answer, piece by piece
pub pieces : (name error reason a b d e l : List ℕ) → a ≡ [] ++ name → b ≡ a ++ codes " error " → d ≡ b ++ error → e ≡ d ++ 10 ∷ [] → l ≡ e ++ reason → l ≡ name ++ (codes " error " ++ (error ++ 10 ∷ reason))
pieces name error reason a b d e l p q x y z = rw (z, y, x, q, p) (simp append_assoc)
