-- How one more numeral changes the kept one, and that numerals have one report.
use Rattle.std.proofs.Common.{◌≡◌, ◌≤◌, ℕ, suc, length, append_assoc, codes, decimal, ◌⊎◌, Option, None, Some, is_some, IsSome, ◌^◌, ◌<◌, ℤ, Bool, true, false, List, [], ◌∷◌, ◌++◌, inl, inr, refl, sym, ap, ◌∙◌, subst, arith}
use Rattle.std.proofs.lemmas.Bool.{false≢true}
use Rattle.std.proofs.lemmas.Int.{ints}
use Rattle.fixed_bits.proofs.Public.{has_none, in_wide}
use Rattle.fixed_bits.specs.Formats.{FormatParts}
use Rattle.fixed_bits.specs.Images.{IsImage}
use Rattle.fixed_bits.specs.Numbers.{with_sign}
use Rattle.fixed_bits.specs.Ranges.{IsWide, IsWidth}
use Rattle.fixed_bits.specs.declared.format.Policy.TheVariants.{Checked}
use Rattle.fixed_bits.specs.declared.mode.ReadMode.{ReadMode}
use Rattle.fixed_error.proofs.Public.{first_greatest_one}
use Rattle.fixed_error.specs.ErrorSize.{HasSteps, IsReadWithin}
use Rattle.fixed_error.specs.Greatest.{Entry, HasGreatest, IsKept}
use Rattle.fixed_error.specs.declared.greatest.GreatestError.{GreatestError}
use Rattle.fixed_numeral.proofs.Public.{parts_unique}
use Rattle.fixed_numeral.specs.Numeral.{Parts, is_minus}
use Rattle.fixed_numeral.specs.declared.radix.Radix.{Radix}
use Rattle.fixed_read.proofs.Public.{read_unique}
use Rattle.fixed_read.specs.Reading.{IsReadNumber}
use Rattle.fixed_report.specs.Laws.{AreSame, GreatestHasBits, ReportIsTheOne}
use Rattle.fixed_report.specs.Report.{AreIn, HasReport, IsIn, IsLostBy, Kept, NeedsMemory, longest_kept}
use Rattle.fixed_report.specs.declared.report.Lost.{Lost}
use Rattle.fixed_report.specs.declared.report.Lost.TheVariants.{NoMemory, TooLong}
use Rattle.fixed_report.specs.Text.{greatest_text}
use Rattle.fixed_show.specs.ShowBlock.{HasNoBits, IsReadAs}
use Rattle.fixed_show.specs.ShownErrors.{AreShownErrors}

-- ---- a numeral in range is rounded to fewer than 2^64 ulps
few_ulps : (minus : Bool) (ulps : ℕ) → IsWide (with_sign minus ulps) → ulps < 2 ^ 64
few_ulps true ulps h = omega (arith, ints, h.low)
few_ulps false ulps h = omega (arith, ints, h.high)

pub in_within : (mode : ReadMode) (r : Radix) (f : FormatParts) (bytes : List ℕ) (bits : ℤ) (out : Bool) → IsWidth f.width → IsReadAs mode r bytes f Checked bits out → IsReadWithin mode r f.frac bytes
in_within mode r f bytes bits out width h = record {
  parts = h.parts;
  numeral = h.numeral;
  number = h.number;
  read = h.read;
  within = few_ulps (is_minus h.parts.sign) h.read.ulps (subst (λ (v : ℤ). IsWide v) h.read.value (in_wide f.signed f.width h.number width.most h.image.in_range));
}

same_size : (a b : Bool) (m n : ℕ) → with_sign a m ≡ with_sign b n → n ≡ m
same_size true true m n e = omega (arith, ints, e)
same_size true false m n e = omega (arith, ints, e)
same_size false true m n e = omega (arith, ints, e)
same_size false false m n e = omega (arith, ints, e)

pub ulps_of : (mode : ReadMode) (r : Radix) (f : FormatParts) (bytes : List ℕ) (negative : Bool) (ulps : ℕ) (out : Bool) → IsReadAs mode r bytes f Checked (with_sign negative ulps) out → HasSteps mode r f.frac bytes ulps
ulps_of mode r f bytes negative ulps out h = record {
  parts = h.parts;
  numeral = h.numeral;
  number = h.number;
  read = h.read;
  steps_are = same_size negative (is_minus h.parts.sign) ulps h.read.ulps (h.image.same ∙ h.read.value);
}

-- ---- one more numeral
pub one_in : (mode : ReadMode) (r : Radix) (f : FormatParts) (entries found : List Entry) (e : Entry) → IsIn mode r f e.numeral → AreIn mode r f entries found → AreIn mode r f (entries ++ e ∷ []) (found ++ e ∷ [])
one_in mode r f [] found e h are = ([], refl, inl (h, ap (λ t. t ++ e ∷ []) are))
one_in mode r f (x ∷ xs) found e h (more, are, inl (first, is)) = (more ++ e ∷ [], one_in mode r f xs more e h are, inl (first, ap (λ t. t ++ e ∷ []) is))
one_in mode r f (x ∷ xs) found e h (more, are, inr (none, is)) = (more ++ e ∷ [], one_in mode r f xs more e h are, inr (none, ap (λ t. t ++ e ∷ []) is))

pub one_out : (mode : ReadMode) (r : Radix) (f : FormatParts) (entries found : List Entry) (e : Entry) → HasNoBits mode r e.numeral f Checked → AreIn mode r f entries found → AreIn mode r f (entries ++ e ∷ []) found
one_out mode r f [] found e h are = ([], refl, inr (h, are))
one_out mode r f (x ∷ xs) found e h (more, are, inl (first, is)) = (more, one_out mode r f xs more e h are, inl (first, is))
one_out mode r f (x ∷ xs) found e h (more, are, inr (none, is)) = (more, one_out mode r f xs more e h are, inr (none, is))

-- ---- no numeral is both in range and without bits
in_or_not : (mode : ReadMode) (r : Radix) (f : FormatParts) (bytes : List ℕ) → IsIn mode r f bytes → HasNoBits mode r bytes f Checked → ⊥
in_or_not mode r f bytes a (kind, inl b) = b.none (a.read.parts, a.read.numeral)
in_or_not mode r f bytes a (kind, inr b) =
    let p : a.read.parts ≡ b.2.parts = parts_unique r bytes a.read.parts b.2.parts a.read.numeral.beginning b.2.has.beginning in
    let n : a.read.number ≡ b.2.number = read_unique mode r b.2.parts f.frac a.read.number b.2.number (subst (λ (q : Parts). IsReadNumber mode r q f.frac a.read.number) p a.read.read) b.2.read in
    has_none f.signed f.width b.2.number a.bits b.2.out_of_range (subst (λ (x : ℤ). IsImage Checked f.signed f.width x a.bits) n a.read.image)

-- ---- the report is unique
in_one : (mode : ReadMode) (r : Radix) (f : FormatParts) (entries a b : List Entry) → AreIn mode r f entries a → AreIn mode r f entries b → a ≡ b
in_one mode r f [] a b x y = x ∙ sym y
in_one mode r f (e ∷ es) a b (m, are, inl (h, is)) (n, same, inl (k, it)) = is ∙ ap (λ t. e ∷ t) (in_one mode r f es m n are same) ∙ sym it
in_one mode r f (e ∷ es) a b (m, are, inl (h, is)) (n, same, inr (k, it)) = absurd (in_or_not mode r f e.numeral h k)
in_one mode r f (e ∷ es) a b (m, are, inr (h, is)) (n, same, inl (k, it)) = absurd (in_or_not mode r f e.numeral k h)
in_one mode r f (e ∷ es) a b (m, are, inr (h, is)) (n, same, inr (k, it)) = is ∙ in_one mode r f es m n are same ∙ sym it

nothing_first : (mode : ReadMode) (r : Radix) (f : ℕ) (before : List Entry) (e : Entry) (after : List Entry) → before ++ e ∷ after ≡ [] → ⊥
nothing_first mode r f [] e after h = omega (arith, let l : suc (length after) ≡ 0 = ap length h in l)
nothing_first mode r f (x ∷ xs) e after h = omega (arith, let l : suc (length (xs ++ e ∷ after)) ≡ 0 = ap length h in l)

kept_one : (mode : ReadMode) (r : Radix) (f : ℕ) (found : List Entry) (a b : Bool) (p q : ℕ) (one other : List ℕ) → IsKept mode r f found a p one → IsKept mode r f found b q other → AreSame a b p q one other
kept_one mode r f found false false p q one other x y = record { is_some = refl; place = λ h. absurd (false≢true h); numeral = λ h. absurd (false≢true h) }
kept_one mode r f found false true p q one other x y = absurd (nothing_first mode r f y.before (record { place = q; numeral = other }) y.after (sym y.split ∙ x))
kept_one mode r f found true false p q one other x y = absurd (nothing_first mode r f x.before (record { place = p; numeral = one }) x.after (sym x.split ∙ y))
kept_one mode r f found true true p q one other x y =
    let same = first_greatest_one mode r f found p q one other x y in
    record { is_some = refl; place = λ h. same.0; numeral = λ h. same.1 }

pub report_one : ReportIsTheOne
report_one mode r f entries a b p q one other (m, are, x) (n, same, y) =
    kept_one mode r f.frac m a b p q one other x (subst (λ (t : List Entry). IsKept mode r f.frac t b q other) (sym (in_one mode r f entries m n are same)) y)

-- ---- the kept numeral has bits
found_in : (mode : ReadMode) (r : Radix) (f : FormatParts) (entries found before : List Entry) (e : Entry) (after : List Entry) → AreIn mode r f entries found → found ≡ before ++ e ∷ after → IsIn mode r f e.numeral
found_in mode r f [] found before e after are split = absurd (nothing_first mode r f.frac before e after (sym split ∙ are))
found_in mode r f (x ∷ xs) found before e after (more, are, inr (none, is)) split = found_in mode r f xs more before e after are (sym is ∙ split)
found_in mode r f (x ∷ xs) found [] e after (more, are, inl (first, is)) split =
    let head : x ≡ e = cc in
    subst (λ (t : Entry). IsIn mode r f t.numeral) head first
found_in mode r f (x ∷ xs) found (b ∷ bs) e after (more, are, inl (first, is)) split =
    let tail : more ≡ bs ++ e ∷ after = cc in
    found_in mode r f xs more bs e after are tail

pub has_bits : GreatestHasBits
has_bits mode r f entries place numeral (found, are, x) none =
    in_or_not mode r f numeral (found_in mode r f entries found x.before (record { place = place; numeral = numeral }) x.after are x.split) none

-- ---- the text of a report
pub greatest_pushed : (o0 o1 o2 o3 o4 o5 o6 o7 o8 name digits error ulps : List ℕ) (place : ℕ) → o0 ≡ [] → o1 ≡ o0 ++ codes "greatest error in " → o2 ≡ o1 ++ name → o3 ≡ o2 ++ 32 ∷ [] → o4 ≡ o3 ++ digits → digits ≡ decimal place
    → o5 ≡ o4 ++ codes ": " → o6 ≡ o5 ++ error → o7 ≡ o6 ++ codes ", in ulps: " → o8 ≡ o7 ++ ulps → o8 ≡ greatest_text name place error ulps
greatest_pushed o0 o1 o2 o3 o4 o5 o6 o7 o8 name digits error ulps place none a b c d is e f g h =
    let x : o8 ≡ (((((((([] ++ codes "greatest error in ") ++ name) ++ 32 ∷ []) ++ decimal place) ++ codes ": ") ++ error) ++ codes ", in ulps: ") ++ ulps) = cc in
    x ∙ simp append_assoc

-- ---- the kept numeral after one more
pub more_in : (mode : ReadMode) (r : Radix) (f : FormatParts) (entries : List Entry) (e : Entry) (lost lost' : Option Lost) (g g' : GreatestError) → lost ≡ None → IsIn mode r f e.numeral
    → ((found : List Entry) → HasGreatest found g → HasGreatest (found ++ e ∷ []) g') → HasReport mode r f entries lost g → HasReport mode r f (entries ++ e ∷ []) lost' g'
more_in mode r f entries e lost lost' g g' kept h step known _ =
    let k = known kept in
    (k.0 ++ e ∷ [], one_in mode r f entries k.0 e h k.1, step k.0 k.2)

pub more_out : (mode : ReadMode) (r : Radix) (f : FormatParts) (entries : List Entry) (e : Entry) (lost : Option Lost) (g : GreatestError) → HasNoBits mode r e.numeral f Checked → HasReport mode r f entries lost g → HasReport mode r f (entries ++ e ∷ []) lost g
more_out mode r f entries e lost g h known kept =
    let k = known kept in
    (k.0, one_out mode r f entries k.0 e h k.1, k.2)

pub kept_out : (inside k : Kept) (entries : List Entry) (e : Entry) → inside ≡ k → HasNoBits inside.mode inside.radix e.numeral inside.format Checked → HasReport k.mode k.radix k.format entries k.lost k.greatest
    → HasReport k.mode k.radix k.format (entries ++ e ∷ []) k.lost k.greatest
kept_out inside k entries e same h known =
    more_out k.mode k.radix k.format entries e k.lost k.greatest (subst (λ (x : Kept). HasNoBits x.mode x.radix e.numeral x.format Checked) same h) known

pub kept_in : (inside k : Kept) (entries : List Entry) (e : Entry) (lost : Option Lost) (new : GreatestError) → inside ≡ k → inside.lost ≡ None → IsIn inside.mode inside.radix inside.format e.numeral
    → ((found : List Entry) → HasGreatest found inside.greatest → HasGreatest (found ++ e ∷ []) new) → HasReport k.mode k.radix k.format entries k.lost k.greatest → HasReport k.mode k.radix k.format (entries ++ e ∷ []) lost new
kept_in inside k entries e lost new same kept h step =
    subst (λ (x : Kept). HasReport x.mode x.radix x.format entries x.lost x.greatest → HasReport x.mode x.radix x.format (entries ++ e ∷ []) lost new) same
    (more_in inside.mode inside.radix inside.format entries e inside.lost lost inside.greatest new kept h step)

-- ---- the reason for a loss
pub none_of : (lost : Option Lost) → is_some lost ≡ false → lost ≡ None
none_of None e = refl
none_of (Some why) e = absurd (false≢true (sym e))

none_some : (lost : Option Lost) (why : Lost) → lost ≡ None → lost ≡ Some why → ⊥
none_some lost why a b = absurd (false≢true (ap is_some (sym a) ∙ ap is_some b))

is_long : Option Lost → Bool
is_long None = false
is_long (Some NoMemory) = false
is_long (Some TooLong) = true

pub not_long : Some NoMemory ≡ Some TooLong → ⊥
unfolding is_long
not_long e = false≢true (ap is_long e)

-- a numeral out of range loses nothing
pub lost_out : (inside k : Kept) (numeral : List ℕ) → inside ≡ k → HasNoBits inside.mode inside.radix numeral inside.format Checked → IsLostBy k numeral k.lost
lost_out inside k numeral same h =
    let out : HasNoBits k.mode k.radix numeral k.format Checked = subst (λ (x : Kept). HasNoBits x.mode x.radix numeral x.format Checked) same h in
    record {
      stays = λ why e. e;
      long = λ none is more. absurd (in_or_not k.mode k.radix k.format numeral is out);
      short = λ none few e. none_some k.lost TooLong none e;
      out = λ none _. none;
      memory = λ none e. absurd (none_some k.lost NoMemory none e);
    }

-- a numeral that is longer than `longest_kept` loses the report
pub lost_long : (inside k : Kept) (numeral : List ℕ) → inside ≡ k → inside.lost ≡ None → IsIn inside.mode inside.radix inside.format numeral → longest_kept < length numeral → IsLostBy k numeral (Some TooLong)
lost_long inside k numeral same none is more =
    let here : IsLostBy inside numeral (Some TooLong) = record {
      stays = λ why e. absurd (none_some inside.lost why none e);
      long = λ _ _ _. refl;
      short = λ _ few _. omega (arith, few, more);
      out = λ _ out. absurd (in_or_not inside.mode inside.radix inside.format numeral is out);
      memory = λ _ e. absurd (not_long (sym e));
    } in
    subst (λ (x : Kept). IsLostBy x numeral (Some TooLong)) same here

-- a shorter numeral loses it only if memory is lacking
pub lost_short : (inside k : Kept) (numeral : List ℕ) (lost : Option Lost) → inside ≡ k → inside.lost ≡ None → IsIn inside.mode inside.radix inside.format numeral → length numeral ≤ longest_kept → (lost ≡ Some TooLong → ⊥)
    → NeedsMemory inside.greatest numeral → IsLostBy k numeral lost
lost_short inside k numeral lost same none is few other needs =
    let here : IsLostBy inside numeral lost = record {
      stays = λ why e. absurd (none_some inside.lost why none e);
      long = λ _ _ more. absurd (let no : ⊥ = omega (arith, few, more) in no);
      short = λ _ _ e. other e;
      out = λ _ out. absurd (in_or_not inside.mode inside.radix inside.format numeral is out);
      memory = λ _ _. needs;
    } in
    subst (λ (x : Kept). IsLostBy x numeral lost) same here

-- the kept numeral is at most as long as the limit
pub kept_short : (old new numeral : List ℕ) (most : ℕ) → length old ≤ most → length numeral ≤ most → (new ≡ old) ⊎ (new ≡ numeral) → length new ≤ most
kept_short old new numeral most a b (inl e) = subst (λ l. length l ≤ most) (sym e) a
kept_short old new numeral most a b (inr e) = subst (λ l. length l ≤ most) (sym e) b

pub greatest_some : (inside k : Kept) (numeral : List ℕ) (error ulps : List ℕ) → inside ≡ k → numeral ≡ inside.greatest.numeral.items
    → AreShownErrors inside.mode inside.radix numeral inside.format Checked error ulps → AreShownErrors k.mode k.radix k.greatest.numeral.items k.format Checked error ulps
greatest_some inside k numeral error ulps same is shown =
    let here : AreShownErrors inside.mode inside.radix inside.greatest.numeral.items inside.format Checked error ulps = subst (λ t. AreShownErrors inside.mode inside.radix t inside.format Checked error ulps) is shown in
    subst (λ (x : Kept). AreShownErrors x.mode x.radix x.greatest.numeral.items x.format Checked error ulps) same here

pub text_none : (inside k : Kept) (numeral : List ℕ) → inside ≡ k → numeral ≡ inside.greatest.numeral.items → HasNoBits inside.mode inside.radix numeral inside.format Checked
    → IsSome k.lost ⊎ ((k.greatest.is_some ≡ false) ⊎ HasNoBits k.mode k.radix k.greatest.numeral.items k.format Checked)
text_none inside k numeral same is h =
    let here : HasNoBits inside.mode inside.radix inside.greatest.numeral.items inside.format Checked = subst (λ t. HasNoBits inside.mode inside.radix t inside.format Checked) is h in
    inr (inr (subst (λ (x : Kept). HasNoBits x.mode x.radix x.greatest.numeral.items x.format Checked) same here))
