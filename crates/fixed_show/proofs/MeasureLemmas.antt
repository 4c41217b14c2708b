-- The error of a numeral, by value or in ulps.
use Rattle.std.proofs.Common.{◌≡◌, ◌∙◌, ◌<◌, ℕ, ℤ, List, ◌++◌, codes, inl, inr, refl, sym, arith}
use Rattle.fixed_numeral.proofs.Public.{magnitude_pos}
use Rattle.fixed_numeral.specs.Numeral.{Parts}
use Rattle.fixed_numeral.specs.declared.radix.Radix.{Radix}
use Rattle.fixed_show.proofs.DifferenceLemmas.{den_some}
use Rattle.fixed_show.proofs.ShortLemmas.{form_one}
use Rattle.fixed_show.specs.Blocks.{Appends}
use Rattle.fixed_show.specs.ErrorText.{IsBriefNumeral, error_num}
use Rattle.fixed_show.specs.ShortError.{ErrorTextIsTheOne, IsErrorText, IsFormDecimal, measured_den}
use Rattle.fixed_show.specs.declared.form.Form.{Form}
use Rattle.fixed_show.specs.declared.measure.Measure.{Measure}
use Rattle.fixed_show.specs.declared.measure.Measure.TheVariants.{Ulps, Value}

pub measured_some : (m : Measure) (r : Radix) (p : Parts) (f : ℕ) → 0 < measured_den m r p f
measured_some Value r p f = den_some r p f
measured_some Ulps r p f = magnitude_pos r p

pub exact_is : (form : Form) (m : Measure) (r : Radix) (p : Parts) (f : ℕ) (b : ℤ) (before after : List ℕ) → IsBriefNumeral r p
    → Appends (IsFormDecimal form (error_num r p f b) (measured_den m r p f)) 1380 before after → Appends (IsErrorText form m r p f b) 1380 before after
exact_is form m r p f b before after brief t = record { text = t.text; is_text = inl (brief, t.is_text); appended = t.appended; short = t.short }

pub unwritten_is : (form : Form) (m : Measure) (r : Radix) (p : Parts) (f : ℕ) (b : ℤ) (before after : List ℕ) → (IsBriefNumeral r p → ⊥)
    → after ≡ before ++ codes "not written: the numeral is too long" → Appends (IsErrorText form m r p f b) 1380 before after
unwritten_is form m r p f b before after long e = record { text = codes "not written: the numeral is too long"; is_text = inr (long, refl); appended = e; short = omega arith }

-- an error has one text
pub error_text_one : ErrorTextIsTheOne
error_text_one form m r p f b text other (inl x) (inl y) = form_one form (error_num r p f b) (measured_den m r p f) text other (measured_some m r p f) x.1 y.1
error_text_one form m r p f b text other (inl x) (inr y) = absurd (y.0 x.0)
error_text_one form m r p f b text other (inr x) (inl y) = absurd (x.0 y.0)
error_text_one form m r p f b text other (inr x) (inr y) = x.1 ∙ sym y.1
