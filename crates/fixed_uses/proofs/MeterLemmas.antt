-- A text rounded to two places shows hundredths.
use Rattle.std.proofs.Common.{◌≡◌, ℕ, ℤ, false, List, [], ◌++◌, sym, subst}
use Rattle.fixed_bits.specs.declared.mode.ReadMode.TheVariants.{NearestEven}
use Rattle.fixed_write.specs.Places.{IsRoundedText, rounded_text}
use Rattle.fixed_write.specs.Texts.{decimal_text}
use Rattle.fixed_uses.specs.Meter.{ShowsHundredths}

shows : (bits : ℤ) (text : List ℕ) → IsRoundedText NearestEven 10 false 2 bits 16 text → ShowsHundredths bits text
unfolding decimal_text
shows bits text r = record { hundredths = r.number; near = r.rounded.near; text_is = r.text_is }

pub shows_after : {value : ℤ} (bits : ℤ) (before after : List ℕ) → IsRoundedText NearestEven 10 false 2 value 16 (rounded_text NearestEven 10 false 2 value 16)
    → after ≡ before ++ rounded_text NearestEven 10 false 2 value 16 → before ≡ [] → value ≡ bits → ShowsHundredths bits after
shows_after {value = value} bits before after r added none e =
    subst (λ (z : ℤ). ShowsHundredths z after) e
    (subst (λ (t : List ℕ). ShowsHundredths value t) (sym (rw none at added)) (shows value (rounded_text NearestEven 10 false 2 value 16) r))
