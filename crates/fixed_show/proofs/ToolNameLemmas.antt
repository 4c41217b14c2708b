-- The names of a format in other tools.
use Rattle.std.proofs.Common.{◌≡◌, inl, inr, refl, sym, ◌∙◌, ℕ, ◌-◌, ◌<◌, ◌≤◌, ◌++◌, ◌∷◌, List, Bool, true, false, pos, codes, decimal, ap}
use Rattle.std.proofs.lemmas.List.{append-nil}
use Rattle.fixed_bits.specs.Formats.{IsFormat}
use Rattle.fixed_respell.specs.FormatNames.{IsFormatName, point}
use Rattle.fixed_respell.specs.Lemmas.FormatLemmas.{counts_within}
use Rattle.fixed_show.specs.ToolNames.{ArmNameIsAName, arm_name, pair_text}

-- two counts around a point, after Q
q_is : (signed : Bool) (whole frac : ℕ) (head : List ℕ) → pair_text head (pos whole) (codes ".") (pos frac) (codes "") ≡ head ++ (decimal whole ++ 46 ∷ decimal frac)
unfolding pair_text
q_is signed whole frac head = ap (λ (t : List ℕ). head ++ (decimal whole ++ 46 ∷ t)) (append-nil (decimal frac))

named : (signed : Bool) (width frac : ℕ) → IsFormat width frac → frac ≤ width → (signed ≡ true → frac < width)
    → IsFormatName (arm_name signed (width - frac) frac) (record { signed = signed; width = width; frac = frac })
named true width frac is within has = record {
  format = is;
  named = inr (inl (record {
    head = codes "Q";
    is_head = (81, inl refl, refl);
    within = within;
    sign_bit = has;
    text = q_is true (width - frac) frac (codes "Q") ∙ ap (λ t. codes "Q" ++ t) (sym (counts_within point (record { signed = true; width = width; frac = frac }) within));
  }));
}
named false width frac is within has = record {
  format = is;
  named = inr (inl (record {
    head = codes "UQ";
    is_head = (85, 81, inl refl, inl refl, refl);
    within = within;
    sign_bit = has;
    text = q_is false (width - frac) frac (codes "UQ") ∙ ap (λ t. codes "UQ" ++ t) (sym (counts_within point (record { signed = false; width = width; frac = frac }) within));
  }));
}

pub arm_name_named : ArmNameIsAName
arm_name_named f is within has = named f.signed f.width f.frac is within has
