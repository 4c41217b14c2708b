-- The bits of a word are their own image if source and target are one format.
use Rattle.std.proofs.Common.{◌≡◌, ◌==◌, ◌&&◌, ◌∙◌, ◌^◌, ◌≤◌, ◌++◌, ℕ, ℤ, Bool, true, false, unsigned_abs, List, length, refl, sym, ap, subst, arith, length-append}
use Rattle.std.specs.Bool.{beq}
use Rattle.std.specs.Cmp.{booleans_Decides}
use Rattle.std.specs.Int.{is_negative}
use Rattle.std.proofs.lemmas.Bool.{and_parts, false≢true}
use Rattle.std.proofs.lemmas.Bool.Decides.{Decides-eqb}
use Rattle.std.proofs.lemmas.Nat.{pow_pos}
use Rattle.fixed_bits.proofs.Public.{images_agree, in_wide, policy_range_decided, rounded_exact, sign_and_magnitude, width_most}
use Rattle.fixed_bits.specs.Formats.{FormatParts, IsFormat}
use Rattle.fixed_bits.specs.Images.{IsInRangeBy}
use Rattle.fixed_bits.specs.Ranges.{IsInRange}
use Rattle.fixed_bits.specs.declared.format.Policy.{Policy}
use Rattle.fixed_bits.specs.declared.format.Policy.TheVariants.{Checked, Saturating, Wrapping, Symmetric}
use Rattle.fixed_bits.specs.declared.mode.ReadMode.{ReadMode}
use Rattle.fixed_convert.specs.Rounded.{IsReformatted}
use Rattle.fixed_write.specs.Texts.{IsShortestText}
use Rattle.fixed_command.specs.declared.convert.Settings.{Settings}
use Rattle.fixed_command.specs.Moved.{HasPushedImage}
use Rattle.fixed_command.specs.Printed.{printed}
use Rattle.fixed_command.specs.declared.print.Print.TheVariants.{Text}
use Rattle.fixed_respell.specs.Answer.{respelled_answer}

-- ---- formats that `==` does not tell apart are equal
pub same_format : (f g : FormatParts) → (beq f.signed g.signed && ((f.width == g.width) && (f.frac == g.frac))) ≡ true → f ≡ g
same_format f g is =
    let outer = and_parts (beq f.signed g.signed) ((f.width == g.width) && (f.frac == g.frac)) is in
    let inner = and_parts (f.width == g.width) (f.frac == g.frac) outer.1 in
    let F : Bool → ℕ → ℕ → FormatParts = λ s w k. record { signed = s; width = w; frac = k } in
    ap (λ s. F s f.width f.frac) ((booleans_Decides f.signed g.signed).0 outer.0)
    ∙ (ap (λ w. F g.signed w f.frac) ((Decides-eqb f.width g.width).0 inner.0) ∙ ap (λ k. F g.signed g.width k) ((Decides-eqb f.frac g.frac).0 inner.1))

-- ---- bits of a format are their own image in it
-- a number in range is in the range that the policy leaves, if the policy is not Symmetric or Symmetric leaves it in
pub range_by : (p : Policy) (s : Bool) (n : ℕ) (v : ℤ) → IsInRange s n v → (p ≡ Symmetric → IsInRangeBy Symmetric s n v) → IsInRangeBy p s n v
range_by Checked s n v i symmetric = record { low = i.low; high = i.high }
range_by Saturating s n v i symmetric = record { low = i.low; high = i.high }
range_by Wrapping s n v i symmetric = record { low = i.low; high = i.high }
range_by Symmetric s n v i symmetric = symmetric refl

own_image : (m : ReadMode) (policy : Policy) (f : FormatParts) (b : ℤ) → IsFormat f.width f.frac → IsInRangeBy policy f.signed f.width b → IsReformatted m policy f b f.frac b false
own_image m policy f b format range = record {
  moved = b;
  is_moved = record {
    ulps = unsigned_abs b;
    rounded = rounded_exact m (is_negative b) (unsigned_abs b) (2 ^ f.frac) (pow_pos f.frac);
    value = sym (sign_and_magnitude b);
  };
  image_is = (images_agree policy f.signed f.width b b format.is_width range).1 refl;
  verdict = (λ t. absurd (false≢true t), λ out. absurd ((policy_range_decided policy f.signed f.width b).1 out range));
}

-- the text of such bits is pushed as it is
pub own_text : (s : Settings) (bits : ℤ) (frac : ℕ) (text old new : List ℕ) → s.source ≡ s.target → ¬ (s.policy ≡ Symmetric) → frac ≡ s.target.frac → IsFormat s.source.width s.source.frac → s.print ≡ Text → IsInRange s.source.signed s.source.width bits
    → IsShortestText bits frac text → length text ≤ 48 → new ≡ old ++ text → HasPushedImage s bits false old new
own_text s bits frac text old new same other is_frac source print range shortest short out = record {
  bits = bits;
  target_out = false;
  moved = subst (λ f. IsReformatted s.target_mode s.policy f bits s.source.frac bits false) same (own_image s.target_mode s.policy s.source bits source (range_by s.policy s.source.signed s.source.width bits range (λ e. absurd (other e))));
  text = text;
  shortest = subst (λ n. IsShortestText bits n text) is_frac shortest;
  wide = in_wide s.source.signed s.source.width bits (width_most s.source.width source.is_width) range;
  appended = out ∙ ap (λ p. old ++ printed p s.target (respelled_answer text bits false).text text bits) (sym print);
  short = omega (arith, ap length out, length-append old text, short);
}
