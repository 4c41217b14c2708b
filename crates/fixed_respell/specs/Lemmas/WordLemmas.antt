-- Policy words have no slash.
use Rattle.std.proofs.Common.{◌≡◌, refl}
use Rattle.fixed_bits.specs.declared.format.Policy.{Policy}
use Rattle.fixed_bits.specs.declared.format.Policy.TheVariants.{Checked, Saturating, Wrapping, Symmetric}
use Rattle.fixed_respell.specs.Split.{count_of}
use Rattle.fixed_respell.specs.Words.{policy_text, slash}

pub no_slash : (p : Policy) → count_of slash (policy_text p) ≡ 0
no_slash Checked = refl
no_slash Saturating = refl
no_slash Wrapping = refl
no_slash Symmetric = refl
