use Rattle.std.proofs.Common.{refl}
use Rattle.fixed_arrays.specs.Names.{gnu_words}
use Rattle.fixed_arrays.proofs.form.gnu_words.Goals as goal

pub returns : goal.returns
unfolding gnu_words
returns c = refl
