use Rattle.std.proofs.Common.{refl}
use Rattle.fixed_arrays.specs.Names.{vhdl_words}
use Rattle.fixed_arrays.proofs.form.vhdl_words.Goals as goal

pub returns : goal.returns
unfolding vhdl_words
returns c = refl
