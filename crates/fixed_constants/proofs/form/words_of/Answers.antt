use Rattle.std.proofs.Common.{ap, sym}
use Rattle.fixed_constants.specs.Forms.{c_words, rust_words, words_in}
use Rattle.fixed_constants.proofs.form.words_of.Goals as goal

pub returns-in-C : goal.returns-in-C
unfolding c_words
returns-in-C c = ap words_in (sym c.in-C.is)

pub returns-in-Rust : goal.returns-in-Rust
unfolding rust_words
returns-in-Rust c = ap words_in (sym c.in-Rust.is)
