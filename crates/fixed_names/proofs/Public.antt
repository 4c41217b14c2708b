-- Lemmas for the proofs of dependent crates.
use Rattle.fixed_names.specs.Laws.{NameIsTheOne}
use Rattle.fixed_names.proofs.ToolNameLemmas

-- a word names at most one format
pub name_one : NameIsTheOne
name_one = ToolNameLemmas.names_one
