use Rattle.std.proofs.Common.{rules, ◌≡◌, ◌++◌, List, ℕ}
use Rattle.std.specs.Prelude.{codes}
use Rattle.fixed_respell.specs.Words.{format_text}
use Rattle.fixed_constants.specs.Forms.{rust_type}
use Rattle.fixed_constants.proofs.CanonicalLemmas.{two_pieces}
use Rattle.fixed_constants.proofs.sources.push_rust_type.Goals as goal

pub returns : goal.returns
unfolding rust_type
returns c =
    let t : List ℕ = c.args.text.now.items in
    let a : c.extend_from_slice.new.self.items ≡ t ++ codes "fixed::types::" = c.in_ok-extend_from_slice.ensures.items in
    let b : c.extend_from_slice-2.new.self.items ≡ c.extend_from_slice.new.self.items ++ format_text c.args.format = search rules in
    two_pieces t _ _ _ _ a b
