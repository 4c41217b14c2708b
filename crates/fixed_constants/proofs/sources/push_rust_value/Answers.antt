use Rattle.std.proofs.Common.{rules, ◌≡◌, ◌++◌, List, ℕ, FitsSigned}
use Rattle.std.specs.Prelude.{codes}
use Rattle.std.specs.Int.{w128}
use Rattle.std.proofs.lemmas.Int.{to_z-of_z}
use Rattle.fixed_constants.specs.Canonical.{literal_text}
use Rattle.fixed_constants.specs.Forms.{rust_type, rust_value}
use Rattle.fixed_constants.proofs.CanonicalLemmas.{four_pieces}
use Rattle.fixed_constants.proofs.sources.push_rust_value.Goals as goal

pub returns : goal.returns
unfolding rust_value
returns c =
    let fits : FitsSigned w128 c.args.bits = search rules in
    let t : List ℕ = c.args.text.now.items in
    let a : c.push_rust_type.new.text.items ≡ t ++ rust_type c.args.format = search rules in
    let b : c.extend_from_slice.new.self.items ≡ c.push_rust_type.new.text.items ++ codes "::from_bits(" = c.in_ok-extend_from_slice.ensures.items in
    let d : c.push_hexadecimal.new.text.items ≡ c.extend_from_slice.new.self.items ++ literal_text c.args.bits 0 = rw (to_z-of_z w128 c.args.bits fits) at c.in_ok-push_hexadecimal.ensures in
    let e : c.extend_from_slice-2.new.self.items ≡ c.push_hexadecimal.new.text.items ++ codes ");\n" = c.in_ok-extend_from_slice-2.ensures.items in
    four_pieces t _ _ _ _ _ _ _ _ a b d e
