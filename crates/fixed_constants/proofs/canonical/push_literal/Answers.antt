use Rattle.std.proofs.Common.{rules, ◌≡◌, ◌++◌, pos, unsigned_abs, FitsSigned}
use Rattle.std.specs.Int.{is_negative, w128}
use Rattle.std.specs.Fmt.{sign_text}
use Rattle.std.proofs.lemmas.Int.{to_z-of_z}
use Rattle.fixed_constants.proofs.CanonicalLemmas.{literal_pieces}
use Rattle.fixed_constants.proofs.canonical.push_literal.Goals as goal

pub returns : goal.returns
returns c =
    let fits : FitsSigned w128 c.args.bits = search rules in
    let sign : c.push_sign.new.out ≡ c.args.out.now ++ sign_text (is_negative c.args.bits) = rw (to_z-of_z w128 c.args.bits fits) at c.push_sign.ensures in
    let magnitude : c.magnitude_of.result ≡ pos (unsigned_abs c.args.bits) = search rules in
    let small : FitsSigned w128 c.magnitude_of.result = search rules in
    let digits = rw (to_z-of_z w128 c.magnitude_of.result small) at c.push_exact.ensures.appended in
    literal_pieces c.args.out.now _ _ _ c.args.bits c.magnitude_of.result c.args.frac sign c.push_bytes.ensures magnitude digits
