use Rattle.std.proofs.Common.{rules, subst, sym, inl, inr, ◌∙◌, ap, FitsSigned, ◌≡◌}
use Rattle.std.specs.Int.{w128, w32, w64}
use Rattle.std.proofs.lemmas.Int.{to_z-of_z}
use Rattle.std.proofs.lemmas.Result.{err_from_is_err_and}
use Rattle.fixed_bits.specs.Formats.{FormatParts}
use Rattle.fixed_convert.specs.Order.{order_of}
use Rattle.fixed_c.specs.Arguments.{NamesFormat}
use Rattle.fixed_c.specs.Convert.{IsCompared, order_code}
use Rattle.fixed_c.specs.Numbers.{AreBits, AreBitsOf, format_of}
use Rattle.fixed_c.proofs.numbers.order_by_value.Goals as goal

pub returns-in_err-left : goal.returns-in_err-left
returns-in_err-left c =
    let given : FitsSigned w64 c.args.a = search rules in
    let bad : ¬ AreBits c.in_ok-f.f c.args.a = rw (to_z-of_z w64 c.args.a given) at c.in_err-left.ensures.number.0 in
    let p = err_from_is_err_and c.from_residual-in_err-left.result c.from_residual-in_err-left.ensures.1 in
    rw (p.1, p.2) (inr (c.in_ok-f.ensures.1, inr (c.in_ok-g.ensures.1, inl (subst (λ (h : FormatParts). ¬ AreBits h c.args.a) c.in_ok-f.ensures.0 bad, c.in_err-left.ensures.number.1))))

pub returns-in_err-right : goal.returns-in_err-right
returns-in_err-right c =
    let first : FitsSigned w64 c.args.a = search rules in
    let second : FitsSigned w64 c.args.b = search rules in
    let are : AreBitsOf c.in_ok-f.f c.args.a c.in_ok-left.left = rw (to_z-of_z w64 c.args.a first) at c.in_ok-left.ensures.number in
    let bad : ¬ AreBits c.in_ok-g.g c.args.b = rw (to_z-of_z w64 c.args.b second) at c.in_err-right.ensures.number.0 in
    let p = err_from_is_err_and c.from_residual-in_err-right.result c.from_residual-in_err-right.ensures.1 in
    rw (p.1, p.2) (inr (
      c.in_ok-f.ensures.1,
      inr (
        c.in_ok-g.ensures.1,
        inr (
          (c.in_ok-left.left, subst (λ (h : FormatParts). AreBitsOf h c.args.a c.in_ok-left.left) c.in_ok-f.ensures.0 are),
          inl (subst (λ (h : FormatParts). ¬ AreBits h c.args.b) c.in_ok-g.ensures.0 bad, c.in_err-right.ensures.number.1),
        ),
      ),
    ))

pub returns : goal.returns
returns c =
    let f : FormatParts = c.in_ok-f.f in
    let g : FormatParts = c.in_ok-g.g in
    let first : FitsSigned w64 c.args.a = search rules in
    let second : FitsSigned w64 c.args.b = search rules in
    let left : FitsSigned w128 c.in_ok-left.left = search rules in
    let right : FitsSigned w128 c.in_ok-right.right = search rules in
    let given : FitsSigned w32 c.order_of.result = search rules in
    let l : AreBitsOf f c.args.a c.in_ok-left.left = rw (to_z-of_z w64 c.args.a first) at c.in_ok-left.ensures.number in
    let r : AreBitsOf g c.args.b c.in_ok-right.right = rw (to_z-of_z w64 c.args.b second) at c.in_ok-right.ensures.number in
    let order : c.order_of.result ≡ order_code (order_of c.in_ok-left.left f.frac c.in_ok-right.right g.frac) = c.order_of.ensures ∙ ap order_code
    (rw (to_z-of_z w128 c.in_ok-left.left left, to_z-of_z w128 c.in_ok-right.right right, c.frac.ensures.frac, c.frac-2.ensures.frac) at c.compare.ensures) in
    let made : IsCompared f g c.args.a c.args.b c.order_of.result = record {
      first_format = (subst (λ (h : FormatParts). NamesFormat h) (sym c.in_ok-f.ensures.0) c.in_ok-f.ensures.1);
      second_format = (subst (λ (h : FormatParts). NamesFormat h) (sym c.in_ok-g.ensures.0) c.in_ok-g.ensures.1);
      left = c.in_ok-left.left;
      left_is = l;
      right = c.in_ok-right.right;
      right_is = r;
      order_is = order;
    } in
    rw (to_z-of_z w32 c.order_of.result given)
    (subst (λ (h : FormatParts). IsCompared h (format_of c.args.b_format.is_signed c.args.b_format.width c.args.b_format.frac) c.args.a c.args.b c.order_of.result) c.in_ok-f.ensures.0
    (subst (λ (h : FormatParts). IsCompared f h c.args.a c.args.b c.order_of.result) c.in_ok-g.ensures.0 made))
