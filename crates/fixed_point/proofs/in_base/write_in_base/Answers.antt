use Rattle.std.proofs.Common.{rules, ◌≡◌, ◌≤◌, ◌++◌, pos}
use Rattle.std.specs.Prelude.{unsigned_abs}
use Rattle.std.specs.Fmt.{sign_text}
use Rattle.std.specs.Int.{is_negative}
use Rattle.fixed_write.specs.Bases.{number_of, has_capitals}
use Rattle.fixed_write.specs.Places.{exact_text}
use Rattle.fixed_point.specs.Texts.{exact_shown_text, prefix_of}
use Rattle.fixed_point.proofs.PrintingLemmas.{exact_magnitude, writes_plain}
use Rattle.fixed_point.proofs.in_base.write_in_base.Goals as goal

pub returns-clause-writes : goal.returns-clause-writes
returns-clause-writes g c =
    let within : c.args.frac ≤ c.args.width = c.if-frac-width.false in
    let shown : c.as_ascii_str-2.result.now ≡ exact_text (number_of c.args.base) (has_capitals c.args.base) (pos (unsigned_abs c.args.value)) c.args.frac = search (rules, c.as_ascii_str-2.ensures.value, c.push_exact.ensures.appended) in
    let all : exact_shown_text c.args.base c.args.width c.args.frac c.args.value ≡ sign_text (is_negative c.args.value) ++ c.as_ascii_str-2.result.now = exact_magnitude c.args.base c.args.width c.args.frac c.args.value c.as_ascii_str-2.result.now within shown in
    rw all (writes_plain g.W.Write.write_str_gives c.args.f.now c.pad_integral.new.self c.pad_integral.result (is_negative c.args.value) (prefix_of c.args.base) c.as_ascii_str-2.result.now (search (rules, c.pad_integral.ensures.styled)))
