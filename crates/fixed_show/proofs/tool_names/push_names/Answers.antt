use Rattle.std.proofs.Common.{◌≡◌, ◌++◌, ℤ, FitsSigned, codes, rules}
use Rattle.std.specs.Int.{w32}
use Rattle.std.proofs.lemmas.Int.{to_z-of_z}
use Rattle.fixed_bits.specs.Formats.{FormatParts, whole_length}
use Rattle.fixed_show.specs.Forms.{fact}
use Rattle.fixed_show.specs.ToolNames.{format_q_facts, hls_name, matlab_name, name_facts, vhdl_name}
use Rattle.fixed_show.proofs.LineLemmas.{four_lines}
use Rattle.fixed_show.proofs.tool_names.push_names.Goals as goal

pub returns-clause-appended : goal.returns-clause-appended
unfolding name_facts
returns-clause-appended g c =
    let f : FormatParts = c.args.format in
    let w = c.width-width.ensures.width in
    let r = c.frac_of-frac.ensures.value in
    let whole : ℤ = c.whole_length-whole.result in
    let fits : FitsSigned w32 whole = search rules in
    let h : whole ≡ whole_length f = c.whole_length-whole.ensures.length in
    let a : c.push_format_q_facts.new.out ≡ c.args.out.now ++ format_q_facts c.args.form f = c.push_format_q_facts.ensures.appended in
    let b : c.push_hls_fact.new.out ≡ c.push_format_q_facts.new.out ++ fact c.args.form (codes "HLS") (hls_name f.signed f.width (whole_length f)) = rw (to_z-of_z w32 whole fits, w, h, c.signed.ensures) at c.push_hls_fact.ensures.appended in
    let d : c.push_vhdl_fact.new.out ≡ c.push_hls_fact.new.out ++ fact c.args.form (codes "VHDL") (vhdl_name f.signed (whole_length f) f.frac) = rw (to_z-of_z w32 whole fits, h, r, c.signed-2.ensures) at c.push_vhdl_fact.ensures.appended in
    let e : c.push_matlab_fact.new.out ≡ c.push_vhdl_fact.new.out ++ fact c.args.form (codes "MATLAB") (matlab_name f.signed f.width f.frac) = rw (w, r, c.signed-3.ensures) at c.push_matlab_fact.ensures.appended in
    four_lines c.args.out.now c.push_format_q_facts.new.out c.push_hls_fact.new.out c.push_vhdl_fact.new.out c.push_matlab_fact.new.out (format_q_facts c.args.form f)
    (fact c.args.form (codes "HLS") (hls_name f.signed f.width (whole_length f))) (fact c.args.form (codes "VHDL") (vhdl_name f.signed (whole_length f) f.frac)) (fact c.args.form (codes "MATLAB") (matlab_name f.signed f.width f.frac)) a b d e
