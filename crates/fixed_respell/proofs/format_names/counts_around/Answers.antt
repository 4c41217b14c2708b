use Rattle.fixed_respell.proofs.FormatNameLemmas.{split_counts}
use Rattle.fixed_respell.proofs.format_names.counts_around.Goals as goal

pub returns-in_default-count_of : goal.returns-in_default-count_of
returns-in_default-count_of c whole frac few few' is =
    let same = split_counts c.args.mark whole frac c.args.bytes.now c.in-Some.whole.now c.in-Some.frac.now c.requires few c.in-Some.ensures is in
    c.in_default-count_of.ensures whole few same.before

pub returns-in_default-count_of-2 : goal.returns-in_default-count_of-2
returns-in_default-count_of-2 c whole frac few few' is =
    let same = split_counts c.args.mark whole frac c.args.bytes.now c.in-Some.whole.now c.in-Some.frac.now c.requires few c.in-Some.ensures is in
    c.in_default-count_of-2.ensures frac few' same.after
