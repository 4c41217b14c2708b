use Rattle.std.proofs.Common.{◌-◌, ◌+◌, ◌≤◌, length, refl, rules}
use Rattle.std.proofs.lemmas.List.{take_rest}
use Rattle.fixed_numeral.proofs.CopyLemmas.{both_ends}
use Rattle.fixed_numeral.proofs.short.copy_ends.Goals as goal

pub returns : goal.returns
returns g c =
    let s = c.args.s.now in
    let room : 16 + length s ≤ length c.args.bytes.now = search (rules, c.fits-bytes, c.told-bytes, c.requires.room) in
    rw (c.copy_from_slice.ensures.after, c.copy_from_slice-2.ensures.after, take_rest s (length s - g.row.N)) (both_ends 16 g.row.N (length s) _ _ c.args.bytes.now s room refl c.requires.least c.requires.most)
