use Rattle.fixed_c.specs.Scan.{IsLeadingIn, ScanIsRefused}
use Rattle.fixed_c.proofs.EndLemmas.{handed}
use Rattle.fixed_c.proofs.exports.fixed_scan_text.Goals as goal

pub returns : goal.returns
returns c =
    handed c.leading.result (IsLeadingIn c.args.text.now c.args.radix) (ScanIsRefused c.args.text.now c.args.radix) c.args.count.now c.hand_over.new.out c.hand_over.result (rw c.given_text.ensures at c.leading.ensures) c.hand_over.ensures
