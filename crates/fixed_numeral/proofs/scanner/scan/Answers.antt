use Rattle.std.proofs.Common.{rules}
use Rattle.fixed_numeral.specs.Cause.{HasCause}
use Rattle.fixed_numeral.proofs.ScanLemmas.{incomplete_cause}
use Rattle.fixed_numeral.proofs.scanner.scan.Goals as goal

pub returns-in-Err-check_complete-clause-reading : goal.returns-in-Err-check_complete-clause-reading
returns-in-Err-check_complete-clause-reading g c =
    let why : HasCause c.args.radix c.args.bytes.now c.in-Err-check_complete.kind = incomplete_cause c.args.radix c.args.bytes.now c.in-Ok.state c.in-Err-check_complete.kind c.in-Ok.ensures.end c.in-Err-check_complete.ensures in
    record { numeral = (λ e. absurd (cc), λ n. absurd (why.none n)); read = search rules; cause = rw c.new-in-Err-check_complete.ensures why }
