use Rattle.std.proofs.Common.{◌≡◌, ◌∙◌, ◌<◌, Some, [], ◌∷◌, List, ℕ, Option, length, take, ap, sym, subst, arith, ltb-true}
use Rattle.std.proofs.lemmas.Option.{slice_get-get_or}
use Rattle.std.specs.List.{slice_get}
use Rattle.std.specs.Prelude.{slice_set}
use Rattle.std.specs.Io.KnownBytes.{Keeps}
use Rattle.command_line.specs.Device.{left_after, left_after_mark}
use Rattle.command_line.proofs.DeviceLemmas.{first_set, handed_on}
use Rattle.command_line.proofs.device.UnmarkedRead.read.Goals as goal

pub returns-in-Some-clause-bytes : goal.returns-in-Some-clause-bytes
returns-in-Some-clause-bytes g c =
    let u = c.begin.new.self in
    let left = g.R.Read.remaining u.reader in
    let old = left_after_mark g.R.Read.remaining c.args.self.now in
    let same : Keeps old (left_after (Some c.in-Ok.count) u.head left) = subst (λ (o : Option ℕ). Keeps old (left_after o u.head left)) c.in-Ok.ensures.given c.begin.ensures.same in
    let low : c.in-Ok.count < length c.as_bytes.result.now = ltb-true _ _ (sym c.in-Some.ensures.lookup.0) in
    let is : slice_get u.head c.in-Ok.count ≡ Some c.in-Some.byte.now =
    subst (λ (l : List ℕ). slice_get l c.in-Ok.count ≡ Some c.in-Some.byte.now) c.as_bytes.ensures.value
    (slice_get-get_or c.as_bytes.result.now c.in-Ok.count _ low ∙ ap Some (sym c.in-Some.ensures.lookup.1)) in
    let first : take 1 (slice_set c.args.buf.now 0 c.in-Some.byte.now) ≡ c.in-Some.byte.now ∷ [] =
    first_set c.args.buf.now c.in-Some.byte.now (sym c.is_empty.ensures ∙ c.if-not-is_empty.true) in (
      handed_on u.head (slice_set c.args.buf.now 0 c.in-Some.byte.now) c.in-Ok.count c.in-Some.byte.now old left is first same,
      λ one. absurd (omega (arith, one)),
    )
