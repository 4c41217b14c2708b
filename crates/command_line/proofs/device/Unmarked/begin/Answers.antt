use Rattle.std.proofs.Common.{◌≡◌, ◌∙◌, None, Some, [], List, ℕ, Option, true, false, ap, sym, subst}
use Rattle.std.proofs.KnownBytes.{Keeps-trans}
use Rattle.std.specs.Io.KnownBytes.{Consumes, Keeps, prepend_known}
use Rattle.command_line.specs.Device.{byte_of, is_mark, is_part_of_mark, left_after, left_after_mark}
use Rattle.command_line.proofs.DeviceLemmas.{ended, marked, unmarked}
use Rattle.command_line.proofs.device.Unmarked.begin.Goals as goal
use Rattle.command_line.proofs.device.Unmarked.begin.Goals.{then-is_mark, else-is_mark}

pub returns-in-Ok-None-clause-same : goal.returns-in-Ok-None-clause-same
returns-in-Ok-None-clause-same g c =
    let u = c.head.self in
    let before = g.R.Read.remaining u.reader in
    let after = g.R.Read.remaining c.read_byte.new.reader in
    let old = left_after_mark g.R.Read.remaining c.args.self.now in
    let same : Keeps old (left_after None u.head before) = subst (λ (o : Option ℕ). Keeps old (left_after o u.head before)) c.head.invariant.unread c.head.invariant.same in
    let part : is_part_of_mark u.head ≡ true = sym (c.is_part_of_mark.ensures ∙ ap is_part_of_mark c.as_bytes.ensures.value) ∙ c.head-test.true in
    let none : c.in-Ok-None.field-0 ≡ None = c.in-Ok-None.field-0-is in
    let took : Consumes before after [] = subst (λ (o : Option ℕ). Consumes before after (byte_of o)) none c.in-Ok-None.ensures.bytes in
    Keeps-trans old (left_after None u.head before) (left_after (Some 0) u.head after) same (ended u.head before after part took (c.in-Ok-None.ensures.end none))

pub returns-clause-same : goal.returns-clause-same
returns-clause-same g c =
    let u = c.head.self in
    let before = g.R.Read.remaining u.reader in
    let old = left_after_mark g.R.Read.remaining c.args.self.now in
    let same : Keeps old (left_after None u.head before) = subst (λ (o : Option ℕ). Keeps old (left_after o u.head before)) c.head.invariant.unread c.head.invariant.same in
    let part : is_part_of_mark u.head ≡ false = sym (c.is_part_of_mark.ensures ∙ ap is_part_of_mark c.as_bytes.ensures.value) ∙ c.head-test.false in
    elim c.if-is_mark.branch [
      | then-is_mark w ↦
          let mark : is_mark u.head ≡ true = sym (c.is_mark.ensures ∙ ap is_mark c.as_bytes-2.ensures.value) ∙ w.if-is_mark.true in
          rw w.self-is (subst (λ (h : List ℕ). Keeps old (prepend_known h before)) (sym w.clear.ensures)
          (Keeps-trans old (left_after None u.head before) (left_after (Some 0) [] before) same (marked u.head before mark)))
      | else-is_mark w ↦
          let none : is_mark u.head ≡ false = sym (c.is_mark.ensures ∙ ap is_mark c.as_bytes-2.ensures.value) ∙ w.if-is_mark.false in
          rw w.self-is (Keeps-trans old (left_after None u.head before) (left_after (Some 0) u.head before) same (unmarked u.head before c.as_bytes-2.ensures.within part none))
    ]
