-- The bytes put by one call after the other.
use Rattle.std.proofs.Common.{◌≡◌, ℕ, List, [], ◌++◌, refl, sym, ap, ◌∙◌, append_assoc, append-nil, Option, subst}
use Rattle.std.proofs.KnownBytes.{Appends-trans, Appends-nil}
use Rattle.std.specs.Io.KnownBytes.{Appends}
use Rattle.line_engine.specs.Appended.{AppendsPrefix}
use Rattle.line_engine.specs.Failures.{HasFailed}
use Rattle.run_engine.specs.Seen.{Breaks, KeepsSource, Puts, Seen}

pub source_none : (a : Seen) → KeepsSource a a
source_none a = record { left = refl; asked = refl; failures = refl; same = record { source = refl; sink = refl } }

pub source_both : (a b c : Seen) → KeepsSource a b → KeepsSource b c → KeepsSource a c
source_both a b c p q = record {
  left = q.left ∙ p.left;
  asked = q.asked ∙ p.asked;
  failures = q.failures ∙ p.failures;
  same = record { source = q.same.source ∙ p.same.source; sink = q.same.sink ∙ p.same.sink };
}

pub puts_none : (a : Seen) (held : List ℕ) → Puts a a held held []
puts_none a held = record { gone = []; split = append-nil held; written = Appends-nil a.written; failures = refl; source = source_none a }

-- bytes put after other bytes
pub puts_both : (a b c : Seen) (held held' held'' more most : List ℕ) → Puts a b held held' more → Puts b c held' held'' most → Puts a c held held'' (more ++ most)
puts_both a b c held held' held'' more most p q = record {
  gone = p.gone ++ q.gone;
  split = sym (append_assoc held more most) ∙ ap (λ l. l ++ most) p.split ∙ append_assoc p.gone held' most ∙ ap (λ l. p.gone ++ l) q.split ∙ sym (append_assoc p.gone q.gone held'');
  written = Appends-trans a.written b.written c.written p.gone q.gone p.written q.written;
  failures = q.failures ∙ p.failures;
  source = source_both a b c p.source q.source;
}

-- bytes gathered after those before
pub puts_held : (a : Seen) (held held' more : List ℕ) → held' ≡ held ++ more → Puts a a held held' more
puts_held a held held' more is = record { gone = []; split = sym is; written = Appends-nil a.written; failures = refl; source = source_none a }

-- a write failed after other bytes were put
part_second : (a b c : Option (List ℕ)) (bs cs : List ℕ) → Appends a b bs → AppendsPrefix b c cs → AppendsPrefix a c (bs ++ cs)
part_second a b c bs cs first part = record {
  prefix = bs ++ part.prefix;
  rest = part.rest;
  split = ap (λ l. bs ++ l) part.split ∙ sym (append_assoc bs part.prefix part.rest);
  appends = Appends-trans a b c bs part.prefix first part.appends;
}

pub breaks_second : (a b c : Seen) (held held' more most : List ℕ) → Puts a b held held' more → Breaks b c held' most → Breaks a c held (more ++ most)
breaks_second a b c held held' more most p q = record {
  part = subst (AppendsPrefix a.written c.written)
      (sym (sym (append_assoc held more most) ∙ ap (λ l. l ++ most) p.split ∙ append_assoc p.gone held' most))
      (part_second a.written b.written c.written p.gone (held' ++ most) p.written q.part);
  failed = subst (λ n. HasFailed n c.write_failures) p.failures q.failed;
  source = source_both a b c p.source q.source;
}
