-- Bytes that are put one after the other.
use Rattle.std.proofs.Common.{◌≡◌, ℕ, List, [], ◌++◌, Bool, true, false, Option, refl, sym, ap, subst, ◌∙◌, append_assoc, append-nil, true≢false}
use Rattle.std.specs.Io.KnownBytes.{Appends}
use Rattle.std.proofs.KnownBytes.{Appends-nil, Appends-trans}
use Rattle.line_engine.specs.Appended.{AppendsPrefix}
use Rattle.line_engine.specs.Failures.{HasFailed}
use Rattle.line_rejects.specs.Rejects.{Fails, Gathers, Puts, Rests, Sight}

-- a boolean is not both
pub never : {A : Type 0} → (b : Bool) → b ≡ true → b ≡ false → A
never b opened closed = absurd (true≢false (sym opened ∙ closed))

pub prefix_none : (known : Option (List ℕ)) (bytes : List ℕ) → AppendsPrefix known known bytes
prefix_none known bytes = record { prefix = []; rest = bytes; split = refl; appends = Appends-nil known }

-- nothing is put
pub puts_none : (a : Sight) → Puts a a []
puts_none a = record {
  whole = λ opened. record { was_open = opened; failed = refl; failures = refl; gone = []; split = append-nil a.held; written = Appends-nil a.written };
  part = λ closed. prefix_none a.written (a.held ++ []);
  rests = λ closed. record { is_shut = closed; failed = refl; written = refl; failures = refl };
  fails = λ opened closed. never a.is_open opened closed;
}

-- if lines are not put, anything may be
pub puts_closed : (a : Sight) (bytes : List ℕ) → a.is_open ≡ false → Puts a a bytes
puts_closed a bytes off = record {
  whole = λ opened. never a.is_open opened off;
  part = λ closed. prefix_none a.written (a.held ++ bytes);
  rests = λ closed. record { is_shut = closed; failed = refl; written = refl; failures = refl };
  fails = λ opened closed. never a.is_open opened closed;
}

-- bytes put after other bytes
module _ (a b c : Sight) (more most : List ℕ) (p : Puts a b more) (q : Puts b c most) where
  both_whole : c.is_open ≡ true → Gathers a c (more ++ most)
  both_whole opened =
      let later = q.whole opened in
      let first = p.whole later.was_open in
      record {
        was_open = first.was_open;
        failed = later.failed ∙ first.failed;
        failures = later.failures ∙ first.failures;
        gone = first.gone ++ later.gone;
        split = sym (append_assoc a.held more most) ∙ ap (λ l. l ++ most) first.split ∙ append_assoc first.gone b.held most ∙ ap (λ l. first.gone ++ l) later.split
            ∙ sym (append_assoc first.gone later.gone c.held);
        written = Appends-trans a.written b.written c.written first.gone later.gone first.written later.written;
      }

  both_part : (is : Bool) → b.is_open ≡ is → c.is_open ≡ false → AppendsPrefix a.written c.written (a.held ++ (more ++ most))
  both_part true opened closed =
      let first = p.whole opened in
      let later = q.part closed in
      record {
        prefix = first.gone ++ later.prefix;
        rest = later.rest;
        split = sym (append_assoc a.held more most) ∙ ap (λ l. l ++ most) first.split ∙ append_assoc first.gone b.held most ∙ ap (λ l. first.gone ++ l) later.split
            ∙ sym (append_assoc first.gone later.prefix later.rest);
        appends = Appends-trans a.written b.written c.written first.gone later.prefix first.written later.appends;
      }
  both_part false off closed =
      let first = p.part off in
      record {
        prefix = first.prefix;
        rest = first.rest ++ most;
        split = sym (append_assoc a.held more most) ∙ ap (λ l. l ++ most) first.split ∙ append_assoc first.prefix first.rest most;
        appends = subst (λ w. Appends a.written w first.prefix) (sym (q.rests off).written) first.appends;
      }

  both_rests : a.is_open ≡ false → Rests a c
  both_rests off =
      let first = p.rests off in
      let later = q.rests first.is_shut in
      record {
        is_shut = later.is_shut;
        failed = later.failed ∙ first.failed;
        written = later.written ∙ first.written;
        failures = later.failures ∙ first.failures;
      }

  both_fails : (is : Bool) → b.is_open ≡ is → a.is_open ≡ true → c.is_open ≡ false → Fails a c
  both_fails true on opened closed =
      let later = q.fails on closed in
      record { failed = later.failed; failures = subst (λ n. HasFailed n c.failures) (p.whole on).failures later.failures }
  both_fails false off opened closed =
      let first = p.fails opened off in
      let later = q.rests off in
      record { failed = later.failed ∙ first.failed; failures = subst (λ n. HasFailed a.failures n) (sym later.failures) first.failures }

  pub puts_both : Puts a c (more ++ most)
  puts_both = record {
    whole = both_whole;
    part = both_part b.is_open refl;
    rests = both_rests;
    fails = both_fails b.is_open refl;
  }

-- bytes held after those before
pub puts_held : (a b : Sight) (bytes : List ℕ) → a.is_open ≡ true → b.is_open ≡ true → b.failed ≡ a.failed → b.written ≡ a.written → b.failures ≡ a.failures
    → b.held ≡ a.held ++ bytes → Puts a b bytes
puts_held a b bytes on still failed written failures held = record {
  whole = λ opened. record {
    was_open = on;
    failed = failed;
    failures = failures;
    gone = [];
    split = sym held;
    written = subst (λ w. Appends a.written w []) (sym written) (Appends-nil a.written);
  };
  part = λ closed. never b.is_open still closed;
  rests = λ closed. never a.is_open on closed;
  fails = λ opened closed. never b.is_open still closed;
}
