-- A call that finds the numeral at the start of a text has at most one end.
use Rattle.std.proofs.Common.{◌≡◌, ℕ, List, subst}
use Rattle.fixed_numeral.specs.Cause.{HasCause}
use Rattle.fixed_numeral.specs.Leading.{IsLeadingNumeral, HasNoLeading, LeadingIsTheOne}
use Rattle.fixed_numeral.specs.declared.error.ParseErrorKind.{ParseErrorKind}
use Rattle.fixed_numeral.specs.declared.radix.Radix.{Radix}
use Rattle.fixed_numeral.proofs.Public.{one_cause}
use Rattle.fixed_c.specs.Arguments.{NamesRadix}
use Rattle.fixed_c.specs.Laws.{ScanEndsOnce}
use Rattle.fixed_c.specs.Outcome.{ForKind}
use Rattle.fixed_c.specs.Scan.{IsLeadingIn, HasNoLeadingIn, ScanIsRefused}
use Rattle.fixed_c.specs.declared.refusal.Refusal.{Refusal}
use Rattle.fixed_c.specs.declared.refusal.Refusal.TheVariants.{BadRadix}
use Rattle.fixed_c.proofs.EndLemmas.{end_one, kind_one, radix_one, unless_none, unless_one}

module _ (one : LeadingIsTheOne) (text : List ℕ) (radix : ℕ) where
  same_count : (m n : ℕ) → IsLeadingIn text radix m → IsLeadingIn text radix n → m ≡ n
  same_count m n (r, is, h) (s, are, i) =
      (one r text m h).0 n (subst (λ (z : Radix). IsLeadingNumeral z text n) (radix_one s r radix are is) i)

  none_leads : (m : ℕ) (kind : ParseErrorKind) → IsLeadingIn text radix m → HasNoLeadingIn text radix kind → ⊥
  none_leads m kind (r, is, h) (s, are, none, why) =
      (one r text m h).1 (subst (λ (z : Radix). HasNoLeading z text) (radix_one s r radix are is) none)

  same_kind : (k l : ParseErrorKind) → HasNoLeadingIn text radix k → HasNoLeadingIn text radix l → k ≡ l
  same_kind k l (r, is, none, why) (s, are, other, because) =
      one_cause r text k l why (subst (λ (z : Radix). HasCause z text l) (radix_one s r radix are is) because)

  scan_none : (m : ℕ) (r : Refusal) → IsLeadingIn text radix m → ScanIsRefused text radix r → ⊥
  scan_none m r h = unless_none (NamesRadix radix) BadRadix (ForKind (HasNoLeadingIn text radix)) r (h.0, h.1) (λ k. none_leads m k.0 h k.2)

  scan_refusal : (r s : Refusal) → ScanIsRefused text radix r → ScanIsRefused text radix s → r ≡ s
  scan_refusal r s = unless_one (NamesRadix radix) BadRadix (ForKind (HasNoLeadingIn text radix)) r s (kind_one (HasNoLeadingIn text radix) r s same_kind)

pub scan_ends_once : LeadingIsTheOne → ScanEndsOnce
scan_ends_once one text radix old a b code other fa fb =
    end_one (IsLeadingIn text radix) (ScanIsRefused text radix) old a b code other (same_count one text radix a b) (scan_none one text radix) (scan_refusal one text radix)
