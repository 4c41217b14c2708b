-- What a call that reads a text returns, from the options of the call.
use Rattle.std.proofs.Common.{inl, inr, subst, ℕ, List, Result, Ok, Err}
use Rattle.std.specs.Prelude.{MatchResult}
use Rattle.fixed_bits.specs.Formats.{FormatParts}
use Rattle.fixed_c.specs.Arguments.{Names}
use Rattle.fixed_c.specs.Read.{IsNotRead, IsReadAs, ReadIsRefused}
use Rattle.fixed_c.specs.Rows.{AreRows, ReadsRow, text_of_row}
use Rattle.fixed_c.specs.Inner.Asked.{AreNamed, IsNotReadAsAsked, IsReadAsAsked, IsUnnamed, ReadsAskedRow, RefusesRow}
use Rattle.fixed_c.specs.declared.asked.Asked.{Asked}
use Rattle.fixed_c.specs.declared.number.FixedNumber.{FixedNumber}
use Rattle.fixed_c.specs.declared.refusal.Refusal.{Refusal}

-- an invalid option refuses the reading
pub unnamed : (text : List ℕ) (radix : ℕ) (f : FormatParts) (policy mode : ℕ) (refusal : Refusal) → IsUnnamed radix f policy mode refusal → ReadIsRefused text radix f policy mode refusal
unnamed text radix f policy mode refusal (inl a) = inl a
unnamed text radix f policy mode refusal (inr (a, inl b)) = inr (a, inl b)
unnamed text radix f policy mode refusal (inr (a, inr (b, inl d))) = inr (a, inr (b, inl d))
unnamed text radix f policy mode refusal (inr (a, inr (b, inr (d, inl e)))) = inr (a, inr (b, inr (d, inl e)))
unnamed text radix f policy mode refusal (inr (a, inr (b, inr (d, inr (e, none))))) = absurd none

module _ (text : List ℕ) (radix : ℕ) (f : FormatParts) (policy mode : ℕ) (asked : Asked) (named : AreNamed radix f policy mode asked) where
  -- a refused text refuses the reading
  pub refused : (refusal : Refusal) → IsNotReadAsAsked text asked refusal → ReadIsRefused text radix f policy mode refusal
  refused refusal why =
      inr (
        (asked.radix, named.radix_is),
        inr (
          named.format_named,
          inr (
            (asked.policy, named.policy_is),
            inr (
              (asked.mode, named.mode_is),
              (
                why.0,
                why.1,
                record {
                  the_radix = asked.radix;
                  the_policy = asked.policy;
                  the_mode = asked.mode;
                  radix_is = named.radix_is;
                  policy_is = named.policy_is;
                  mode_is = named.mode_is;
                  holds = subst (λ (g : FormatParts). IsNotRead text g why.0 asked.radix asked.policy asked.mode) named.format_is why.2;
                },
              ),
            ),
          ),
        ),
      )

  pub is_read : (n : FixedNumber) → IsReadAsAsked text asked n → Names radix policy mode (IsReadAs text f n.bits n.overflowed)
  is_read n is = record {
    the_radix = asked.radix;
    the_policy = asked.policy;
    the_mode = asked.mode;
    radix_is = named.radix_is;
    policy_is = named.policy_is;
    mode_is = named.mode_is;
    holds = subst (λ (g : FormatParts). IsReadAs text g n.bits n.overflowed asked.radix asked.policy asked.mode) named.format_is is;
  }

  pub answered : (answer : Result FixedNumber Refusal) → MatchResult answer (IsReadAsAsked text asked) (IsNotReadAsAsked text asked)
      → MatchResult answer (λ n. Names radix policy mode (IsReadAs text f n.bits n.overflowed)) (ReadIsRefused text radix f policy mode)
  answered (Ok n) is = is_read n is
  answered (Err refusal) why = refused refusal why

-- ---- rows
pub row_asked : (rows : List ℕ) (size radix : ℕ) (f : FormatParts) (policy mode : ℕ) (asked : Asked) → AreNamed radix f policy mode asked
    → (i : ℕ) (n : FixedNumber) (code : ℕ) → ReadsAskedRow rows size asked i n code → ReadsRow rows size radix f policy mode i n code
row_asked rows size radix f policy mode asked named i n code (inl is) = inl (is.0, is_read (text_of_row rows size i) radix f policy mode asked named n is.1)
row_asked rows size radix f policy mode asked named i n code (inr is) =
    inr (is.0, is.1, refused (text_of_row rows size i) radix f policy mode asked named is.0 is.2, is.3)

pub row_refused : (rows : List ℕ) (size radix : ℕ) (f : FormatParts) (policy mode : ℕ) (refusal : Refusal) → IsUnnamed radix f policy mode refusal
    → (i : ℕ) (n : FixedNumber) (code : ℕ) → RefusesRow refusal i n code → ReadsRow rows size radix f policy mode i n code
row_refused rows size radix f policy mode refusal why i n code is =
    inr (refusal, is.0, unnamed (text_of_row rows size i) radix f policy mode refusal why, is.1)

pub rows_as : (A B : ℕ → FixedNumber → ℕ → Type 0) (numbers : List FixedNumber) (codes : List ℕ) (n : ℕ)
    → ((i : ℕ) (m : FixedNumber) (code : ℕ) → A i m code → B i m code) → AreRows A numbers codes n → AreRows B numbers codes n
rows_as A B numbers codes n every rows = record { each = λ d i h. every i _ _ (rows.each d i h); counted = rows.counted }
