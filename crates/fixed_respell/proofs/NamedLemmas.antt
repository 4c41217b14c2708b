-- Lines that use any of the names of formats.
use Rattle.std.proofs.Common.{◌≡◌, ℕ, List, subst, inl, inr}
use Rattle.fixed_bits.specs.Formats.{FormatParts, IsFormat}
use Rattle.fixed_respell.specs.Answer.{Asks, AsksBy, IsAnswer, IsNamedAnswer, IsTaskAnswered, Task}
use Rattle.fixed_respell.specs.AnswerLaws.{NamedAnswerIsTheAnswer, NamedAnswerIsTheOne}
use Rattle.fixed_respell.specs.FormatNames.{IsFormatName}
use Rattle.fixed_respell.specs.Words.{IsFormatWord, IsPolicyName, IsPolicyWord}
use Rattle.fixed_respell.specs.Lemmas.AnswerLemmas.{answer_by, policy_name_one, task_one, word_is_name}
use Rattle.fixed_respell.specs.Lemmas.FaultLemmas.{no_fault}
use Rattle.fixed_respell.proofs.FormatNameLemmas.{name_one, word_names}
use Rattle.fixed_respell.proofs.PlainLemmas.{asks_by}

name_valid : (word : List ℕ) (f : FormatParts) → IsFormatName word f → IsFormat f.width f.frac
name_valid word f is = is.format

pub named_answer_one : NamedAnswerIsTheOne
named_answer_one = answer_by IsFormatName name_one name_valid IsPolicyName policy_name_one

-- a line with the programs' own words is a line with names
named_asks : (line : List ℕ) (t : Task) → Asks line t → AsksBy IsFormatName IsPolicyName line t
named_asks line t asks = asks_by IsFormatWord IsFormatName IsPolicyWord IsPolicyName line t asks (word_names asks.source_word t.source asks.source) (word_names asks.target_word t.target asks.target) (word_is_name asks.policy_word t.policy t.mode asks.policy)

pub named_answer : NamedAnswerIsTheAnswer
named_answer line t reply asks = (to, back)
  where
    to : IsNamedAnswer line reply → IsAnswer line reply
    to (inl a) = absurd (no_fault IsFormatName IsPolicyName line t a.fault (named_asks line t asks) a.first.has)
    to (inr a) =
        let same : a.task ≡ t = task_one IsFormatName name_one name_valid IsPolicyName policy_name_one line a.task t a.asks (named_asks line t asks) in
        inr (record { task = t; asks = asks; answered = subst (λ u. IsTaskAnswered u reply) same a.answered })

    back : IsAnswer line reply → IsNamedAnswer line reply
    back (inl a) = absurd (no_fault IsFormatWord IsPolicyWord line t a.fault asks a.first.has)
    back (inr a) = inr (record { task = a.task; asks = named_asks line a.task a.asks; answered = a.answered })
