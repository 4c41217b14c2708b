-- Refused requests, by the format that the source names.
use Rattle.std.proofs.Common.{◌≡◌, ℕ, List, Option, inl, inr, subst, sym}
use Rattle.column_engine.specs.declared.columns.Column.{Column}
use Rattle.command_line.specs.declared.given.Given.{Given}
use Rattle.fixed.specs.Amounts.{IsBySource, IsDecimalAsked, NamesNoDecimal}
use Rattle.fixed.specs.Columns.{AreColumnsAsked, IsColumnJobAsked, IsColumnJobBy}
use Rattle.fixed.specs.declared.inputs.Job.{Job}
use Rattle.fixed.proofs.LawLemmas.{columns_one}
use Rattle.fixed.proofs.QuestionLemmas.{decimal_one}

-- the source names this decimal format, for which nothing is valid
pub amount_refused : (word : Option (List ℕ)) (Amount : ℕ → Type 0) (Binary : Type 0) (format : ℕ) → IsDecimalAsked word format → (Amount format → ⊥)
    → IsBySource word Amount Binary → ⊥
amount_refused word Amount Binary format is none (inl (other, is_other, asked)) = none (subst Amount (decimal_one word other format is_other is) asked)
amount_refused word Amount Binary format is none (inr (never, asked)) = never format is

-- the source names no decimal format, and nothing is valid for a binary one
pub binary_refused : (word : Option (List ℕ)) (Amount : ℕ → Type 0) (Binary : Type 0) → NamesNoDecimal word → (Binary → ⊥) → IsBySource word Amount Binary → ⊥
binary_refused word Amount Binary never none (inl (format, is, asked)) = never format is
binary_refused word Amount Binary never none (inr (other, asked)) = none asked

-- the columns are valid, and nothing is valid for the source after them
pub columns_refused : (given : Given) (columns : List Column) (source other files : ℕ) (asked : Job) → AreColumnsAsked given columns source
    → ((list : List Column) → IsColumnJobBy given list source asked files → ⊥) → IsColumnJobAsked given asked other files → ⊥
columns_refused given columns source other files asked are none x =
    let same : source ≡ other = (columns_one.columns given columns x.columns source other are x.are_columns).1 in
    none x.columns (subst (λ (n : ℕ). IsColumnJobBy given x.columns n asked files) (sym same) x.job_by)
