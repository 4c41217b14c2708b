-- The runs of the programs and of the command's tasks, by what the arguments request.
use Rattle.std.proofs.Common.{◌≡◌, ℕ, List, Some, [], ◌∷◌, refl}
use Rattle.std.specs.Prelude.{String}
use Rattle.std.specs.declared.alloc.Global.{Global}
use Rattle.line_engine.specs.AnswerText.{AnswerText}
use Rattle.line_engine.specs.LineLaws.{CutAnywhere}
use Rattle.line_engine.specs.Program.{Outside}
use Rattle.line_engine.specs.declared.status.Status.{Status}
use Rattle.fixed_io.specs.Laws.{ReportIsTheOne}
use Rattle.fixed_numeral.specs.declared.radix.Radix.{Radix}
use Rattle.fixed_respell.specs.Answer as respell
use Rattle.fixed_respell.specs.Command.{IsCommand, usage_line as respell_usage}
use Rattle.fixed_respell.specs.Lemmas.AnswerLemmas.{answer_one as respell_one}
use Rattle.fixed_respell.specs.ProgramRun.{HasProgramRun}
use Rattle.fixed_respell.specs.SelfLaws.{SelfRunIsTheOne, SummaryIsTheOne}
use Rattle.fixed_respell.specs.declared.command.Command.{Command}
use Rattle.fixed_respell.specs.declared.command.Command.TheVariants.{Read, SelfTest}
use Rattle.fixed_enclose.specs.Answer as enclose
use Rattle.fixed_enclose.specs.Lemmas.AnswerLemmas.{answer_one as enclose_one}
use Rattle.fixed_enclose.specs.ProgramRun.{HasEncloseRun, limit as enclose_limit}
use Rattle.fixed_least.specs.Least as least
use Rattle.fixed_least.specs.Lemmas.LeastLemmas.{answer_one as least_one}
use Rattle.fixed_least.specs.Program.{HasLeastRun, NamesRadix, usage_line as least_usage, most_bytes as least_most}
use Rattle.fixed_constants.specs.Forms as constants
use Rattle.fixed_constants.specs.Lemmas.FormLemmas.{form_answer_one}
use Rattle.fixed_constants.specs.Program.{HasFormRun, NamesForm, usage_line as form_usage, most_bytes as form_most}
use Rattle.fixed_constants.specs.declared.form.Form.{Form}
use Rattle.fixed_columns.specs.Answer as columns
use Rattle.fixed_columns.specs.Lemmas.ColumnsLemmas.{answer_one as columns_one}
use Rattle.fixed_columns.specs.Program.{AsksWithin, HasColumnsRun, usage_line as columns_usage}
use Rattle.fixed_command.specs.Convert.{IsLineReply, IsReply}
use Rattle.fixed_command.specs.Errors.{IsErrorLine, IsErrorReply}
use Rattle.fixed_command.specs.LaidList.{laid_out}
use Rattle.fixed_command.specs.Layout.{AnswersLaidOut, IsLaidOut}
use Rattle.fixed_command.specs.LeastLines.{IsLeastWritten}
use Rattle.fixed_command.specs.Lemmas.ErrorLemmas.{error_reply_one}
use Rattle.fixed_command.specs.Lemmas.LeastLemmas.{least_written_one}
use Rattle.fixed_command.specs.Lemmas.RenamedLemmas.{renamed_answer_one}
use Rattle.fixed_command.specs.Renamed.{IsRenamedAnswer}
use Rattle.fixed_constants.specs.Plain.{IsPlainAnswer, plain_text}
use Rattle.fixed_command.specs.Lemmas.BlockLemmas.{line_block_one}
use Rattle.fixed_command.specs.Lemmas.LaidLineLemmas.{laid_answer_one}
use Rattle.fixed_command.specs.Lemmas.LayoutLemmas.{laid_out_one}
use Rattle.fixed_command.specs.Lemmas.ProductLemmas.{product_one}
use Rattle.fixed_command.specs.Lemmas.ReplyLemmas.{line_reply_one, reply_one}
use Rattle.fixed_command.specs.Limits.{limit_of, whole_limit_of}
use Rattle.fixed_command.specs.LineBlocks.{IsLineBlock}
use Rattle.fixed_command.specs.Products.{IsProduct}
use Rattle.fixed_command.specs.Runs.{HasLineRun, IsWholeRun, TaskRuns, reported_extra, reported_per_byte}
use Rattle.fixed_command.specs.declared.task.Task.TheVariants.{Ask, Columns, Constants, Convert, Enclose, Errors, LaidOut, LaidOutAsk, LaidOutEnclose, LaidOutLeast, LaidOutLines, Least, Lines, Reported}
use Rattle.program_laws.specs.Laws.{ColumnsRunsAreTheOnes, EncloseRunsAreTheOnes, FormRunsAreTheOnes, LeastRunsAreTheOnes, ProgramRunsAreTheOnes, TaskRunsAreTheOnes}
use Rattle.program_laws.specs.Runs.{RunsAreTheOnes}
use Rattle.program_laws.proofs.LineLemmas.{calm_line_one, line_run_one}
use Rattle.program_laws.proofs.SelfLemmas.{SelfRun, UsageRun, self_calm_one, self_run_one, usage_calm_one, usage_run_one}
use Rattle.program_laws.proofs.StableLemmas.{along, either}
use Rattle.program_laws.proofs.WholeLemmas.{calm_whole_one, whole_run_one}

module _ (report : ReportIsTheOne) where
  -- each of these runs is a run over lines, over a whole input, or one that writes a usage line
  by_line : (cut : CutAnywhere) (A : List ℕ → AnswerText → Type 0) → ((line : List ℕ) (a b : AnswerText) → A line a → A line b → a ≡ b) → (limit per_byte extra : ℕ)
      → (Runs : Outside → Outside → Status → Type 0) → ((before after : Outside) (s : Status) → Runs before after s → HasLineRun A limit per_byte extra before after s) → RunsAreTheOnes Runs
  by_line cut A one limit per_byte extra Runs says =
      along report Runs (HasLineRun A limit per_byte extra) says (line_run_one A one cut limit per_byte extra) (calm_line_one A one cut limit per_byte extra)

  by_whole : (A : List ℕ → AnswerText → Type 0) → ((input : List ℕ) (a b : AnswerText) → A input a → A input b → a ≡ b) → (limit : ℕ)
      → (Runs : Outside → Outside → Status → Type 0) → ((before after : Outside) (s : Status) → Runs before after s → IsWholeRun A limit before after s) → RunsAreTheOnes Runs
  by_whole A one limit Runs says = along report Runs (IsWholeRun A limit) says (whole_run_one A one limit) (calm_whole_one A one limit)

  by_usage : (line : List ℕ) (Runs : Outside → Outside → Status → Type 0) → ((before after : Outside) (s : Status) → Runs before after s → UsageRun line before after s) → RunsAreTheOnes Runs
  by_usage line Runs says = along report Runs (UsageRun line) says (usage_run_one line) (usage_calm_one line)

  module _ (cut : CutAnywhere) (self : SelfRunIsTheOne) (summary : SummaryIsTheOne) where
    by_command : (args : List (String Global)) (command : Command) → IsCommand args command → RunsAreTheOnes (HasProgramRun args)
    by_command args (Read limit) asks = by_line cut respell.IsAnswer respell_one limit 8 624 (HasProgramRun args) (λ before after s x. record {
      output = λ input left within calm. x.output limit asks input left within calm.0 calm.1;
      too_long = λ input left long calm. x.too_long limit asks input left long calm.0 calm.1;
      run = x.run limit asks;
      prefix_on_write_fault = λ is input answers left are. x.prefix_on_write_fault limit asks is input answers left are;
      cost = x.cost limit asks;
      asked = x.asked limit asks;
      failures = x.failures;
    })
    by_command args (SelfTest count) asks = along report (HasProgramRun args) (SelfRun count) (λ before after s x. x.self_test count asks)
        (self_run_one self summary count) (self_calm_one self summary count)

    pub program_runs_one : ProgramRunsAreTheOnes
    program_runs_one args = either report (HasProgramRun args) ((command : Command) × IsCommand args command) (λ (command, asks). by_command args command asks)
        (λ none. by_usage respell_usage (HasProgramRun args) (λ before after s x. x.usage (λ command asks. none (command, asks))))

  module _ (cut : CutAnywhere) where
    enclosing : (before after : Outside) (s : Status) → HasEncloseRun [] before after s → HasLineRun enclose.IsAnswer enclose_limit 16 1248 before after s
    enclosing before after s x = record {
      output = λ input left within calm. x.output refl input left within calm.0 calm.1;
      too_long = λ input left long calm. x.too_long refl input left long calm.0 calm.1;
      run = x.run refl;
      prefix_on_write_fault = λ is input answers left are. x.prefix_on_write_fault refl is input answers left are;
      cost = x.cost refl;
      asked = x.asked refl;
      failures = x.failures;
    }

    pub enclose_runs_one : EncloseRunsAreTheOnes
    enclose_runs_one [] = by_line cut enclose.IsAnswer enclose_one enclose_limit 16 1248 (HasEncloseRun []) enclosing
    enclose_runs_one (word ∷ words) = by_usage enclose.usage_line (HasEncloseRun (word ∷ words)) (λ before after s x. x.usage (λ e. cc))

    pub task_runs_one : TaskRunsAreTheOnes
    task_runs_one limit Lines = by_line cut respell.IsAnswer respell_one (limit_of limit) 8 624 (TaskRuns limit Lines) (λ before after s x. x)
    task_runs_one limit (LaidOutLines layout) = by_line cut (AnswersLaidOut layout respell.IsAnswer) (laid_answer_one layout respell.IsAnswer respell_one) (limit_of limit) 8 624 (TaskRuns limit (LaidOutLines layout)) (λ before after s x. x)
    task_runs_one limit (Convert settings) = by_line cut (IsLineReply settings) (line_reply_one settings) (limit_of limit) 8 624 (TaskRuns limit (Convert settings)) (λ before after s x. x)
    task_runs_one limit (LaidOut laid) = by_line cut (IsLaidOut laid.layout (IsReply laid.rule)) (laid_out_one laid.layout (IsReply laid.rule) (reply_one laid.rule)) (limit_of limit) 8 624 (TaskRuns limit (LaidOut laid)) (λ before after s x. x)
    task_runs_one limit (Reported counted) = by_line cut (IsLaidOut counted.laid.layout (IsReply counted.laid.rule)) (laid_out_one counted.laid.layout (IsReply counted.laid.rule) (reply_one counted.laid.rule)) (limit_of limit) reported_per_byte reported_extra (TaskRuns limit (Reported counted)) (λ before after s x. x)
    task_runs_one limit (Ask form question) = by_line cut (IsLineBlock form question) (line_block_one form question) (limit_of limit) 26 3307 (TaskRuns limit (Ask form question)) (λ before after s x. x)
    task_runs_one limit (LaidOutAsk form question layout) = by_line cut (AnswersLaidOut layout (IsLineBlock form question)) (laid_answer_one layout (IsLineBlock form question) (line_block_one form question)) (limit_of limit) 26 3307 (TaskRuns limit (LaidOutAsk form question layout)) (λ before after s x. x)
    task_runs_one limit (Errors lines) = by_line cut (IsErrorLine lines) (laid_out_one lines.layout (IsErrorReply lines.settings) (error_reply_one lines.settings)) (limit_of limit) 11 1565 (TaskRuns limit (Errors lines)) (λ before after s x. x)
    task_runs_one limit Enclose = by_line cut enclose.IsAnswer enclose_one (limit_of limit) 16 1248 (TaskRuns limit Enclose) (λ before after s x. x)
    task_runs_one limit (LaidOutEnclose layout) = by_line cut (AnswersLaidOut layout enclose.IsAnswer) (laid_answer_one layout enclose.IsAnswer enclose_one) (limit_of limit) 16 1248 (TaskRuns limit (LaidOutEnclose layout)) (λ before after s x. x)
    task_runs_one limit (Least rule) = by_whole (IsLeastWritten rule) (least_written_one rule) (whole_limit_of limit) (TaskRuns limit (Least rule)) (λ before after s x. x)
    task_runs_one limit (LaidOutLeast rule layout) = by_whole (λ input. IsLeastWritten rule (laid_out (Some layout) input)) (λ input a b x y. least_written_one rule (laid_out (Some layout) input) a b x y) (whole_limit_of limit) (TaskRuns limit (LaidOutLeast rule layout)) (λ before after s x. x)
    task_runs_one limit (Constants rule) = by_whole (IsProduct (IsPlainAnswer (IsRenamedAnswer form))) (product_one (IsPlainAnswer (IsRenamedAnswer form)) plain)
        (whole_limit_of limit) (TaskRuns limit (Constants rule)) (λ before after s x. x)
      where
        form : List ℕ → AnswerText → Type 0
        form = constants.IsFormAnswer rule.form rule.guard.now

        plain : (input : List ℕ) (a b : AnswerText) → IsPlainAnswer (IsRenamedAnswer form) input a → IsPlainAnswer (IsRenamedAnswer form) input b → a ≡ b
        plain input a b x y = renamed_answer_one form (form_answer_one rule.form rule.guard.now) (plain_text input) a b x y
    task_runs_one limit Columns = by_whole columns.IsWholeAnswer columns_one (whole_limit_of limit) (TaskRuns limit Columns) (λ before after s x. x)

  by_radix : (args : List (String Global)) (r : Radix) → NamesRadix args r → RunsAreTheOnes (HasLeastRun args)
  by_radix args r names = by_whole (least.IsWholeAnswer r) (least_one r) least_most (HasLeastRun args) (λ before after s x. record {
    output = λ input left within calm. x.output r names input left within calm.0 calm.1;
    too_long = λ input left long calm. x.too_long r names input left long calm.0 calm.1;
    run = x.run r names;
    prefix_on_write_fault = λ is input answer left answers. x.prefix_on_write_fault r names is input answer left answers;
    asked = x.asked r names;
    failures = x.failures;
  })

  pub least_runs_one : LeastRunsAreTheOnes
  least_runs_one args = either report (HasLeastRun args) ((r : Radix) × NamesRadix args r) (λ (r, names). by_radix args r names)
      (λ none. by_usage least_usage (HasLeastRun args) (λ before after s x. x.usage (λ r names. none (r, names))))

  by_form : (args : List (String Global)) (f : Form) (g : List ℕ) → NamesForm args f g → RunsAreTheOnes (HasFormRun args)
  by_form args f g names = by_whole (constants.IsFormAnswer f g) (form_answer_one f g) form_most (HasFormRun args) (λ before after s x. record {
    output = λ input left within calm. x.output f g names input left within calm.0 calm.1;
    too_long = λ input left long calm. x.too_long f g names input left long calm.0 calm.1;
    run = x.run f g names;
    prefix_on_write_fault = λ is input answer left answers. x.prefix_on_write_fault f g names is input answer left answers;
    asked = x.asked f g names;
    failures = x.failures;
  })

  pub form_runs_one : FormRunsAreTheOnes
  form_runs_one args = either report (HasFormRun args) ((f : Form) × (g : List ℕ) × NamesForm args f g) (λ (f, g, names). by_form args f g names)
      (λ none. by_usage form_usage (HasFormRun args) (λ before after s x. x.usage (λ f g names. none (f, g, names))))

  by_limit : (args : List (String Global)) (limit : ℕ) → AsksWithin args limit → RunsAreTheOnes (HasColumnsRun args)
  by_limit args limit asks = by_whole columns.IsWholeAnswer columns_one limit (HasColumnsRun args) (λ before after s x. record {
    output = λ input left within calm. x.output limit asks input left within calm.0 calm.1;
    too_long = λ input left long calm. x.too_long limit asks input left long calm.0 calm.1;
    run = x.run limit asks;
    prefix_on_write_fault = λ is input answer left answers. x.prefix_on_write_fault limit asks is input answer left answers;
    asked = x.asked limit asks;
    failures = x.failures;
  })

  pub columns_runs_one : ColumnsRunsAreTheOnes
  columns_runs_one args = either report (HasColumnsRun args) ((limit : ℕ) × AsksWithin args limit) (λ (limit, asks). by_limit args limit asks)
      (λ none. by_usage columns_usage (HasColumnsRun args) (λ before after s x. x.usage (λ limit asks. none (limit, asks))))
