use Rattle.fixed_command.proofs.task.run_task.Goals as goal

pub returns-in-Lines-clause-run : goal.returns-in-Lines-clause-run
returns-in-Lines-clause-run g c = rw c.in-Lines.is c.run_words.ensures.run

pub returns-in-Convert-clause-run : goal.returns-in-Convert-clause-run
returns-in-Convert-clause-run g c = rw c.in-Convert.is c.run_convert.ensures.run

pub returns-in-Enclose-clause-run : goal.returns-in-Enclose-clause-run
returns-in-Enclose-clause-run g c = rw c.in-Enclose.is c.run_enclosures.ensures.run

pub returns-in-Least-clause-run : goal.returns-in-Least-clause-run
returns-in-Least-clause-run g c = rw c.in-Least.is c.run_least.ensures.run

pub returns-in-Constants-clause-run : goal.returns-in-Constants-clause-run
returns-in-Constants-clause-run g c = rw c.in-Constants.is c.run_constants.ensures.run

pub returns-in-Columns-clause-run : goal.returns-in-Columns-clause-run
returns-in-Columns-clause-run g c = rw c.in-Columns.is c.run_cells.ensures.run

pub returns-in-LaidOut-clause-run : goal.returns-in-LaidOut-clause-run
returns-in-LaidOut-clause-run g c = rw c.in-LaidOut.is c.run_laid_out.ensures.run

pub returns-in-Reported-clause-run : goal.returns-in-Reported-clause-run
returns-in-Reported-clause-run g c = rw c.in-Reported.is c.run_reported.ensures.run

pub returns-in-Ask-clause-run : goal.returns-in-Ask-clause-run
returns-in-Ask-clause-run g c = rw c.in-Ask.is c.run_questions.ensures.run

pub returns-in-Errors-clause-run : goal.returns-in-Errors-clause-run
returns-in-Errors-clause-run g c = rw c.in-Errors.is c.run_errors.ensures.run

pub returns-in-LaidOutAsk-clause-run : goal.returns-in-LaidOutAsk-clause-run
returns-in-LaidOutAsk-clause-run g c = rw c.in-LaidOutAsk.is c.run_laid_questions.ensures.run

pub returns-in-LaidOutLeast-clause-run : goal.returns-in-LaidOutLeast-clause-run
returns-in-LaidOutLeast-clause-run g c = rw c.in-LaidOutLeast.is c.run_laid_least.ensures.run

pub returns-in-LaidOutLines-clause-run : goal.returns-in-LaidOutLines-clause-run
returns-in-LaidOutLines-clause-run g c = rw c.in-LaidOutLines.is c.run_laid_words.ensures.run

pub returns-in-LaidOutEnclose-clause-run : goal.returns-in-LaidOutEnclose-clause-run
returns-in-LaidOutEnclose-clause-run g c = rw c.in-LaidOutEnclose.is c.run_laid_enclosures.ensures.run

pub returns-in-Lines-clause-reports : goal.returns-in-Lines-clause-reports
returns-in-Lines-clause-reports g c = rw c.in-Lines.is c.run_words.ensures.reports

pub returns-in-Convert-clause-reports : goal.returns-in-Convert-clause-reports
returns-in-Convert-clause-reports g c = rw c.in-Convert.is c.run_convert.ensures.reports

pub returns-in-LaidOut-clause-reports : goal.returns-in-LaidOut-clause-reports
returns-in-LaidOut-clause-reports g c = rw c.in-LaidOut.is c.run_laid_out.ensures.reports

pub returns-in-Reported-clause-reports : goal.returns-in-Reported-clause-reports
returns-in-Reported-clause-reports g c = rw c.in-Reported.is c.run_reported.ensures.reports

pub returns-in-Errors-clause-reports : goal.returns-in-Errors-clause-reports
returns-in-Errors-clause-reports g c = rw c.in-Errors.is c.run_errors.ensures.reports

pub returns-in-Enclose-clause-reports : goal.returns-in-Enclose-clause-reports
returns-in-Enclose-clause-reports g c = rw c.in-Enclose.is c.run_enclosures.ensures.reports

pub returns-in-LaidOutLines-clause-reports : goal.returns-in-LaidOutLines-clause-reports
returns-in-LaidOutLines-clause-reports g c = rw c.in-LaidOutLines.is c.run_laid_words.ensures.reports

pub returns-in-LaidOutEnclose-clause-reports : goal.returns-in-LaidOutEnclose-clause-reports
returns-in-LaidOutEnclose-clause-reports g c = rw c.in-LaidOutEnclose.is c.run_laid_enclosures.ensures.reports

pub returns-in-Ask-clause-reports : goal.returns-in-Ask-clause-reports
returns-in-Ask-clause-reports g c = rw c.in-Ask.is c.run_questions.ensures.reports

pub returns-in-LaidOutAsk-clause-reports : goal.returns-in-LaidOutAsk-clause-reports
returns-in-LaidOutAsk-clause-reports g c = rw c.in-LaidOutAsk.is c.run_laid_questions.ensures.reports

pub returns-in-Lines-clause-rejects : goal.returns-in-Lines-clause-rejects
returns-in-Lines-clause-rejects g c = rw c.in-Lines.is c.run_words.ensures.rejects

pub returns-in-Convert-clause-rejects : goal.returns-in-Convert-clause-rejects
returns-in-Convert-clause-rejects g c = rw c.in-Convert.is c.run_convert.ensures.rejects

pub returns-in-LaidOut-clause-rejects : goal.returns-in-LaidOut-clause-rejects
returns-in-LaidOut-clause-rejects g c = rw c.in-LaidOut.is c.run_laid_out.ensures.rejects

pub returns-in-Reported-clause-rejects : goal.returns-in-Reported-clause-rejects
returns-in-Reported-clause-rejects g c = rw c.in-Reported.is c.run_reported.ensures.rejects

pub returns-in-Errors-clause-rejects : goal.returns-in-Errors-clause-rejects
returns-in-Errors-clause-rejects g c = rw c.in-Errors.is c.run_errors.ensures.rejects

pub returns-in-Enclose-clause-rejects : goal.returns-in-Enclose-clause-rejects
returns-in-Enclose-clause-rejects g c = rw c.in-Enclose.is c.run_enclosures.ensures.rejects

pub returns-in-LaidOutLines-clause-rejects : goal.returns-in-LaidOutLines-clause-rejects
returns-in-LaidOutLines-clause-rejects g c = rw c.in-LaidOutLines.is c.run_laid_words.ensures.rejects

pub returns-in-LaidOutEnclose-clause-rejects : goal.returns-in-LaidOutEnclose-clause-rejects
returns-in-LaidOutEnclose-clause-rejects g c = rw c.in-LaidOutEnclose.is c.run_laid_enclosures.ensures.rejects

pub returns-in-Least-clause-reports : goal.returns-in-Least-clause-reports
returns-in-Least-clause-reports g c = rw c.in-Least.is (λ some. c.run_least.ensures.reports)

pub returns-in-LaidOutLeast-clause-reports : goal.returns-in-LaidOutLeast-clause-reports
returns-in-LaidOutLeast-clause-reports g c = rw c.in-LaidOutLeast.is (λ some. c.run_laid_least.ensures.reports)

pub returns-in-Constants-clause-reports : goal.returns-in-Constants-clause-reports
returns-in-Constants-clause-reports g c = rw c.in-Constants.is (λ some. c.run_constants.ensures.reports)

pub returns-in-Columns-clause-reports : goal.returns-in-Columns-clause-reports
returns-in-Columns-clause-reports g c = rw c.in-Columns.is (λ some. c.run_cells.ensures.reports)
