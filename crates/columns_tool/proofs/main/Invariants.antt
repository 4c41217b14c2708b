use Rattle.columns_tool.proofs.main.Given as goal

abbrev pub ghosts-run_tool : goal.ghosts-run_tool
ghosts-run_tool a = record { name = a.blank.name; parts = a.blank.parts }
