-- The tasks that the words of a command line ask for, by the layout of their lines.
use Rattle.std.specs.Prelude.{◌≡◌, None, Option, Some}
use Rattle.command_line.specs.declared.given.Given.{Given}
use Rattle.fixed_command.specs.Layout.{LineLayout}
use Rattle.fixed_command.specs.declared.task.Task.{Task}
use Rattle.fixed.specs.Lines.{IsLayoutIfAsked}

-- the task for lines of this layout, if there is one
abbrev pub by_layout : Task → (LineLayout → Task) → Option LineLayout → Task
by_layout plain laid None = plain
by_layout plain laid (Some layout) = laid layout

-- the first task or, if an option of a layout is given, the one for lines of that layout
pub record IsTaskByLayout (plain : Task) (laid : LineLayout → Task) (given : Given) (task : Task) : Type 0 where
  pub layout : Option LineLayout
  pub is_layout : IsLayoutIfAsked given layout
  pub task_is : task ≡ by_layout plain laid layout
