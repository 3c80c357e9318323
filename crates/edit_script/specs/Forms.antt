-- The form of lines that a first word names: how many numbers follow it, and what the line asks for. The table is
-- the constant FORMS of the code, which code and definitions both read.
use Rattle.std.specs.Prelude.{ℕ, ◌==◌, Bool, if◌then◌else◌, Option, List, [], ◌∷◌, get_or}
use Rattle.std.specs.List.{find}
use Rattle.std.specs.Str.{bytes_eq}
use Rattle.khe_base.specs.declared.numbers.GroupId.{GroupId}
use Rattle.khe_base.specs.declared.numbers.MeetId.{MeetId}
use Rattle.khe_base.specs.declared.numbers.MonitorId.{MonitorId}
use Rattle.khe_base.specs.declared.numbers.ResourceId.{ResourceId}
use Rattle.khe_base.specs.declared.numbers.TaskId.{TaskId}
use Rattle.khe_base.specs.declared.numbers.TimeId.{TimeId}
use Rattle.khe_told.specs.declared.edits.Edit.{Edit}
use Rattle.khe_told.specs.declared.edits.Edit.TheVariants as edit
use Rattle.edit_script.specs.declared.commands.Command.{Command}
use Rattle.edit_script.specs.declared.commands.Command.TheVariants as command
use Rattle.edit_script.specs.declared.commands.Form.{Form}
use Rattle.edit_script.specs.declared.commands.TheConstants.{FORMS}

-- a name without the spaces after it
abbrev pub before_space : List ℕ → List ℕ
before_space [] = []
before_space (byte ∷ more) = if byte == 32 then [] else byte ∷ before_space more

abbrev pub is_named : List ℕ → Form → Bool
is_named word form = bytes_eq (before_space form.0) word

-- the one among these whose name is this word
unfoldable pub form_among : List Form → List ℕ → Option Form
form_among forms word = find (is_named word) forms

-- the form whose name is this word
unfoldable pub form_of : List ℕ → Option Form
form_of word = form_among FORMS word

-- a meet, a task, a time, a resource, a monitor and a group by their numbers
abbrev pub meet : ℕ → MeetId
meet m = record { 0 = m }

abbrev pub task : ℕ → ℕ → TaskId
task m p = record { meet = meet m; place = p }

abbrev pub time : ℕ → TimeId
time t = record { 0 = t }

abbrev pub resource : ℕ → ResourceId
resource r = record { 0 = r }

abbrev pub monitor : ℕ → MonitorId
monitor v = record { 0 = v }

abbrev pub group : ℕ → GroupId
group g = record { 0 = g }

-- the numbers at places
abbrev pub number_at : List ℕ → ℕ → ℕ
number_at ns place = get_or ns place 0

abbrev pub meet_at : List ℕ → MeetId → MeetId
meet_at ns m = meet (number_at ns m.0)

abbrev pub time_at : List ℕ → TimeId → TimeId
time_at ns t = time (number_at ns t.0)

abbrev pub task_at : List ℕ → TaskId → TaskId
task_at ns t = record { meet = meet_at ns t.meet; place = number_at ns t.place }

abbrev pub resource_at : List ℕ → ResourceId → ResourceId
resource_at ns r = resource (number_at ns r.0)

abbrev pub monitor_at : List ℕ → MonitorId → MonitorId
monitor_at ns v = monitor (number_at ns v.0)

abbrev pub group_at : List ℕ → GroupId → GroupId
group_at ns g = group (number_at ns g.0)

-- an edit with the numbers at its places
unfoldable pub edit_at : List ℕ → Edit → Edit
edit_at ns (edit.Assign m t) = edit.Assign (meet_at ns m) (time_at ns t)
edit_at ns (edit.Unassign m) = edit.Unassign (meet_at ns m)
edit_at ns (edit.MoveTo m t) = edit.MoveTo (meet_at ns m) (time_at ns t)
edit_at ns (edit.Split m c) = edit.Split (meet_at ns m) (number_at ns c)
edit_at ns (edit.Merge m n) = edit.Merge (meet_at ns m) (meet_at ns n)
edit_at ns (edit.SwapMeets m n) = edit.SwapMeets (meet_at ns m) (meet_at ns n)
edit_at ns (edit.Give t r) = edit.Give (task_at ns t) (resource_at ns r)
edit_at ns (edit.Take t) = edit.Take (task_at ns t)
edit_at ns (edit.Regive t r) = edit.Regive (task_at ns t) (resource_at ns r)
edit_at ns (edit.SwapTasks t u) = edit.SwapTasks (task_at ns t) (task_at ns u)
edit_at ns (edit.Attach v) = edit.Attach (monitor_at ns v)
edit_at ns (edit.Detach v) = edit.Detach (monitor_at ns v)
edit_at ns edit.MakeGroup = edit.MakeGroup
edit_at ns (edit.DropGroup g) = edit.DropGroup (group_at ns g)
edit_at ns (edit.AddChild g v) = edit.AddChild (group_at ns g) (monitor_at ns v)
edit_at ns (edit.RemoveChild g v) = edit.RemoveChild (group_at ns g) (monitor_at ns v)

-- what a line asks for: the command of its form with the numbers at its places
unfoldable pub command_at : List ℕ → Command → Command
command_at ns (command.Edit e) = command.Edit (edit_at ns e)
command_at ns (command.UndoTo place) = command.UndoTo (number_at ns place)
command_at ns (command.AskAbout subject place) = command.AskAbout subject (number_at ns place)
command_at ns c = c
