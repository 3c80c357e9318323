-- The directory of an instance: the Ids of its parts, each list in the order of the text.
use Rattle.std.specs.Prelude.{◌≡◌, ◌<◌, ◌^◌, [], length}
use Rattle.xhstt_references.specs.Ids.{time_group_ids, week_ids, day_ids, time_ids, resource_type_ids}
use Rattle.xhstt_references.specs.Ids.{resource_group_ids, resource_ids, event_group_ids, course_ids, event_ids}
use Rattle.xhstt_references.specs.declared.directories.Directory.{Directory}
use Rattle.xhstt_references.specs.declared.part_names.PartNames.{PartNames}
use Rattle.xhstt_shape.specs.declared.records.RawInstance.{RawInstance}

abbrev pub directory_of : RawInstance → Directory
directory_of i = record {
  time_groups = time_group_ids i;
  weeks = week_ids i;
  days = day_ids i;
  times = time_ids i;
  resource_types = resource_type_ids i;
  resource_groups = resource_group_ids i;
  resources = resource_ids i;
  event_groups = event_group_ids i;
  courses = course_ids i;
  events = event_ids i;
}

abbrev pub IsDirectoryOf : RawInstance → Directory → Type 0
IsDirectoryOf i d = d ≡ directory_of i

-- what solutions name: the Ids of times, resources and events alone
abbrev pub named_in : Directory → Directory
named_in d = record {
  time_groups = [];
  weeks = [];
  days = [];
  times = d.times;
  resource_types = [];
  resource_groups = [];
  resources = d.resources;
  event_groups = [];
  courses = [];
  events = d.events;
}

-- the names of an instance that its solutions use, which may be taken from its directory
abbrev pub part_names : RawInstance → PartNames
part_names i = record { times = time_ids i; resources = resource_ids i; events = event_ids i }

abbrev pub names_in : Directory → PartNames
names_in d = record { times = d.times; resources = d.resources; events = d.events }

abbrev pub no_parts : PartNames
no_parts = record { times = []; resources = []; events = [] }

-- each sort of parts is numbered in 32 bits
pub record AreFew (n : PartNames) : Type 0 where
  pub times : length n.times < 2 ^ 32
  pub resources : length n.resources < 2 ^ 32
  pub events : length n.events < 2 ^ 32

-- the directory of these names alone
abbrev pub named_by : PartNames → Directory
named_by n = record {
  time_groups = [];
  weeks = [];
  days = [];
  times = n.times;
  resource_types = [];
  resource_groups = [];
  resources = n.resources;
  event_groups = [];
  courses = [];
  events = n.events;
}
