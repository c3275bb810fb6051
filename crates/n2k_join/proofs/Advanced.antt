-- The step on open groups as a program makes it: the group of the frame's key takes the frame, or goes, and a new one
-- may be opened.
use Rattle.std.proofs.Common.{cond, List, [], ◌∷◌, ◌++◌, Option, Some, None, option_to_list, filter_map}
use Rattle.n2k_join.specs.Frames.{same_key, Frame}
use Rattle.n2k_join.specs.Groups.{EndTest, complete}
use Rattle.n2k_join.specs.Open.{Group}
use Rattle.n2k_join.specs.State.{held_of}
pub use Rattle.n2k_join.specs.Inner.Stored.{with_frame, started, of_the_key}

-- the open group that remains of a group of the frame's key
abbrev pub joined : EndTest → Frame → Group → Option Group
joined ends x o = cond (ends (held_of o) x) None (cond (complete (held_of o ++ x ∷ [])) None (Some (with_frame o x)))

-- the open group that remains of a group
abbrev pub taken : EndTest → Frame → Group → Option Group
taken ends x o = cond (same_key x.key o.key) (joined ends x o) (Some o)

-- the group that a frame opens, given the open group of its key
abbrev pub opened : EndTest → Frame → Option Group → Option Group
opened ends x None = started x
opened ends x (Some o) = cond (ends (held_of o) x) (started x) None

-- the open groups after a frame
unfoldable pub advanced : EndTest → List Group → Frame → List Group
advanced ends groups x = filter_map (taken ends x) groups ++ option_to_list (opened ends x (of_the_key x.key groups))
