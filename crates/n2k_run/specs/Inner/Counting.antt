-- Runs whose only state is their counts.
use Rattle.std.specs.Prelude.{◌≤◌, ◌+◌, ℕ, Bool, if◌then◌else◌, List, length, count_by}
use Rattle.n2k_wire.specs.declared.entry.Entry.{Entry}
use Rattle.n2k_join.specs.declared.counts.Counts.{Counts}
use Rattle.n2k_join.specs.Counts.{most_lines}
use Rattle.n2k_run.specs.Entries.{is_bad}
use Rattle.n2k_run.specs.Fold.{Fold}
use Rattle.n2k_run.specs.Reports.{bad_report}

-- no count is above the number of lines, which is within the limit
pub record AreLineCounts (c : Counts) : Type 0 where
  pub few : c.lines ≤ most_lines
  pub messages : c.messages ≤ c.lines
  pub bad : c.bad ≤ c.lines
  pub unknown : c.unknown ≤ c.lines

-- the counts with one more entry
abbrev pub line_counts_after : (Entry → Bool) → (Entry → Bool) → Counts → Entry → Counts
line_counts_after is_message is_unknown c e = record c {
  lines = c.lines + 1;
  messages = c.messages + (if is_message e then 1 else 0);
  bad = c.bad + (if is_bad e then 1 else 0);
  unknown = c.unknown + (if is_unknown e then 1 else 0);
}

-- the counts with all of these
abbrev pub all_line_counts_after : (Entry → Bool) → (Entry → Bool) → Counts → List Entry → Counts
all_line_counts_after is_message is_unknown c es = record c {
  lines = c.lines + length es;
  messages = c.messages + count_by is_message es;
  bad = c.bad + count_by is_bad es;
  unknown = c.unknown + count_by is_unknown es;
}

-- each entry gives its own text, and a report if it is bad
abbrev pub counting_fold : (Entry → List ℕ) → (Entry → Bool) → (Entry → Bool) → Fold Counts
counting_fold text is_message is_unknown = record {
  text = λ c e. text e;
  report = λ c e. bad_report (c.lines + 1) e;
  after = line_counts_after is_message is_unknown;
  lines = λ c. c.lines;
}
