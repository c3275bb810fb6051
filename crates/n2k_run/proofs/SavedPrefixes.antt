-- The state saved after a prefix of a log reads back.
use Rattle.std.proofs.Common.{arith, ◌≡◌, ℕ, ◌≤◌, List, [], ◌∷◌, map, length, Some, Ok, All, Option}
use Rattle.std.proofs.lemmas.List.Elements.{All-nil}
use Rattle.n2k_wire.specs.declared.entry.Entry.{Entry}
use Rattle.n2k_wire.specs.declared.entry.Packing.{Packing}
use Rattle.n2k_wire.specs.Entry.{entry, IsEntry}
use Rattle.n2k_table.specs.declared.definition.Kind.{Kind}
use Rattle.n2k_table.specs.Table.{TableParts, kind}
use Rattle.n2k_join.specs.Counts.{most_lines}
use Rattle.n2k_join.specs.Resumed.{resumed}
use Rattle.n2k_join.specs.Saved.{IsId, state_text}
use Rattle.n2k_join.specs.State.{state}
use Rattle.n2k_join.specs.Window.{Window, IsWindow}
use Rattle.n2k_run.specs.declared.options.Options.{Options}
use Rattle.n2k_run.specs.Entries.{entries}
use Rattle.n2k_run.specs.Lines.{lines}
use Rattle.n2k_run.specs.Headline.{save, state_after}
use Rattle.n2k_run.specs.Parts.{begun}

-- the laws that it follows from
pub record SavedLaws : Type 0 where
  pub are_entries : (line : List ℕ) (packing : Packing) → IsEntry (entry line packing)
  pub log_back : (kind : ℕ → Option Kind) (id : List ℕ) (w : Window) (es : List Entry) → IsWindow w.lines → IsId id → All IsEntry es → length es ≤ most_lines → resumed kind id w (state_text (state id w kind es)) ≡ Ok (state id w kind es)

all_are : SavedLaws → (packing : Packing) (texts : List (List ℕ)) → All IsEntry (map (λ line. entry line packing) texts)
all_are laws packing [] = All-nil IsEntry
all_are laws packing (text ∷ texts) = grind (arith, all_are laws packing texts)

pub prefix_back : SavedLaws → (t : TableParts) (o : Options) (prefix : List ℕ) → IsWindow o.window.lines → IsId t.id → length (entries o.packing prefix) ≤ most_lines → begun t o (Some (save t o prefix)) ≡ Ok (state_after t o prefix)
unfolding save
prefix_back laws t o prefix window id few = laws.log_back (kind t) t.id o.window (entries o.packing prefix) window id (all_are laws o.packing (lines prefix)) few
