-- The numbers that calls answer.
use Rattle.std.specs.Prelude.{◌≡◌, ℤ, pos, Result, Ok, Err, MatchResult}
use Rattle.n2k_table.specs.declared.fault.TableFault.{TableFault}
use Rattle.n2k_table.specs.declared.fault.TableFault.TheVariants as of_table
use Rattle.n2k_join.specs.declared.fault.StateFault.{StateFault}
use Rattle.n2k_join.specs.declared.fault.StateFault.TheVariants as of_state
use Rattle.n2k_c.specs.declared.refusal.Refusal.{Refusal}
use Rattle.n2k_c.specs.declared.refusal.Refusal.TheVariants.{Room, Memory, Window, TooMuch, Closed, Open, Ended}
use Rattle.n2k_c.specs.declared.refusal.Refusal.TheVariants.{Reserved, Frame, Unfinished, Encoder}
use Rattle.n2k_c.specs.declared.refusal.Refusal.TheVariants.{Table, State}

-- a refused table: 100, and the number that the program's fault line has
abbrev pub table_code : TableFault → ℤ
table_code of_table.NotToml = pos 101
table_code of_table.Format = pos 102
table_code of_table.Key = pos 103
table_code of_table.Range = pos 104
table_code of_table.Text = pos 105
table_code of_table.Twice = pos 106
table_code of_table.Lookup = pos 107
table_code of_table.Mixed = pos 108
table_code of_table.TooMany = pos 109
table_code of_table.Memory = pos 110

-- a refused state: 200, and that number
abbrev pub state_code : StateFault → ℤ
state_code of_state.NotJson = pos 201
state_code of_state.Format = pos 202
state_code of_state.Shape = pos 203
state_code of_state.TableDiffers = pos 204
state_code of_state.Invalid = pos 205
state_code of_state.Memory = pos 206
state_code of_state.WindowDiffers = pos 207

abbrev pub code : Refusal → ℤ
code Room = pos 1
code Memory = pos 2
code Window = pos 3
code TooMuch = pos 4
code Closed = pos 5
code Open = pos 6
code Ended = pos 7
code Reserved = pos 8
code Frame = pos 9
code Unfinished = pos 10
code Encoder = pos 11
code (Table fault) = table_code fault
code (State fault) = state_code fault

-- 0, or the number of a refusal
abbrev pub answer_status : Result (Unit {0}) Refusal → ℤ
answer_status (Ok done) = pos 0
answer_status (Err refusal) = code refusal

-- Status 0 means that the call was done; any other says why not. No two results have one status (`statuses_differ`).
pub record StatusMeans (status : ℤ) (Done : Type 0) (Why : Refusal → Type 0) : Type 0 where
  pub answer : Result (Unit {0}) Refusal
  pub status_is : status ≡ answer_status answer
  pub says : MatchResult answer (λ _. Done) Why
