-- What a handle represents: the bytes of a log that it was fed, and the texts that were taken out of it.
use Rattle.std.specs.Prelude.{◌≡◌, ℕ, Bool, true, false, List, ◌++◌, if◌then◌else◌}
use Rattle.n2k_table.specs.Table.{TableParts}
use Rattle.n2k_run.specs.Headline.{state_after}
use Rattle.n2k_run.specs.Lines.{whole_lines}
use Rattle.n2k_c.specs.declared.decoder.Decoder.{Decoder}
use Rattle.n2k_c.specs.declared.work.Work.{Work}
use Rattle.n2k_c.specs.declared.work.Work.TheVariants.{Decodes, Encodes}
use Rattle.n2k_c.specs.Job.{AreCounts, AreReports, IsOutput, Job, decoding, encoding}

-- the bytes whose lines were taken of what was fed: those of the whole lines, and once the log has ended all
abbrev pub taken_of : Bool → List ℕ → List ℕ
taken_of ended fed = if ended then fed else whole_lines fed

-- whether it encodes
abbrev pub is_encoder : Work → Bool
is_encoder (Decodes d) = false
is_encoder (Encodes e) = true

-- The work after these bytes: the join of a decoder is in their state, and an encoder has counted their lines.
abbrev pub IsAfter : TableParts → Job → List ℕ → Work → Type 0
IsAfter t (decoding o) taken (Decodes d) =
    (d.packing ≡ o.packing) × (d.empty ≡ o.empty) × (d.join ≡ state_after t o taken)
IsAfter t (encoding nearest) taken (Encodes e) = (e.nearest ≡ nearest) × AreCounts t (encoding nearest) taken e.counts
IsAfter t job taken _ = ⊥

-- With this table, this job has taken these bytes: their output and reports are what was printed and reported, and then
-- what waits.
pub record HasTaken (t : TableParts) (job : Job) (taken printed reported : List ℕ) (d : Decoder) : Type 0 where
  pub table : d.table.value ≡ t
  pub leads_to : IsAfter t job taken d.work
  pub output : IsOutput t job taken (printed ++ d.output.held)
  pub reports : AreReports t job taken (reported ++ d.reports.held)

-- It was fed these bytes of a log, which has ended or not: of a log that goes on, a line that is cut waits.
pub record Stands (t : TableParts) (job : Job) (fed : List ℕ) (is_whole : Bool) (printed reported : List ℕ)
    (d : Decoder) : Type 0 where
  pub ended : d.ended ≡ is_whole
  pub fed_is : fed ≡ taken_of is_whole fed ++ d.cut.items
  pub taken : HasTaken t job (taken_of is_whole fed) printed reported d
