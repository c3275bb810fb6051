-- Devices in memory: which bytes they have, how many a call moves, and which call fails.
use Rattle.std.specs.Prelude.{◌-◌, ℕ, List, ◌++◌, drop}
use Rattle.n2k_run.specs.Device.{one_more}

-- a source in memory
pub record Supply : Type 0 where
  -- the remaining bytes
  pub left : List ℕ
  -- the most bytes of a call
  pub chunk : ℕ
  -- which call from here on fails, counted from 1; 0 if none does
  pub fails_at : ℕ
  -- the number of calls
  pub calls : ℕ
  -- the number of failed calls
  pub failed_calls : ℕ

-- a sink in memory
pub record Store : Type 0 where
  -- the bytes that the sink contains
  pub held : List ℕ
  -- the most bytes of a call
  pub chunk : ℕ
  -- which call from here on fails, counted from 1; 0 if none does
  pub fails_at : ℕ
  -- the number of failed calls
  pub failed_calls : ℕ

-- the source after a call that gave its first n bytes
abbrev pub after_read : Supply → ℕ → Supply
after_read source n =
    record source { left = drop n source.left; fails_at = source.fails_at - 1; calls = one_more source.calls }

-- the source after a call that failed
abbrev pub after_failed_read : Supply → Supply
after_failed_read source =
    record source {
      fails_at = source.fails_at - 1;
      calls = one_more source.calls;
      failed_calls = one_more source.failed_calls;
    }

-- the sink after a call that took these bytes
abbrev pub after_write : Store → List ℕ → Store
after_write sink taken = record sink { held = sink.held ++ taken; fails_at = sink.fails_at - 1 }

-- the sink after a call that failed
abbrev pub after_failed_write : Store → Store
after_failed_write sink = record sink { fails_at = sink.fails_at - 1; failed_calls = one_more sink.failed_calls }
