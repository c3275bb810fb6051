use denote.Param.Send.{sendable}
use Rattle.n2k_c.proofs.raw_decoder.RawDecoder.TheSendSync.{the_send}
use Rattle.n2k_c.proofs.laws.handles_cross_threads.Goals as goal

-- src/laws.rt:6:1
pub returns : goal.returns
returns c = search (sendable, the_send)
