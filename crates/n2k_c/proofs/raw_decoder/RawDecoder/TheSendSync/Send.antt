-- A decoder may go to another thread, because each of its fields may. So may whatever owns the decoder.
use denote.Struct.Declared.{shape}
use denote.Param.Send.{IsSend, owning_send, recorded_send, sendable, struct_send}
use Rattle.std.proofs.Crossing.{Arc-send, crosses}
use Rattle.n2k_table.specs.contracts.table.Table.{the_row as table}
use Rattle.n2k_table.proofs.table.Table.TheSendSync.{the_send as table_send, the_sync as table_sync}
use Rattle.n2k_c.specs.contracts.decoder.Decoder as kept
use Rattle.n2k_c.specs.contracts.raw_decoder.RawDecoder.{the_row, the_type}
use Rattle.n2k_c.proofs.queue.Queue.TheSendSync.{the_send as queue_send}
use Rattle.n2k_c.proofs.work.Work.TheSendSync.{the_field_send as work_send}
use Rattle.n2k_c.proofs.Sent.{owned_keyless}

kept_send : IsSend kept.the_row
kept_send = recorded_send kept.the_field.row _ _ kept.the_type.to_one
    (struct_send (shape kept.the_type) ((Arc-send table table_send table_sync, (work_send, search (sendable, crosses, queue_send) depth 40))))

pub send : IsSend the_row
send = owning_send the_type (search sendable, tt) (λ h. owned_keyless kept.the_row kept_send h.at h.holds) (λ k x w. tt)
