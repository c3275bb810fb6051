-- The result of taking an entry whose own packet becomes its message.
use Rattle.std.specs.Prelude.{is_some, Option, option_to_list}
use Rattle.n2k_wire.specs.Packet.{PacketParts}
use Rattle.n2k_join.specs.declared.entry_taking.Taken.{Taken}
use Rattle.n2k_join.specs.State.{Given}
use Rattle.n2k_join.specs.Step.{message_in}

-- the result of a taken entry that now has this packet
abbrev pub given_of_taken : Taken → Option PacketParts → Given
given_of_taken o own =
    record { message = message_in (is_some o.message) own; cause = o.bad; broken = option_to_list o.broken }
