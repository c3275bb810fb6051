use Rattle.std.proofs.Common.{◌≡◌, ◌+◌, ◌-◌, ◌≤◌, ◌++◌, length, take, vec_len, vec_capacity}
use Rattle.n2k_join.proofs.splitter.append_frames.Given as goal

abbrev pub invariant-loop-number : goal.invariant-loop-number
invariant-loop-number l = record {
  frames : l.packets.items ≡ l.initial.packets.items ++ take l.number l.frames;
  room : vec_len l.packets + (length l.frames - l.number) ≤ vec_capacity l.packets;
}
