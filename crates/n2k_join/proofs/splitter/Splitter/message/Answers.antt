use Rattle.std.proofs.Common.{arith}
use Rattle.n2k_join.proofs.InPlaceFrames.{few_frames}
use Rattle.n2k_join.proofs.splitter.Splitter.message.Goals as goal

pub append_frames-requires : goal.append_frames-requires
append_frames-requires c = grind (arith, few_frames)
