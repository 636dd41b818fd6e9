use Rattle.ring_runtime.proofs.turns_side_by_side.+work_dealt.Given as goal

abbrev pub decreases-work_dealt : goal.decreases-work_dealt
decreases-work_dealt g l = l.left
