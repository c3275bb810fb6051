use Rattle.n2kdec.proofs.save.destination.+link_target.Given as goal

abbrev pub decreases-link_target : goal.decreases-link_target
decreases-link_target g l = l.looks
