use Rattle.cs_index.proofs.reading.postings.+groups.Given as goal

abbrev pub decreases-groups : goal.decreases-groups
decreases-groups l = l.room
