use Rattle.cs_merge.proofs.merging_trigrams.are_valid.Goals as goal

pub returns-clause-parts : goal.returns-clause-parts
returns-clause-parts c model parts is = c.are_valid.ensures.parts is.bytes parts is.tables_are
