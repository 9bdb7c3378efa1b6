use Rattle.cs_index.proofs.writing.strings.none_covers_another.Goals as goal

pub is_alone-requires : goal.is_alone-requires
is_alone-requires c = c.requires
