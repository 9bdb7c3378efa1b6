use Rattle.cs_merge.proofs.replacing.is_whole_stored.Goals as goal

pub returns-clause-whole : goal.returns-clause-whole
returns-clause-whole g c bytes m parts tables =
    c.is_whole_from.ensures.whole (λ held known. c.new-reader.ensures held) parts (record { bytes = bytes; known = m; tables_are = tables })
