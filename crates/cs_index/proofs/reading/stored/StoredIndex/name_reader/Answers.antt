use Rattle.std.proofs.Common.{sym, subst}
use Rattle.cs_index.specs.Stored.{StandsIn, StoredParts}
use Rattle.cs_index.proofs.reading.stored.StoredIndex.name_reader.Goals as goal

pub returns : goal.returns
returns c bytes parts stands =
    c.new.ensures bytes parts c.args.self.now.paths
    (subst (λ (p : StoredParts). StandsIn bytes
    (record { paths = c.args.self.now.paths; name_count = p.name_count; starts = p.starts }) parts) (sym c.self.view_is)
    stands)
