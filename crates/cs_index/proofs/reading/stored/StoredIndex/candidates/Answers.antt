use Rattle.std.proofs.Common.{sym, subst}
use Rattle.cs_index.specs.Stored.{StandsIn, StoredParts}
use Rattle.cs_index.proofs.candidates.PageLemmas.{all_read}
use Rattle.cs_index.proofs.reading.stored.StoredIndex.candidates.Goals as goal

pub returns-clause-answers : goal.returns-clause-answers
returns-clause-answers g c bytes m parts stands' =
    let stands = subst (λ (p : StoredParts). StandsIn bytes p parts) (sym c.self.view_is) stands' in
    all_read parts c.args.query.now c.self.inside.name_count c.candidates_in.result stands.names
    (c.candidates_in.ensures.answers bytes m parts _ stands)
