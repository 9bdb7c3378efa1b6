use Rattle.std.proofs.Common.{◌+◌, [], ◌∷◌, List, ℕ, get_or, refl, arith}
use Rattle.cs_match.specs.Lanes.{IsChunk, IsCut}
use Rattle.cs_match.proofs.ChunkLemmas.{four}
use Rattle.cs_match.proofs.WholeLineLemmas.{whole_from}
use Rattle.cs_match.proofs.lanes.four_chunks.Goals as goal

pub cut-b-requires-clause-whole : goal.cut-b-requires-clause-whole
cut-b-requires-clause-whole c = whole_from c.args.block.now c.args.from c.cut-a.result c.cut-a.ensures.chunk.lines.low c.requires.whole

pub cut-c-requires-clause-whole : goal.cut-c-requires-clause-whole
cut-c-requires-clause-whole c = whole_from c.args.block.now c.args.from c.cut-b.result
    (omega (arith, c.cut-a.ensures.chunk.lines.low, c.cut-b.ensures.chunk.lines.low)) c.requires.whole

pub cut-d-requires-clause-whole : goal.cut-d-requires-clause-whole
cut-d-requires-clause-whole c = whole_from c.args.block.now c.args.from c.cut-c.result
    (omega (arith, c.cut-a.ensures.chunk.lines.low, c.cut-b.ensures.chunk.lines.low, c.cut-c.ensures.chunk.lines.low)) c.requires.whole

pub returns-clause-cuts : goal.returns-clause-cuts
returns-clause-cuts c =
    let cuts : List ℕ = c.args.from ∷ c.cut-a.result ∷ c.cut-b.result ∷ c.cut-c.result ∷ c.cut-d.result ∷ [] in
    record {
      first = refl;
      each = four (λ k. IsCut c.args.block.now c.args.size (get_or cuts k 0) (get_or cuts (k + 1) 0))
          c.cut-a.ensures.cut c.cut-b.ensures.cut c.cut-c.ensures.cut c.cut-d.ensures.cut;
    }

pub returns-clause-chunks : goal.returns-clause-chunks
returns-clause-chunks c =
    let cuts : List ℕ = c.args.from ∷ c.cut-a.result ∷ c.cut-b.result ∷ c.cut-c.result ∷ c.cut-d.result ∷ [] in
    four (λ k. IsChunk c.args.block.now (c.args.size + 1) (get_or cuts k 0) (get_or cuts (k + 1) 0))
    c.cut-a.ensures.chunk c.cut-b.ensures.chunk c.cut-c.ensures.chunk c.cut-d.ensures.chunk
