use Rattle.std.proofs.Common.{◌≤◌, ◌+◌, ◌∙◌, ℕ, List, [], length, take, drop, arith, subst, length-take, Ok, Err}
use Rattle.cs_trigram.specs.Position.{Validates}
use Rattle.cs_trigram.specs.SeenTrigrams.{numbers_of}
use Rattle.cs_trigram.specs.Trigram.{set_of_numbers}
use Rattle.cs_trigram.proofs.ScanLemmas.{HasReadText-more, IsScanOf-broken, ConsumesAtMost-more}
use Rattle.cs_trigram.proofs.scanner.read_to_end.Goals as goal

pub chunks-preserved : goal.chunks-preserved
chunks-preserved g c =
    let block : List ℕ = take c.in-Ok.n (drop 2 c.read_block.new.buffer) in
    record {
      room = omega (arith, c.carry.auto.buffer, c.read_block.auto.buffer, c.chunks.invariant.room);
      reads = HasReadText-more c.args.limits.now (g.R.Source.model c.args.source.now) (g.R.Source.model c.chunks.source)
          (g.R.Source.model c.read_block.new.source) c.chunks.position c.in-Ok-validate.next c.chunks.found
          c.add_block.new.self
          c.chunks.buffer c.read_block.new.buffer c.carry.new.buffer block c.with_two_before.result.now
          c.chunks.invariant.reads c.in-Ok.ensures.bytes.0 c.in-Ok.ensures.prefix
          (λ prefix is_after. subst (λ (bs : List ℕ). Validates c.args.limits.now prefix bs (Ok c.in-Ok-validate.next))
          c.block.ensures (c.in-Ok-validate.ensures.rule prefix is_after))
          c.with_two_before.ensures.bytes c.add_block.ensures c.carry.ensures;
      count = c.in-Ok-validate.ensures.count.1;
      column = c.in-Ok-validate.ensures.column;
      failed = c.in-Ok.ensures.failed ∙ c.chunks.invariant.failed;
      keeps = g.met.R.Source.keeps_trans _ _ _ c.chunks.invariant.keeps c.in-Ok.ensures.keeps;
    }

pub returns-in-Err-clause-model : goal.returns-in-Err-clause-model
returns-in-Err-clause-model g c =
    IsScanOf-broken (λ _. set_of_numbers (numbers_of c.chunks.found)) c.args.limits.now
    (g.R.Source.model c.args.source.now) (g.R.Source.model c.chunks.source) (g.R.Source.model c.read_block.new.source)
    c.chunks.position c.chunks.found c.chunks.buffer
    (take c.in-Ok.n (drop 2 c.read_block.new.buffer)) c.in-Err.reason c.chunks.invariant.reads c.in-Ok.ensures.bytes.0
    (λ prefix is_after. subst (λ (bs : List ℕ). Validates c.args.limits.now prefix bs (Err c.in-Err.reason))
    c.block.ensures (c.in-Err.ensures.rule prefix is_after))

pub returns-in-Err-clause-bounded : goal.returns-in-Err-clause-bounded
returns-in-Err-clause-bounded g c =
    let block : List ℕ = take c.in-Ok.n (drop 2 c.read_block.new.buffer) in
    let bounded : c.chunks.position.count + length block ≤ c.args.limits.now.bytes + 1 =
    omega (
      arith,
      length-take c.in-Ok.n (drop 2 c.read_block.new.buffer),
      c.in-Ok.ensures.within,
      c.min-room.ensures,
      c.chunks.invariant.count,
    )
    in
    ConsumesAtMost-more c.args.limits.now (g.R.Source.model c.args.source.now) (g.R.Source.model c.chunks.source)
    (g.R.Source.model c.read_block.new.source) c.chunks.position c.chunks.found c.chunks.buffer [] block
    c.chunks.invariant.reads c.in-Ok.ensures.bytes.0 bounded

pub returns-in-Err-clause-keeps : goal.returns-in-Err-clause-keeps
returns-in-Err-clause-keeps g c = g.met.R.Source.keeps_trans _ _ _ c.chunks.invariant.keeps c.in-Ok.ensures.keeps
