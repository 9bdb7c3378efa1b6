use Rattle.std.proofs.Common.{rules, ◌≡◌, ap, map, ◌∙◌, arith}
use Rattle.cs_fakes.specs.MemTrees.{pair_of}
use Rattle.cs_fakes.specs.MemItems.{unlisted_pair}
use Rattle.cs_fakes.proofs.MemItemLemmas.{changed_more}
use Rattle.cs_fakes.proofs.mem_items.unlist_all.Goals as goal

pub loop-i-preserved : goal.loop-i-preserved
loop-i-preserved c = record {
  whole = search rules;
  left = let here : pair_of c.unlist.new.self ≡ unlisted_pair c.args.path.now (pair_of c.index_mut.result.now) =
      cc (c.unlist.ensures.path, c.unlist.ensures.item) in
      changed_more pair_of (unlisted_pair c.args.path.now) (map pair_of c.args.items.now.items) c.loop-i.items.items
      c.loop-i.i c.unlist.new.self c.index_mut.result.now (omega arith) c.loop-i.invariant.left
      (here ∙ ap (λ s. unlisted_pair c.args.path.now (pair_of s)) c.index_mut.ensures.value);
}
