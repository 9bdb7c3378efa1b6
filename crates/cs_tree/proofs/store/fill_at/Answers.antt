use Rattle.std.proofs.Common.{rules}
use Rattle.cs_tree.proofs.FillLemmas.{filled_on}
use Rattle.cs_tree.proofs.store.fill_at.Goals as goal

pub reads-preserved : goal.reads-preserved
reads-preserved g c =
    let l = c.reads in
    let read = c.in_ok-n.ensures in
    record {
      within = search rules;
      len = search rules;
      keeps = search rules;
      size = search rules;
      failed = search rules;
      filled =
          filled_on (g.S.Store.model c.args.store.now) (g.S.Store.model l.store) c.args.at l.filled c.in_ok-n.n _ l.buf
          c.read_at.new.buf l.invariant.keeps l.invariant.within (search rules) l.invariant.filled read.bytes;
    }
