use Rattle.std.proofs.Common.{◌∙◌, subst}
use Rattle.cs_index.specs.StoredLists.{GivesBelow}
use Rattle.cs_index.proofs.stored.ListPieces.{skips_on}
use Rattle.cs_index.proofs.reading.stored_list.StoredList.skip_below.Goals as goal

pub ids-preserved : goal.ids-preserved
ids-preserved g c =
    let i = c.ids.invariant in
    record {
      skips = λ bytes m holds.
          let so_far = i.skips bytes m holds in
          let given = subst (GivesBelow bytes c.args.end c.ids.self c.next_below.new.self) c.in-Some.is
          (c.in_ok-_id.ensures.gives bytes (i.keeps ∙ m) so_far.0) in
          skips_on bytes c.args.end c.in-Some._id c.args.self.now c.ids.self c.next_below.new.self c.skip_short.new.self
          so_far given (c.skip_short.ensures.skips bytes given.0);
      names = c.skip_short.ensures.names ∙ c.next_below.ensures.names ∙ i.names;
      keeps = c.next_below.ensures.store.0 ∙ i.keeps;
      size = c.next_below.ensures.store.1 ∙ i.size;
      failed = c.in_ok-_id.ensures.store.2 ∙ i.failed;
    }
