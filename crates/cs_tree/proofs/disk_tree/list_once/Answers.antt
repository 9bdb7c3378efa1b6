use Rattle.std.proofs.Common.{map}
use Rattle.std.specs.Prelude.{string_bytes}
use Rattle.cs_tree.proofs.ListingLemmas.{names_in_order}
use Rattle.cs_tree.proofs.disk_tree.list_once.Goals as goal

pub returns-then-len-eq0 : goal.returns-then-len-eq0
returns-then-len-eq0 g c = names_in_order (map string_bytes c.reads.listing.names.items)
    (map string_bytes c.order_names.new.names.items) c.reads.invariant c.order_names.ensures.ascend
    c.order_names.ensures.same
