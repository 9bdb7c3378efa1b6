use Rattle.std.proofs.Common.{◌≡◌, ap, sym, refl, ◌∙◌, Some, None}
use Rattle.std.specs.Prelude.{string_bytes}
use Rattle.cs_fakes.specs.MemTrees.{snapshot_of}
use Rattle.cs_fakes.specs.MemItems.{entry_index}
use Rattle.cs_fakes.proofs.MemItemLemmas.{set_found, push_missing}
use Rattle.cs_fakes.proofs.mem_items.put_entry.Goals as goal

pub returns-in-Some : goal.returns-in-Some
returns-in-Some c =
    let at : entry_index c.deref.result.now c.as_str.result.now ≡ Some c.in-Some.at = sym c.find_entry.ensures ∙ c.in-Some.is in
    set_found c.args.items.now.items (string_bytes c.args.entry.path) c.in-Some.at c.args.entry
    (rw (c.deref.ensures.value, c.as_str.ensures.value) at at) refl

pub returns-in-None : goal.returns-in-None
returns-in-None c =
    let at : entry_index c.deref.result.now c.as_str.result.now ≡ None = sym c.find_entry.ensures ∙ c.in-None.is in
    let pushed = (rw c.unwrap.ensures at c.push.ensures.items) in
    ap snapshot_of pushed ∙ push_missing c.args.items.now.items c.args.entry (rw (c.deref.ensures.value, c.as_str.ensures.value) at at)
