use Rattle.std.proofs.Common.{◌≡◌, ap, sym, ◌∙◌, Some, None}
use Rattle.std.specs.Prelude.{string_bytes, false}
use Rattle.std.proofs.lemmas.Bool.{true≢false}
use Rattle.std.specs.FinMap.{insert}
use Rattle.cs_tree.specs.Snapshot.{folder}
use Rattle.cs_fakes.specs.Changes.{is_folder, with_listed_name}
use Rattle.cs_fakes.specs.MemTrees.{snapshot_of, item_of, left_of}
use Rattle.cs_fakes.specs.MemItems.{entry_index}
use Rattle.cs_fakes.proofs.MemItemLemmas.{set_found, set_alike, item_found_at, path_found, item_missing, folder_item, files_stay}
use Rattle.cs_fakes.proofs.mem_items.list_in.Goals as goal

pub returns-in-Err-clause-err : goal.returns-in-Err-clause-err
returns-in-Err-clause-err c =
    let at : entry_index c.deref.result.now c.args.folder.now ≡ Some c.in-Some.at = sym c.find_entry.ensures ∙ c.in-Some.is in
    let here = (rw c.deref.ensures.value at at) in
    let path = ap (λ s. string_bytes s.path) c.index_mut.ensures.value
    ∙ path_found c.args.items.now.items c.args.folder.now c.in-Some.at c.index_mut.result.now here in
    let same_item = ap (λ names. folder names false) c.in-Err.ensures.err ∙ sym (ap item_of c.in-Folder.is)
    ∙ ap (λ s. item_of s.item) c.index_mut.ensures.value in
    set_alike c.args.items.now.items c.args.folder.now c.in-Some.at _ c.index_mut.result.now here path same_item

pub returns-in_default-add-clause-ok : goal.returns-in_default-add-clause-ok
returns-in_default-add-clause-ok c =
    let at : entry_index c.deref.result.now c.args.folder.now ≡ Some c.in-Some.at = sym c.find_entry.ensures ∙ c.in-Some.is in
    let here = (rw c.deref.ensures.value at at) in
    let path = ap (λ s. string_bytes s.path) c.index_mut.ensures.value
    ∙ path_found c.args.items.now.items c.args.folder.now c.in-Some.at c.index_mut.result.now here in
    let was = item_found_at c.args.items.now.items c.args.folder.now c.in-Some.at c.index_mut.result.now here
    ∙ ap (λ s. item_of s.item) (sym c.index_mut.ensures.value) ∙ ap item_of c.in-Folder.is in
    set_found c.args.items.now.items c.args.folder.now c.in-Some.at _ here path
    ∙ ap (insert (snapshot_of c.args.items.now.items) c.args.folder.now)
    (ap (λ names. folder names false) c.in_default-add.ensures.ok ∙ sym (ap (with_listed_name c.args.name.now) was))

pub returns-in_default-item : goal.returns-in_default-item
returns-in_default-item c =
    let at : entry_index c.deref.result.now c.args.folder.now ≡ Some c.in-Some.at = sym c.find_entry.ensures ∙ c.in-Some.is in
    let here = (rw c.deref.ensures.value at at) in
    let was = item_found_at c.args.items.now.items c.args.folder.now c.in-Some.at c.index_mut.result.now here
    ∙ ap (λ s. item_of s.item) (sym c.index_mut.ensures.value) in
    absurd (folder_item c.index_mut.result.now.item (sym (ap is_folder was) ∙ c.requires.folder) c.in_default-item.not-Folder)

pub returns-in_default-clause-ok : goal.returns-in_default-clause-ok
returns-in_default-clause-ok c =
    let at : entry_index c.deref.result.now c.args.folder.now ≡ None = sym c.find_entry.ensures ∙ c.in_default.is in
    let here = (rw c.deref.ensures.value at at) in
    absurd (true≢false (sym c.requires.folder ∙ ap is_folder (item_missing c.args.items.now.items c.args.folder.now here)))

pub returns-in-Err-clause-files : goal.returns-in-Err-clause-files
returns-in-Err-clause-files c = λ consumed opened. files_stay c.args.items.now.items c.in-Some.at consumed opened _
    c.index_mut.result.now (sym (ap (left_of consumed) (sym (ap (λ s. s.item) c.index_mut.ensures.value)
    ∙ c.in-Folder.is)))

pub returns-in_default-add-clause-files : goal.returns-in_default-add-clause-files
returns-in_default-add-clause-files c = λ consumed opened. files_stay c.args.items.now.items c.in-Some.at consumed
    opened _ c.index_mut.result.now (sym (ap (left_of consumed) (sym (ap (λ s. s.item) c.index_mut.ensures.value)
    ∙ c.in-Folder.is)))
