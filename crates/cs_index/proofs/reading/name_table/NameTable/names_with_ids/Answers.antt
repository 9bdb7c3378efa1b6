use Rattle.std.proofs.Common.{◌≡◌, ◌++◌, ◌∷◌, [], length, sym, ap, ◌∙◌, arith}
use Rattle.std.proofs.lemmas.List.{append-nil}
use Rattle.cs_index.specs.Order.{with_ids}
use Rattle.cs_index.specs.BorrowedNames.{borrowed_names}
use Rattle.cs_tree.specs.PathParts.{texts}
use Rattle.cs_index.proofs.names.SortedNames.{texts-push, texts_more, borrowed-push, with_ids-push, as_many, one_left}
use Rattle.cs_index.proofs.reading.name_table.NameTable.names_with_ids.Goals as goal

pub names-init : goal.names-init
names-init c = record {
  taken = sym (c.into_iter-name-iterator.ensures.into_iter_gives ∙ c.names-name-items.ensures);
  named = ap borrowed_names c.in_ok-named.ensures.items;
}

pub overflow_cast-id : goal.overflow_cast-id
overflow_cast-id c =
    let many = as_many c.names.named.items (texts c.names.yielded) c.names.invariant.named in
    let all = ap length (c.names.invariant.taken ∙ ap (λ rest. texts c.names.yielded ++ rest) c.in-Some.ensures.steps) in
    let left = one_left (texts c.names.yielded) c.in-Some.name.now c.next.new.self in
    let id : c.len-id.result ≡ length (texts c.names.yielded) = c.len-id.ensures ∙ c.names.named.ok.0 ∙ many in
    omega (arith, id, left, all, c.len-count.ensures, c.len-count.type_inv)

pub names-preserved : goal.names-preserved
names-preserved c =
    let many = as_many c.names.named.items (texts c.names.yielded) c.names.invariant.named in
    let id : c.len-id.result ≡ length (texts c.names.yielded) = c.len-id.ensures ∙ c.names.named.ok.0 ∙ many in
    record {
      taken = c.names.invariant.taken ∙ ap (λ rest. texts c.names.yielded ++ rest) c.in-Some.ensures.steps
          ∙ sym (texts_more c.names.yielded c.in-Some.name c.next.new.self);
      named = ap borrowed_names c.in_ok-push.ensures.items ∙ borrowed-push c.names.named.items (c.in-Some.name, c.len-id.result)
          ∙ ap (λ ns. ns ++ (c.in-Some.name.now, c.len-id.result) ∷ []) c.names.invariant.named
          ∙ ap (λ n. with_ids (texts c.names.yielded) ++ (c.in-Some.name.now, n) ∷ []) id
          ∙ sym (with_ids-push (texts c.names.yielded) c.in-Some.name.now)
          ∙ ap with_ids (sym (texts-push c.names.yielded c.in-Some.name));
    }

pub returns : goal.returns
returns c =
    c.names.invariant.named
    ∙ ap with_ids (sym (c.names.invariant.taken ∙ ap (λ rest. texts c.names.yielded ++ rest) c.in-None.ensures.steps.0
    ∙ append-nil (texts c.names.yielded)))
