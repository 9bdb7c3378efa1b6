-- The value of `reachable_files` at a name.
use Rattle.std.proofs.Common.{◌≡◌, ℕ, true, false, cond, ◌&&◌, List, refl, sym, ap, ◌∙◌, inl, inr, Option, Some, None}
use Rattle.cs_tree.specs.PathSet.{Paths}
use Rattle.std.proofs.lemmas.Bool.{true≢false, cases_Bool, and_parts, and_left}
use Rattle.std.specs.Prelude.{is_some, nat_le, length}
use Rattle.std.specs.FinMap as map
use Rattle.std.specs.List.{list_any}
use Rattle.std.specs.Ordering.{eq_by_cmp}
use Rattle.cs_tree.specs.Cover.{covers, is_covered}
use Rattle.cs_tree.specs.Snapshot.{Snapshot, Item, item_at, bad, missing}
use Rattle.cs_tree.specs.Reachability.{reachable_files, found_at, read_item, is_reachable, reaches}
use Rattle.cs_tree.specs.Clean.{longest_path}
use Rattle.cs_tree.proofs.PathSetLemmas.{some_member, member_satisfies}
use Rattle.cs_tree.proofs.CollectLemmas.{get-collected}

module _ {X : Type 0} (read : List ℕ → Option X) where
  pub get-found : (tree : Snapshot) (paths : Paths) (name : List ℕ) → map.get (reachable_files read tree paths) name
      ≡ found_at read tree paths name
  get-found tree paths name =
      get-collected (found_at read tree paths) (map.keys tree) name
      ∙ ap (λ b. cond b (found_at read tree paths name) None) (sym (map.contains_key-keys tree name))
      ∙ present
    where
      -- nothing is read at a name that the tree does not have
      lacks : (o : Option Item) → map.get tree name ≡ o → cond (is_some o) (found_at read tree paths name) None
          ≡ found_at read tree paths name
      lacks (Some item) e = refl
      lacks None e = sym (elim (is_reachable tree paths name && nat_le (length name) longest_path) as
          (λ b. cond b (read_item read (item_at tree name)) None ≡ None) [
            | true ↦ ap (λ o. read_item read (Rattle.std.specs.Prelude.unwrap_or o (bad missing))) e
            | false ↦ refl
          ])

      present : cond (is_some (map.get tree name)) (found_at read tree paths name) None ≡ found_at read tree paths name
      present = lacks (map.get tree name) refl

  reachable_covered : (tree : Snapshot) (paths : Paths) (name : List ℕ) → is_reachable tree paths name ≡ true → is_covered paths name ≡ true
  reachable_covered tree paths name h =
      let reachable_files = some_member paths (λ p. reaches tree p name) h in
      member_satisfies paths (λ p. covers p name) reachable_files.path reachable_files.member
      (and_parts (covers reachable_files.path name) _ reachable_files.accepts).0

  -- nothing is found outside the paths
  pub found_under : (tree : Snapshot) (paths : Paths) (name : List ℕ) → is_covered paths name ≡ false →
      map.get (reachable_files read tree paths) name ≡ None
  found_under tree paths name h =
      get-found tree paths name
      ∙ ap (λ b. cond b (read_item read (item_at tree name)) None)
      (and_left (is_reachable tree paths name) _
      (elim (cases_Bool (is_reachable tree paths name))
      [ inl reach ↦ absurd (true≢false (sym (reachable_covered tree paths name reach) ∙ h)) | inr never ↦ never ]))
