use Rattle.std.proofs.Common.{◌≡◌, [], ◌∷◌, map, take, reverse, arith, sym, ap, subst, ◌∙◌}
use Rattle.std.specs.Prelude.{option_map, string_bytes}
use Rattle.std.proofs.lemmas.List.{reverse-append, take_all}
use Rattle.cs_tree.specs.Clean.{with_slashes}
use Rattle.cs_tree.proofs.NameLemmas.{mapped_more}
use Rattle.cs_listing.specs.FolderReads.{InTree, entry_path}
use Rattle.cs_listing.specs.Entries.{repository_found}
use Rattle.cs_listing.specs.GitFolders.{repository_begun, repository_above}
use Rattle.cs_listing.proofs.GitLemmas.{nearest_more}
use Rattle.cs_listing.proofs.git_folders.nearest_repository.Goals as goal

pub below-init : goal.below-init
below-init g c = record {
  nearest = subst (λ t. InTree (g.T.Tree.snapshot c.args.tree.now) (λ items. option_map repository_found c.in_ok-nearest.nearest
      ≡ repository_begun items t)) (c.as_str.ensures.value ∙ c.new-stem.ensures.bytes) c.in_ok-nearest.ensures.begun;
  stem = c.new-stem.ensures.bytes;
  kept = c.in_ok-nearest.ensures.keeps;
}

pub below-preserved : goal.below-preserved
below-preserved g c =
    let s = g.T.Tree.snapshot c.args.tree.now in
    let now = g.T.Tree.snapshot c.below.tree in
    let name = string_bytes c.name-item.result in
    let before = map string_bytes (take c.below.name-index c.args.names.now) in
    let more = mapped_more string_bytes c.args.names.now c.below.name-index c.name-item.result (omega arith) c.name-item.is in
    let at : string_bytes c.in_ok-stem.stem ≡ with_slashes (name ∷ reverse before) =
    c.in_ok-stem.ensures
    ∙ ap (λ t. entry_path t c.as_str-in-below-2.result.now) c.as_str-in-below.ensures.value
    ∙ ap (λ n. entry_path (string_bytes c.below.stem) n) c.as_str-in-below-2.ensures.value
    ∙ ap (λ t. entry_path t name) c.below.invariant.stem in
    record {
      nearest = subst (λ ns. InTree s (λ items. option_map repository_found c.found_or-nearest.result ≡ repository_above items (reverse ns))) (sym more)
          (nearest_more s now before name (string_bytes c.in_ok-stem.stem) (option_map repository_found c.in_ok-found.found)
          (option_map repository_found c.below.nearest) (option_map repository_found c.found_or-nearest.result) c.below.invariant.kept at c.found_or-nearest.ensures
          (subst (λ t. InTree now (λ items. option_map repository_found c.in_ok-found.found ≡ repository_begun items t))
          c.as_str-in-below-3.ensures.value c.in_ok-found.ensures.begun) c.below.invariant.nearest);
      stem = at ∙ ap with_slashes (sym (reverse-append before (name ∷ []))) ∙ sym (ap (λ ns. with_slashes (reverse ns)) more);
      kept = c.in_ok-found.ensures.keeps ∙ c.below.invariant.kept;
    }

pub returns-clause-nearest : goal.returns-clause-nearest
returns-clause-nearest g c =
    subst (λ ns. InTree (g.T.Tree.snapshot c.args.tree.now) (λ items. option_map repository_found c.below.nearest
    ≡ repository_above items (reverse (map string_bytes ns)))) (take_all c.below.name-index c.args.names.now (omega arith))
    c.below.invariant.nearest
