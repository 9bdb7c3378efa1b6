use Rattle.std.proofs.Common.{◌≡◌, ap, subst, sym, ◌∙◌, ◌++◌, ℕ, List, map, string_bytes, IfOk}
use Rattle.std.specs.List.{AllByRecursion}
use Rattle.cs_tree.proofs.GatherLemmas.{all-append}
use Rattle.cs_tree.specs.PathSet as set
use Rattle.cs_merge.proofs.Common.{least, IsString}
use Rattle.cs_merge.proofs.CoverLemmas.{paths_merged}
use Rattle.cs_merge.specs.Begun.{IsBegunWith}
use Rattle.cs_merge.proofs.merging.begin_paths.Goals as goal

pub begin_least-requires : goal.begin_least-requires
begin_least-requires c =
    let prefix : map string_bytes c.append_to.new.copies.items ≡ c.args.old = c.in_ok-append_to.ensures
    ∙ ap (λ (paths : List (List ℕ)). paths ++ c.args.old) (ap (map string_bytes) c.new-paths.ensures.items) in
    let both : map string_bytes c.deref.result.now ≡ c.args.old ++ c.args.newer =
    ap (map string_bytes) c.deref.ensures.value ∙ c.in_ok-append_to-2.ensures
    ∙ ap (λ (paths : List (List ℕ)). paths ++ c.args.newer) prefix in
    subst (AllByRecursion IsString) (sym both) (all-append IsString c.args.old c.args.newer c.requires.old c.requires.newer)

pub returns : goal.returns
returns c =
    let prefix : map string_bytes c.append_to.new.copies.items ≡ c.args.old = c.in_ok-append_to.ensures
    ∙ ap (λ (paths : List (List ℕ)). paths ++ c.args.old) (ap (map string_bytes) c.new-paths.ensures.items) in
    let both : map string_bytes c.deref.result.now ≡ c.args.old ++ c.args.newer =
    ap (map string_bytes) c.deref.ensures.value ∙ c.in_ok-append_to-2.ensures
    ∙ ap (λ (paths : List (List ℕ)). paths ++ c.args.newer) prefix in
    subst (λ (ps : List (List ℕ)). IfOk c.begin_least.result (IsBegunWith ps))
    (ap (λ (ps : List (List ℕ)). set.items (least (set.from_list ps))) both
    ∙ ap set.items (paths_merged c.args.old c.args.newer)) c.begin_least.ensures
