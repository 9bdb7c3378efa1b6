-- A reachable name is a named path or an entry of a reachable folder.
use Rattle.std.proofs.Common.{◌≡◌, ℕ, true, false, not, List, [], ◌∷◌, drop, refl, sym, ap, subst, ◌∙◌, inl, inr}
use Rattle.cs_tree.specs.Folders.{child, lists, IsTree, last_element}
use Rattle.cs_tree.specs.PathSet.{Paths}
use Rattle.std.proofs.lemmas.Bool.{and_parts, and_from, not-true, leb-true, le-leb}
use Rattle.std.specs.Prelude.{◌↔◌}
use Rattle.std.specs.Cmp.Lexicographic.{bytes_decides}
use Rattle.cs_tree.specs.PathSet as set
use Rattle.cs_tree.specs.Cover.{covers}
use Rattle.cs_tree.specs.Snapshot.{Snapshot}
use Rattle.cs_tree.specs.Reachability.{is_excluded, is_reachable, reaches, elements_under}
use Rattle.cs_tree.specs.WalkSteps.{descends_to}
use Rattle.cs_tree.specs.Walks.{Reaches, named, listed}
use Rattle.cs_tree.proofs.DescentLemmas.{Step, descends_refl, descends_on_from, descends_on_to}
use Rattle.cs_tree.proofs.PathSetLemmas.{some_member, member_satisfies}

no_more : (x : List ℕ) (xs : List (List ℕ)) → x ∷ xs ≡ [] → ⊥
no_more x xs e = cc e

-- one more step down from a path
descends_further : (tree : Snapshot) (es : List (List ℕ)) (p q m : List ℕ) → IsTree tree → elements_under p q ≡ es →
    descends_to tree p q ≡ true → Step tree q m → descends_to tree p (child q m) ≡ true
descends_further tree [] p q m model e h step =
    elim (descends_on_from tree p q model h) [
      | inl tied ↦ subst (λ x. descends_to tree x (child q m) ≡ true) (sym ((bytes_decides p q).0 tied))
          (descends_on_to tree q m (child q m) model step (descends_refl tree (child q m)))
      | inr on ↦ absurd (no_more _ _ (sym on.under ∙ e))
    ]
descends_further tree (x ∷ es) p q m model e h step =
    elim (descends_on_from tree p q model h) [
      | inl tied ↦ subst (λ x. descends_to tree x (child q m) ≡ true) (sym ((bytes_decides p q).0 tied))
          (descends_on_to tree q m (child q m) model step (descends_refl tree (child q m)))
      | inr on ↦ descends_on_to tree p on.name (child q m) model on.step
          (descends_further tree es (child p on.name) q m model (ap (drop 1) (sym on.under ∙ e)) on.descends_on step)
    ]

-- what is reachable from a reachable path is reachable
led_on : (tree : Snapshot) (paths : Paths) (es : List (List ℕ)) (p q : List ℕ) → IsTree tree → elements_under p q ≡ es →
    descends_to tree p q ≡ true → Reaches tree paths p → Reaches tree paths q
led_on tree paths [] p q model e h reached =
    elim (descends_on_from tree p q model h) [
      | inl tied ↦ subst (Reaches tree paths) ((bytes_decides p q).0 tied) reached
      | inr on ↦ absurd (no_more _ _ (sym on.under ∙ e))
    ]
led_on tree paths (x ∷ es) p q model e h reached =
    elim (descends_on_from tree p q model h) [
      | inl tied ↦ subst (Reaches tree paths) ((bytes_decides p q).0 tied) reached
      | inr on ↦
          led_on tree paths es (child p on.name) q model (ap (drop 1) (sym on.under ∙ e)) on.descends_on
          (listed p on.name reached (leb-true _ _ on.step.short) on.step.listed on.step.kept)
    ]

-- a path from which the name is reachable
record From (tree : Snapshot) (paths : Paths) (name : List ℕ) : Type 0 where
  path : List ℕ
  member : set.contains paths path ≡ true
  kept : is_excluded (last_element path) ≡ false
  leads_on : descends_to tree path name ≡ true

reachable_from : (tree : Snapshot) (paths : Paths) (name : List ℕ) → is_reachable tree paths name ≡ true → From tree paths name
reachable_from tree paths name h =
    let some = some_member paths (λ p. reaches tree p name) h in
    let over = and_parts (covers some.path name) _ some.accepts in
    let kept = and_parts (not (is_excluded (last_element some.path))) _ over.1 in
    record { path = some.path; member = some.member; kept = not-true _ kept.0; leads_on = and_from _ _ over.0 kept.1 }

from_reachable : (tree : Snapshot) (paths : Paths) (name : List ℕ) → From tree paths name → is_reachable tree paths name ≡ true
from_reachable tree paths name from =
    let over = and_parts (covers from.path name) _ from.leads_on in
    member_satisfies paths (λ p. reaches tree p name) from.path from.member (and_from _ _ over.0 (and_from _ _ (ap not from.kept) over.1))

starts : (tree : Snapshot) (paths : Paths) (name : List ℕ) → IsTree tree → Reaches tree paths name → From tree paths name
starts tree paths name model (named path member kept) =
    record { path = path; member = member; kept = kept; leads_on = descends_refl tree path }
starts tree paths name model (listed path m reached short lists kept) =
    let from = starts tree paths path model reached in
    record {
      path = from.path;
      member = from.member;
      kept = from.kept;
      leads_on = descends_further tree (elements_under from.path path) from.path path m model refl from.leads_on
          (record { kept = kept; short = le-leb _ _ short; listed = lists });
    }

pub reachable_says : (tree : Snapshot) (paths : Paths) (name : List ℕ) → IsTree tree →
    (is_reachable tree paths name ≡ true) ↔ Reaches tree paths name
reachable_says tree paths name model = (
  λ h. let from = reachable_from tree paths name h in led_on tree paths (elements_under from.path name) from.path name
      model refl from.leads_on (named from.path from.member from.kept),
  λ reached. from_reachable tree paths name (starts tree paths name model reached),
)
