-- Crosses: the last bytes of a part and the first bytes of the parts after it.
use Rattle.std.proofs.Common.{◌≡◌, ℕ, ◌≤◌, Bool, List, ◌++◌, take, drop, reverse, sym, ◌∙◌, ap, subst, arith, append_assoc}
use Rattle.std.proofs.lemmas.List.{reverse-append, reverse-reverse, take-append-drop, take-take}
use Rattle.cs_syntax.specs.TreeList.{append}
use Rattle.cs_syntax.specs.Matching.{Tree, Trees, none, more}
use Rattle.cs_trigram.specs.Query.{HasTrigrams}
use Rattle.cs_trigram.specs.ExactStrings.{HaveExactStrings, HaveLongStrings}
use Rattle.cs_trigram.specs.ExactRuns.{HasCross, HasCrosses, HasEachCross}
use Rattle.cs_trigram.proofs.SubstringTrigramLemmas.{has_prefix, has_suffix}

module _ (set : ℕ → Bool) where
  -- the last m bytes of a text and the first n of the next one
  pub ends_within : (m n : ℕ) (u v : List ℕ) → HasTrigrams set (u ++ v) → HasTrigrams set (reverse (take m (reverse u)) ++ take n v)
  ends_within m n u v has =
      let last = reverse (take m (reverse u)) in
      let before = reverse (drop m (reverse u)) in
      let first = take n v in
      let whole : u ++ v ≡ before ++ ((last ++ first) ++ drop n v) =
      ap (λ (x : List ℕ). x ++ v) (sym (reverse-reverse u) ∙ ap reverse (sym (take-append-drop m (reverse u)))
      ∙ reverse-append (take m (reverse u)) (drop m (reverse u)))
      ∙ append_assoc before last v
      ∙ ap (λ (x : List ℕ). before ++ x) (ap (λ (x : List ℕ). last ++ x) (sym (take-append-drop n v))
      ∙ sym (append_assoc last first (drop n v))) in
      has_prefix set (last ++ first) (drop n v)
      (has_suffix set before ((last ++ first) ++ drop n v) (subst (HasTrigrams set) whole has))

  -- fewer bytes on each side; the first text is stored reversed
  pub fewer_within : (k l m n : ℕ) (s v : List ℕ) → m ≤ k → n ≤ l → HasTrigrams set (reverse (take k s) ++ take l v) →
      HasTrigrams set (reverse (take m s) ++ take n v)
  fewer_within k l m n s v a b has =
      subst (λ (x : List ℕ). HasTrigrams set (reverse (take m s) ++ x)) (take-take n l v b)
      (subst (λ (x : List ℕ). HasTrigrams set (reverse x ++ take n (take l v)))
      (ap (take m) (reverse-reverse (take k s)) ∙ take-take m k s a)
      (ends_within m n (reverse (take k s)) (take l v) has))

  -- each cross of a tree with a run is among its crosses
  pub all_crosses : (t : Tree) (ts : Trees) → ((run after : Trees) (a b m n : ℕ) → ts ≡ append run after → a ≤ 20 → n ≤ 2 →
      HaveExactStrings a (more t none) → HaveExactStrings b run → HaveLongStrings 2 run → HasCross set m n t run) →
      HasCrosses set t ts
  all_crosses t ts each run after a b is few_a few_b strings runs long = (
    λ le. each run after a b 2 2 is few_a (omega arith) strings runs long,
    λ le. (each run after a b 2 1 is few_a (omega arith) strings runs long, each run after a b 1 2 is few_a (omega arith) strings runs long),
  )

  -- one more part at the start
  pub crosses_more : (t : Tree) (ts : Trees) → HasEachCross set ts → HasCrosses set t ts → HasEachCross set (more t ts)
  crosses_more t ts old new none u after is =
      let tree : t ≡ u = (cc) in
      let rest : ts ≡ after = (cc) in
      subst (λ (x : Tree). HasCrosses set x after) tree (subst (HasCrosses set t) rest new)
  crosses_more t ts old new (more b before) u after is = let rest : ts ≡ append before (more u after) = (cc) in old before u after rest

  pub no_crosses : HasEachCross set none
  no_crosses none t after is = (cc)
  no_crosses (more b before) t after is = (cc)
