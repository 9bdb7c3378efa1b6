-- Copies in lists of parts.
use Rattle.std.proofs.Common.{◌≡◌, ℕ, zero, suc, ◌+◌, ◌-◌, ◌<◌, List, [], ◌∷◌, ◌++◌, refl, ◌∙◌, ap, arith}
use Rattle.cs_syntax.specs.TreeList.{append}
use Rattle.cs_syntax.specs.Matching.{Tree, Trees, cat, rep, none, more}
use Rattle.cs_syntax.specs.Node.{tree_of}
use Rattle.cs_syntax.specs.NodeList.{trees_of}
use Rattle.cs_syntax.specs.declared.node.Node.{Node}
use Rattle.cs_syntax.proofs.TreeLemmas.{trees_last}
use Rattle.cs_syntax.proofs.TreeListLemmas.{append_assoc_trees}
use Rattle.std.specs.Prelude.{None}
use Rattle.cs_match.specs.Expansion.{copies, repeat_expansion}

pub append_copies : (n : ℕ) (t : Tree) (rest : Trees) → append (copies n t none) rest ≡ copies n t rest
append_copies zero t rest = refl
append_copies (suc n) t rest = ap (more t) (append_copies n t rest)

copies_last : (n : ℕ) (t : Tree) → copies n t (more t none) ≡ copies (suc n) t none
copies_last zero t = refl
copies_last (suc n) t = ap (more t) (copies_last n t)

-- one more copy is pushed
pub pushed_copy : (old xs : List Node) (x : Node) (t : Tree) (k : ℕ) → trees_of xs
    ≡ append (trees_of old) (copies k t none) → tree_of x ≡ t →
    trees_of (xs ++ x ∷ []) ≡ append (trees_of old) (copies (k + 1) t none)
pushed_copy old xs x t k e is =
    let next : suc k ≡ k + 1 = omega arith in
    trees_last xs x ∙ ap (λ ts. append ts (more (tree_of x) none)) e
    ∙ append_assoc_trees (trees_of old) (copies k t none) (more (tree_of x) none)
    ∙ ap (λ u. append (trees_of old) (append (copies k t none) (more u none))) is
    ∙ ap (append (trees_of old)) (append_copies k t (more t none) ∙ copies_last k t ∙ ap (λ n. copies n t none) next)

pub counted_loop : (t : Tree) (n : ℕ) → 0 < n → repeat_expansion t n None ≡ cat (copies (n - 1) t (more (rep t 1 None) none))
counted_loop t zero h = absurd (omega arith)
counted_loop t (suc n) h =
    let one : n ≡ suc n - 1 = omega arith in ap (λ k. cat (copies k t (more (rep t 1 None) none))) one
