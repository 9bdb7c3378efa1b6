-- The trees of lists of nodes.
use Rattle.std.proofs.Common.{◌≡◌, ℕ, suc, ◌+◌, ◌<◌, ◌≤◌, List, [], ◌∷◌, ◌++◌, drop, length, get_or, refl, sym, ◌∙◌, ap, arith, drop-cons}
use Rattle.cs_syntax.specs.Matching.{cat, alt, more, none}
use Rattle.cs_syntax.specs.Tokens.{sequence}
use Rattle.cs_syntax.specs.Node.{tree_of}
use Rattle.cs_syntax.specs.NodeList.{trees_of}
use Rattle.cs_syntax.specs.PartialGroups.{alternation_after, with_last}
use Rattle.cs_syntax.specs.declared.node.Node.{Node}

pub trees_last : (xs : List Node) (x : Node) → trees_of (xs ++ x ∷ []) ≡ with_last (trees_of xs) (tree_of x)
trees_last [] x = refl
trees_last (y ∷ xs) x = ap (more (tree_of y)) (trees_last xs x)

-- the trees from an index on
pub trees_from : (parts : List Node) (i : ℕ) (part : Node) → i < length parts → part ≡ get_or parts i part →
    trees_of (drop i parts) ≡ more (tree_of part) (trees_of (drop (i + 1) parts))
trees_from parts i part lt is =
    let next : suc i ≡ i + 1 = omega arith in
    ap trees_of (drop-cons parts i part lt ∙ ap (λ x. x ∷ drop (suc i) parts) (sym is) ∙ ap (λ n. part ∷ drop n parts) next)

pub several : (xs : List Node) → 2 ≤ length xs → sequence (trees_of xs) ≡ cat (trees_of xs)
several [] h = absurd (omega arith)
several (x ∷ []) h = absurd (omega arith)
several (x ∷ y ∷ xs) h = refl

pub branches_last : (xs : List Node) (x : Node) → 0 < length xs → alternation_after (trees_of xs) (tree_of x) none
    ≡ alt (trees_of (xs ++ x ∷ []))
branches_last [] x h = absurd (omega arith)
branches_last (y ∷ xs) x h = ap alt (ap (more (tree_of y)) (sym (trees_last xs x)))
