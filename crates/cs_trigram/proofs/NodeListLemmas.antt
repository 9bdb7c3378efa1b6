-- Lists of nodes as trees.
use Rattle.std.proofs.Common.{◌≡◌, ℕ, ◌+◌, ◌-◌, ◌<◌, ◌≤◌, List, ◌∷◌, drop, length, get_or, refl, sym, ◌∙◌, ap, subst, arith}
use Rattle.std.specs.Prelude.{Option, Some, None, MatchOption, Result, Ok, Err, IfOk}
use Rattle.std.proofs.lemmas.List.{drop_more}
use Rattle.cs_syntax.specs.Matching.{more}
use Rattle.cs_syntax.specs.Node.{tree_of}
use Rattle.cs_syntax.specs.NodeList.{trees_of}
use Rattle.cs_syntax.specs.declared.node.Node.{Node}
use Rattle.cs_syntax.proofs.TreeLemmas.{trees_from}

-- the part before an index
pub trees_before : (parts : List Node) (index : ℕ) (part : Node) → 0 < index → index ≤ length parts → part ≡ get_or parts (index - 1) part →
    trees_of (drop (index - 1) parts) ≡ more (tree_of part) (trees_of (drop index parts))
trees_before parts index part some le is =
    let next : index - 1 + 1 ≡ index = omega arith in
    trees_from parts (index - 1) part (omega arith) is ∙ ap (λ n. more (tree_of part) (trees_of (drop n parts))) next

-- the items from an index on
pub item_from : {A : Type 0} (xs : List A) (i : ℕ) (x : A) → i < length xs → x ≡ get_or xs i x → drop i xs ≡ x ∷ drop (i + 1) xs
item_from xs i x lt is = drop_more xs i x lt ∙ ap (λ y. y ∷ drop (i + 1) xs) (sym is)

-- an answer other than `Some`
pub none_of : {A : Type 0} (o : Option A) (N : Type 0) (S : A → Type 0) → MatchOption o N S → ((x : A) → o ≡ Some x → ⊥) → N
none_of None N S m other = m
none_of (Some x) N S m other = absurd (other x refl)

pub some_of : {A : Type 0} (o : Option A) (x : A) (N : Type 0) (S : A → Type 0) → MatchOption o N S → o ≡ Some x → S x
some_of {A} o x N S m e = subst (λ (p : Option A). MatchOption p N S) e m

pub if_ok : {A E : Type 0} (r : Result A E) (P Q : A → Type 0) → IfOk r P → ((x : A) → P x → Q x) → IfOk r Q
if_ok (Ok x) P Q h f = f x h
if_ok (Err e) P Q h f = tt

pub if_ok_both : {A E : Type 0} (r : Result A E) (P Q R : A → Type 0) → IfOk r P → IfOk r Q → ((x : A) → P x → Q x → R x) → IfOk r R
if_ok_both (Ok x) P Q R p q f = f x p q
if_ok_both (Err e) P Q R p q f = tt

pub none_is : {A : Type 0} (o : Option A) (N : Type 0) (S : A → Type 0) → MatchOption o N S → o ≡ None → N
none_is {A} o N S m e = subst (λ (p : Option A). MatchOption p N S) e m
