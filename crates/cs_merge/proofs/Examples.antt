-- Worked examples of the merge.
use Rattle.std.proofs.Common.{◌≡◌, ℕ, true, false, List, [], ◌∷◌, Some, None, refl, codes}
use Rattle.cs_merge.proofs.Common.{are_distinct, are_ascending, names_in_order, NewIds, new_ids_of}

-- the names of an index in the order of a walk
abbrev walk_order : List (List ℕ)
walk_order = codes "/a/b/z" ∷ codes "/a/b-x" ∷ []

a_slash_stands_above_a_dash : are_ascending walk_order ≡ false
a_slash_stands_above_a_dash = refl

names_of_a_walk_are_distinct : are_distinct walk_order ≡ true
names_of_a_walk_are_distinct = refl

a_name_may_be_held_twice : are_distinct (codes "/a/x" ∷ codes "/a/y" ∷ codes "/a/x" ∷ []) ≡ false
a_name_may_be_held_twice = refl

ids_sort_names : names_in_order (Some (1 ∷ 0 ∷ [])) walk_order ≡ codes "/a/b-x" ∷ codes "/a/b/z" ∷ []
ids_sort_names = refl

-- id 0 becomes 1, id 1 is dropped, id 2 becomes 0
abbrev three : NewIds
three = Some 1 ∷ None ∷ Some 0 ∷ []

new_ids_come_in_the_order_of_the_list : new_ids_of three (0 ∷ 1 ∷ 2 ∷ []) ≡ 1 ∷ 0 ∷ []
new_ids_come_in_the_order_of_the_list = refl
