-- The partial trees of open groups.
use Rattle.std.specs.Prelude.{ℕ, List, [], ◌∷◌, Option}
use Rattle.cs_syntax.specs.Matching.{Tree, Trees, alt, rep, none, more}
use Rattle.cs_syntax.specs.TreeList.{append}
use Rattle.cs_syntax.specs.declared.fault.PatternFault.TheVariants.{OpenGroup}
use Rattle.cs_syntax.specs.Tokens.{sequence}
use Rattle.cs_syntax.specs.Parsing.{alternation, Level, with_atom, SuffixParse, levels, syntax_error, ParseResult, tree, rejected}

-- appends a tree
abbrev pub with_last : Trees → Tree → Trees
with_last ts t = append ts (more t none)

-- the finished branches of a group, and the atoms of the current branch
pub record PartialGroup : Type 0 where
  pub branches : Trees
  pub atoms : Trees

-- the atoms before the rest of their branch
abbrev pub with_atoms : Trees → Level → Level
with_atoms none l = l
with_atoms (more t ts) l = with_atom t (with_atoms ts l)

-- the alternation of the finished branches, the current one and those that follow; a single branch is itself
abbrev pub alternation_after : Trees → Tree → Trees → Tree
alternation_after none t bs = alternation t bs
alternation_after (more a rest) t bs = alt (more a (append rest (more t bs)))

-- the tree of a group, from its partial tree and its rest
abbrev pub group_with_rest : PartialGroup → Level → Tree
group_with_rest h l =
    let m = with_atoms h.atoms l in alternation_after h.branches (sequence m.atoms) m.branches

-- the parse of the whole text, from the partial trees of the enclosing groups and of the current group, and the suffix
abbrev pub whole_parse : List PartialGroup → PartialGroup → SuffixParse → ParseResult
whole_parse hs h (syntax_error k offset) = rejected k offset
whole_parse [] h (levels l ls) = tree (group_with_rest h l)
whole_parse (outer ∷ hs) h (levels l []) = rejected OpenGroup 0
whole_parse (outer ∷ hs) h (levels l (next ∷ ls)) =
    whole_parse hs outer (levels (with_atom (group_with_rest h l) next) ls)

-- appends an atom
abbrev pub with_last_atom : PartialGroup → Tree → PartialGroup
with_last_atom h t = record h { atoms = with_last h.atoms t }

-- wraps the last tree in a repeat
abbrev pub with_last_repeated : ℕ → Option ℕ → Trees → Trees
with_last_repeated n m none = none
with_last_repeated n m (more t none) = more (rep t n m) none
with_last_repeated n m (more t (more u us)) = more t (with_last_repeated n m (more u us))

-- wraps the last atom in a repeat
abbrev pub with_last_atom_repeated : ℕ → Option ℕ → PartialGroup → PartialGroup
with_last_atom_repeated n m h = record h { atoms = with_last_repeated n m h.atoms }

-- ends the current branch at a bar
abbrev pub with_last_branch : PartialGroup → PartialGroup
with_last_branch h = record { branches = with_last h.branches (sequence h.atoms); atoms = none }

-- the tree of the group if it ends here
abbrev pub tree_so_far : PartialGroup → Tree
tree_so_far h = alternation_after h.branches (sequence h.atoms) none

abbrev pub empty_group : PartialGroup
empty_group = record { branches = none; atoms = none }
