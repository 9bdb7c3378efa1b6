-- Each item can move from the suffix to the partial groups.
use Rattle.std.proofs.Common.{◌≡◌, ℕ, List, [], ◌∷◌, refl, sym, ◌∙◌, ap}
use Rattle.std.specs.Prelude.{Option}
use Rattle.cs_syntax.specs.Matching.{Tree, Trees, alt, rep, none, more}
use Rattle.cs_syntax.specs.Tokens.{sequence}
use Rattle.cs_syntax.specs.Parsing.{Level, empty_level, with_atom, with_repeat, with_bar, SuffixParse, levels, syntax_error, inside, with_close, with_open, tree, answer}
use Rattle.cs_syntax.specs.PartialGroups.{PartialGroup, with_atoms, alternation_after, group_with_rest, whole_parse, with_last_atom, with_last_branch, tree_so_far, empty_group, with_last_repeated, with_last}
use Rattle.cs_syntax.proofs.TreeListLemmas.{append_last}

with_atoms_last : (us : Trees) (t : Tree) (l : Level) → with_atoms (with_last us t) l ≡ with_atoms us (with_atom t l)
with_atoms_last none t l = refl
with_atoms_last (more u us) t l = ap (with_atom u) (with_atoms_last us t l)

group_with_rest_last : (h : PartialGroup) (t : Tree) (l : Level) → group_with_rest h (with_atom t l)
    ≡ group_with_rest (with_last_atom h t) l
group_with_rest_last h t l =
    ap (λ (m : Level). alternation_after h.branches (sequence m.atoms) m.branches) (sym (with_atoms_last h.atoms t l))

with_atoms_repeat : (us : Trees) (t : Tree) (n : ℕ) (m : Option ℕ) (l : Level) →
    with_atoms (with_last us t) (with_repeat n m l) ≡ with_atoms (with_last us (rep t n m)) l
with_atoms_repeat us t n m l = with_atoms_last us t (with_repeat n m l) ∙ sym (with_atoms_last us (rep t n m) l)

with_atoms_bar : (us : Trees) (l : Level) → with_atoms us (with_bar l)
    ≡ record { atoms = us; branches = more (sequence l.atoms) l.branches; repeats = [] }
with_atoms_bar none l = refl
with_atoms_bar (more t us) l = ap (with_atom t) (with_atoms_bar us l)

with_atoms_empty : (us : Trees) → with_atoms us empty_level ≡ record { atoms = us; branches = none; repeats = [] }
with_atoms_empty none = refl
with_atoms_empty (more t us) = ap (with_atom t) (with_atoms_empty us)

alternation_after_last : (bs : Trees) (b t : Tree) (rest : Trees) → alternation_after (with_last bs b) t rest
    ≡ alternation_after bs b (more t rest)
alternation_after_last none b t rest = refl
alternation_after_last (more a bs) b t rest = ap (λ x. alt (more a x)) (append_last bs (more t rest) b)

group_with_rest_bar : (h : PartialGroup) (l : Level) → group_with_rest h (with_bar l) ≡ group_with_rest (with_last_branch h) l
group_with_rest_bar h l =
    ap (λ (m : Level). alternation_after h.branches (sequence m.atoms) m.branches) (with_atoms_bar h.atoms l)
    ∙ sym (alternation_after_last h.branches (sequence h.atoms) (sequence l.atoms) l.branches)

group_with_rest_empty : (h : PartialGroup) → group_with_rest h empty_level ≡ tree_so_far h
group_with_rest_empty h = ap (λ (m : Level). alternation_after h.branches (sequence m.atoms) m.branches) (with_atoms_empty h.atoms)

pub whole_parse_atom : (hs : List PartialGroup) (h : PartialGroup) (t : Tree) (r : SuffixParse) →
    whole_parse hs h (inside (with_atom t) r) ≡ whole_parse hs (with_last_atom h t) r
whole_parse_atom hs h t (syntax_error k offset) = refl
whole_parse_atom [] h t (levels l ls) = ap tree (group_with_rest_last h t l)
whole_parse_atom (outer ∷ hs) h t (levels l []) = refl
whole_parse_atom (outer ∷ hs) h t (levels l (next ∷ ls)) = ap (λ c. whole_parse hs outer (levels (with_atom c next) ls))
    (group_with_rest_last h t l)

group_with_rest_repeat : (h : PartialGroup) (t : Tree) (n : ℕ) (m : Option ℕ) (l : Level) →
    group_with_rest (with_last_atom h t) (with_repeat n m l) ≡ group_with_rest (with_last_atom h (rep t n m)) l
group_with_rest_repeat h t n m l =
    ap (λ (k : Level). alternation_after h.branches (sequence k.atoms) k.branches) (with_atoms_repeat h.atoms t n m l)

pub whole_parse_repeat : (hs : List PartialGroup) (h : PartialGroup) (t : Tree) (n : ℕ) (m : Option ℕ) (r : SuffixParse) →
    whole_parse hs (with_last_atom h t) (inside (with_repeat n m) r) ≡ whole_parse hs (with_last_atom h (rep t n m)) r
whole_parse_repeat hs h t n m (syntax_error k offset) = refl
whole_parse_repeat [] h t n m (levels l ls) = ap tree (group_with_rest_repeat h t n m l)
whole_parse_repeat (outer ∷ hs) h t n m (levels l []) = refl
whole_parse_repeat (outer ∷ hs) h t n m (levels l (next ∷ ls)) =
    ap (λ c. whole_parse hs outer (levels (with_atom c next) ls)) (group_with_rest_repeat h t n m l)

pub whole_parse_bar : (hs : List PartialGroup) (h : PartialGroup) (r : SuffixParse) →
    whole_parse hs h (inside with_bar r) ≡ whole_parse hs (with_last_branch h) r
whole_parse_bar hs h (syntax_error k offset) = refl
whole_parse_bar [] h (levels l ls) = ap tree (group_with_rest_bar h l)
whole_parse_bar (outer ∷ hs) h (levels l []) = refl
whole_parse_bar (outer ∷ hs) h (levels l (next ∷ ls)) = ap (λ c. whole_parse hs outer (levels (with_atom c next) ls))
    (group_with_rest_bar h l)

pub whole_parse_open : (hs : List PartialGroup) (h : PartialGroup) (r : SuffixParse) → whole_parse hs h (with_open r)
    ≡ whole_parse (h ∷ hs) empty_group r
whole_parse_open hs h (syntax_error k offset) = refl
whole_parse_open hs h (levels l []) = refl
whole_parse_open hs h (levels l (next ∷ ls)) = refl

pub whole_parse_close : (hs : List PartialGroup) (outer h : PartialGroup) (r : SuffixParse) →
    whole_parse (outer ∷ hs) h (with_close r) ≡ whole_parse hs (with_last_atom outer (tree_so_far h)) r
whole_parse_close hs outer h (syntax_error k offset) = refl
whole_parse_close hs outer h (levels l ls) =
    ap (λ c. whole_parse hs outer (levels (with_atom c l) ls)) (group_with_rest_empty h)
    ∙ whole_parse_atom hs outer (tree_so_far h) (levels l ls)

pub whole_parse_end : (h : PartialGroup) → whole_parse [] h (levels empty_level []) ≡ tree (tree_so_far h)
whole_parse_end h = ap tree (group_with_rest_empty h)

pub whole_parse_start : (r : SuffixParse) → whole_parse [] empty_group r ≡ answer r
whole_parse_start (syntax_error k offset) = refl
whole_parse_start (levels l ls) = refl

pub with_last_repeated-last : (n : ℕ) (m : Option ℕ) (ts : Trees) (t : Tree) → with_last_repeated n m (with_last ts t)
    ≡ with_last ts (rep t n m)
with_last_repeated-last n m none t = refl
with_last_repeated-last n m (more u none) t = refl
with_last_repeated-last n m (more u (more v vs)) t = ap (more u) (with_last_repeated-last n m (more v vs) t)
