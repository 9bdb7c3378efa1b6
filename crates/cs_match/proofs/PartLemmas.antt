-- The shapes of parts: the equations of `shape_of`, one for each variant, and the shapes of lists of parts.
use Rattle.std.proofs.Common.{◌≡◌, ℕ, suc, ◌+◌, ◌*◌, ◌<◌, ◌≤◌, List, [], ◌∷◌, ◌++◌, Vec, Box, Global, drop, length, get_or, refl, sym, ap, ◌∙◌, arith, drop-cons}
use Rattle.std.specs.Prelude.{None, map}
use Rattle.std.proofs.lemmas.List.Sums.{sum_by-cons}
use Rattle.cs_syntax.specs.Matching.{cat, alt, rep, line_start, line_end, word_edge, not_word_edge, none, more}
use Rattle.cs_syntax.specs.TreeList.{append}
use Rattle.cs_match.specs.Parts.{run, runs, options, shape_of, shape_step, shapes_of, size_of, size_step, sizes_of}
use Rattle.cs_match.specs.Work.{words}
use Rattle.cs_match.specs.Size.{nodes, nodes_of}
use Rattle.cs_match.specs.Glushkov.{position_count, position_count_of}
use Rattle.cs_match.specs.declared.parts.Fragment.{Fragment, Fragment-F, fold-roll-Fragment}
use Rattle.cs_match.specs.declared.parts.Fragment.TheVariants.{Run, Alternation, Options, Cat, Alt, Rep, LineStart, LineEnd, WordEdge, NotWordEdge, rolls-Run, rolls-Alternation, rolls-Options, rolls-Cat, rolls-Alt, rolls-Rep, rolls-LineStart, rolls-LineEnd, rolls-WordEdge, rolls-NotWordEdge}
use Rattle.cs_syntax.specs.Matching.{Tree, Trees}

pub shape_of-Run : (n : ℕ) → shape_of (Run n) ≡ run n
shape_of-Run n = ap shape_of (sym (rolls-Run n)) ∙ fold-roll-Fragment Tree shape_step (Fragment-F.Run n)

pub shape_of-Alternation : (ns : List ℕ) → shape_of (Alternation ns) ≡ alt (runs ns)
shape_of-Alternation ns = ap shape_of (sym (rolls-Alternation ns)) ∙ fold-roll-Fragment Tree shape_step (Fragment-F.Alternation ns)

pub shape_of-Options : (n count : ℕ) → shape_of (Options n count) ≡ options n count
shape_of-Options n count = ap shape_of (sym (rolls-Options n count)) ∙ fold-roll-Fragment Tree shape_step (Fragment-F.Options n count)

pub shape_of-Cat : (parts : Vec Fragment Global) → shape_of (Cat parts) ≡ cat (shapes_of parts.items)
shape_of-Cat parts = ap shape_of (sym (rolls-Cat parts)) ∙ fold-roll-Fragment Tree shape_step (Fragment-F.Cat parts)

pub shape_of-Alt : (parts : Vec Fragment Global) → shape_of (Alt parts) ≡ alt (shapes_of parts.items)
shape_of-Alt parts = ap shape_of (sym (rolls-Alt parts)) ∙ fold-roll-Fragment Tree shape_step (Fragment-F.Alt parts)

pub shape_of-Rep : (x : Box Fragment Global) (n : ℕ) → shape_of (Rep x n) ≡ rep (shape_of x.value) n None
shape_of-Rep x n = ap shape_of (sym (rolls-Rep x n)) ∙ fold-roll-Fragment Tree shape_step (Fragment-F.Rep x n)

pub shape_of-LineStart : shape_of LineStart ≡ line_start
shape_of-LineStart = ap shape_of (sym rolls-LineStart) ∙ fold-roll-Fragment Tree shape_step Fragment-F.LineStart

pub shape_of-LineEnd : shape_of LineEnd ≡ line_end
shape_of-LineEnd = ap shape_of (sym rolls-LineEnd) ∙ fold-roll-Fragment Tree shape_step Fragment-F.LineEnd

pub shape_of-WordEdge : shape_of WordEdge ≡ word_edge
shape_of-WordEdge = ap shape_of (sym rolls-WordEdge) ∙ fold-roll-Fragment Tree shape_step Fragment-F.WordEdge

pub shape_of-NotWordEdge : shape_of NotWordEdge ≡ not_word_edge
shape_of-NotWordEdge = ap shape_of (sym rolls-NotWordEdge) ∙ fold-roll-Fragment Tree shape_step Fragment-F.NotWordEdge

-- the shapes from an index on
pub shapes_from : (parts : List Fragment) (i : ℕ) (part : Fragment) → i < length parts → part ≡ get_or parts i part →
    shapes_of (drop i parts) ≡ more (shape_of part) (shapes_of (drop (i + 1) parts))
shapes_from parts i part lt is =
    let next : suc i ≡ i + 1 = omega arith in
    ap shapes_of (drop-cons parts i part lt ∙ ap (λ x. x ∷ drop (suc i) parts) (sym is) ∙ ap (λ n. part ∷ drop n parts) next)

-- a part is pushed
pub shapes_last : (xs : List Fragment) (x : Fragment) → shapes_of (xs ++ x ∷ []) ≡ append (shapes_of xs) (more (shape_of x) none)
shapes_last [] x = refl
shapes_last (y ∷ xs) x = ap (more (shape_of y)) (shapes_last xs x)

pub ruleset part_rules = (
  shape_of-Run,
  shape_of-Options,
  shape_of-Cat,
  shape_of-Alt,
  shape_of-Rep,
  shape_of-LineStart,
  shape_of-LineEnd,
  shape_of-WordEdge,
  shape_of-NotWordEdge,
)

pub shapes_none : (xs : List Fragment) → length xs ≡ 0 → shapes_of xs ≡ none
shapes_none [] h = refl
shapes_none (x ∷ xs) h = absurd (omega (arith, h))

-- a run is pushed
pub runs_last : (ns : List ℕ) (n : ℕ) → runs (ns ++ n ∷ []) ≡ append (runs ns) (more (run (suc n)) none)
runs_last [] n = refl
runs_last (m ∷ ns) n = ap (more (run (suc m))) (runs_last ns n)

pub size_of-Run : (n : ℕ) → size_of (Run n) ≡ 1
size_of-Run n = ap size_of (sym (rolls-Run n)) ∙ fold-roll-Fragment ℕ size_step (Fragment-F.Run n)

pub size_of-Alternation : (ns : List ℕ) → size_of (Alternation ns) ≡ 1 + words (position_count_of (runs ns))
size_of-Alternation ns = ap size_of (sym (rolls-Alternation ns)) ∙ fold-roll-Fragment ℕ size_step (Fragment-F.Alternation ns)

pub size_of-Options : (n count : ℕ) → size_of (Options n count) ≡ 1 + count
size_of-Options n count = ap size_of (sym (rolls-Options n count)) ∙ fold-roll-Fragment ℕ size_step (Fragment-F.Options n count)

pub size_of-Cat : (parts : Vec Fragment Global) → size_of (Cat parts) ≡ 1 + sizes_of parts.items
size_of-Cat parts = ap size_of (sym (rolls-Cat parts)) ∙ fold-roll-Fragment ℕ size_step (Fragment-F.Cat parts)

pub size_of-Alt : (parts : Vec Fragment Global) → size_of (Alt parts) ≡ 1 + sizes_of parts.items
size_of-Alt parts = ap size_of (sym (rolls-Alt parts)) ∙ fold-roll-Fragment ℕ size_step (Fragment-F.Alt parts)

pub size_of-Rep : (x : Box Fragment Global) (n : ℕ) → size_of (Rep x n) ≡ 1 + size_of x.value
size_of-Rep x n = ap size_of (sym (rolls-Rep x n)) ∙ fold-roll-Fragment ℕ size_step (Fragment-F.Rep x n)

pub size_of-LineStart : size_of LineStart ≡ 1
size_of-LineStart = ap size_of (sym rolls-LineStart) ∙ fold-roll-Fragment ℕ size_step Fragment-F.LineStart

pub size_of-LineEnd : size_of LineEnd ≡ 1
size_of-LineEnd = ap size_of (sym rolls-LineEnd) ∙ fold-roll-Fragment ℕ size_step Fragment-F.LineEnd

pub size_of-WordEdge : size_of WordEdge ≡ 1
size_of-WordEdge = ap size_of (sym rolls-WordEdge) ∙ fold-roll-Fragment ℕ size_step Fragment-F.WordEdge

pub size_of-NotWordEdge : size_of NotWordEdge ≡ 1
size_of-NotWordEdge = ap size_of (sym rolls-NotWordEdge) ∙ fold-roll-Fragment ℕ size_step Fragment-F.NotWordEdge

pub sizes_cons : (x : Fragment) (xs : List Fragment) → sizes_of (x ∷ xs) ≡ size_of x + sizes_of xs
sizes_cons x xs = sum_by-cons (λ n. n) (size_of x) (map size_of xs)

-- the sizes from an index on
pub sizes_from : (parts : List Fragment) (i : ℕ) (part : Fragment) → i < length parts → part ≡ get_or parts i part →
    sizes_of (drop i parts) ≡ size_of part + sizes_of (drop (i + 1) parts)
sizes_from parts i part lt is =
    let next : suc i ≡ i + 1 = omega arith in
    ap sizes_of (drop-cons parts i part lt ∙ ap (λ x. x ∷ drop (suc i) parts) (sym is) ∙ ap (λ n. part ∷ drop n parts) next)
    ∙ sizes_cons part (drop (i + 1) parts)

-- a part is pushed
pub sizes_last : (xs : List Fragment) (x : Fragment) → sizes_of (xs ++ x ∷ []) ≡ sizes_of xs + size_of x
sizes_last [] x = omega (arith, sizes_cons x [])
sizes_last (y ∷ xs) x = sizes_cons y (xs ++ x ∷ []) ∙ omega (arith, sizes_last xs x, sizes_cons y xs)

pub ruleset size_rules = (
  size_of-Run,
  size_of-Alternation,
  size_of-Options,
  size_of-Cat,
  size_of-Alt,
  size_of-Rep,
  size_of-LineStart,
  size_of-LineEnd,
  size_of-WordEdge,
  size_of-NotWordEdge,
)

-- a node has at most two positions
mutual
  few_positions : (t : Tree) → position_count t ≤ 2 * nodes t
  few_positions (cat ts) = omega (arith, few_positions_of ts)
  few_positions (alt ts) = omega (arith, few_positions_of ts)
  few_positions (rep x n m) = omega (arith, few_positions x)
  few_positions leaf = omega arith

  few_positions_of : (ts : Trees) → position_count_of ts ≤ 2 * nodes_of ts
  few_positions_of none = omega arith
  few_positions_of (more t ts) = omega (arith, few_positions t, few_positions_of ts)

pub words_few : (ts : Trees) (n : ℕ) → n ≤ position_count_of ts → words n ≤ nodes_of ts
words_few ts n le = omega (arith, few_positions_of ts)
