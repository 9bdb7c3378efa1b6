-- An injective encoding of trees as lists of symbols. It makes equality of trees decidable.
use Rattle.std.specs.Prelude.{ℕ, zero, suc, ◌≡◌, ◌⊎◌, Bool, List, [], ◌∷◌, Option, refl}
use Rattle.std.proofs.Common.{ap, ◌∙◌, inl, inr}
use Rattle.std.specs.Coded.{Coded, code_by, coded_ℕ, coded_bool, coded_list, coded_option, coded×, coded⊎}
use Rattle.cs_syntax.specs.Matching.{Tree, Trees, empty, one_of, one_char, cat, alt, rep, line_start, line_end, word_edge, not_word_edge, none, more}

-- a set of bytes, a set of characters, the counts of a repeat, or one of the eight other symbols by its number
abbrev pub Symbol : Type 0
Symbol = List Bool ⊎ (List (ℕ × ℕ) ⊎ ((ℕ × Option ℕ) ⊎ ℕ))

abbrev pub symbol : ℕ → Symbol
symbol k = inr (inr (inr k))

-- the symbols of a tree, before the symbols `after` it; those of a list of trees end in symbol 0
abbrev mutual
  pub symbols : Tree → List Symbol → List Symbol
  symbols empty after = symbol 3 ∷ after
  symbols (one_of set) after = inl set ∷ after
  symbols (one_char ranges) after = inr (inl ranges) ∷ after
  symbols (cat ts) after = symbol 1 ∷ all_symbols ts after
  symbols (alt ts) after = symbol 2 ∷ all_symbols ts after
  symbols (rep x n m) after = inr (inr (inl (n, m))) ∷ symbols x (symbol 0 ∷ after)
  symbols line_start after = symbol 4 ∷ after
  symbols line_end after = symbol 5 ∷ after
  symbols word_edge after = symbol 6 ∷ after
  symbols not_word_edge after = symbol 7 ∷ after

  pub all_symbols : Trees → List Symbol → List Symbol
  all_symbols none after = symbol 0 ∷ after
  all_symbols (more t ts) after = symbols t (all_symbols ts after)

-- adds a tree to the first list
abbrev pub put : Tree → List Trees → List Trees
put t [] = []
put t (ts ∷ lists) = more t ts ∷ lists

-- turns the first list into one tree of the next list
abbrev pub gather : (Trees → Tree) → List Trees → List Trees
gather f [] = []
gather f (ts ∷ lists) = put (f ts) lists

abbrev pub first_tree : Trees → Tree
first_tree none = empty
first_tree (more t ts) = t

abbrev pub by_symbol : ℕ → List Trees → List Trees
by_symbol zero lists = none ∷ lists
by_symbol (suc zero) lists = gather cat lists
by_symbol (suc (suc zero)) lists = gather alt lists
by_symbol (suc (suc (suc zero))) lists = put empty lists
by_symbol (suc (suc (suc (suc zero)))) lists = put line_start lists
by_symbol (suc (suc (suc (suc (suc zero))))) lists = put line_end lists
by_symbol (suc (suc (suc (suc (suc (suc zero)))))) lists = put word_edge lists
by_symbol (suc (suc (suc (suc (suc (suc (suc k))))))) lists = put not_word_edge lists

-- decodes the symbols
abbrev pub tree_lists : List Symbol → List Trees
tree_lists [] = none ∷ []
tree_lists (inl set ∷ after) = put (one_of set) (tree_lists after)
tree_lists (inr (inl ranges) ∷ after) = put (one_char ranges) (tree_lists after)
tree_lists (inr (inr (inl r)) ∷ after) = gather (λ ts. rep (first_tree ts) r.0 r.1) (tree_lists after)
tree_lists (inr (inr (inr k)) ∷ after) = by_symbol k (tree_lists after)

mutual
  pub tree_lists-symbols : (t : Tree) (after : List Symbol)
      → tree_lists (symbols t after) ≡ put t (tree_lists after)
  tree_lists-symbols empty after = refl
  tree_lists-symbols (one_of set) after = refl
  tree_lists-symbols (one_char ranges) after = refl
  tree_lists-symbols (cat ts) after = ap (gather cat) (tree_lists-all_symbols ts after)
  tree_lists-symbols (alt ts) after = ap (gather alt) (tree_lists-all_symbols ts after)
  tree_lists-symbols (rep x n m) after =
      ap (gather (λ ts. rep (first_tree ts) n m)) (tree_lists-symbols x (symbol 0 ∷ after))
  tree_lists-symbols line_start after = refl
  tree_lists-symbols line_end after = refl
  tree_lists-symbols word_edge after = refl
  tree_lists-symbols not_word_edge after = refl

  pub tree_lists-all_symbols : (ts : Trees) (after : List Symbol)
      → tree_lists (all_symbols ts after) ≡ ts ∷ tree_lists after
  tree_lists-all_symbols none after = refl
  tree_lists-all_symbols (more t ts) after =
      tree_lists-symbols t (all_symbols ts after) ∙ ap (put t) (tree_lists-all_symbols ts after)

abbrev pub decoded : List Trees → Tree
decoded [] = empty
decoded (ts ∷ lists) = first_tree ts

abbrev pub tree_code : Coded Tree
tree_code =
    code_by (List Symbol)
    (coded_list (coded⊎ (coded_list coded_bool) (coded⊎ (coded_list (coded× coded_ℕ coded_ℕ))
    (coded⊎ (coded× coded_ℕ (coded_option coded_ℕ)) coded_ℕ))))
    (λ t. symbols t []) (λ ms. decoded (tree_lists ms)) (λ t. ap decoded (tree_lists-symbols t []))
