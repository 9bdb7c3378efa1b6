-- Trees made of trees: their lists, and what they match.
use Rattle.std.proofs.Common.{◌≡◌, ℕ, ◌≤◌, Bool, List, [], ◌∷◌, ◌++◌, length, refl, sym, ap, subst, inl, inr, arith}
use Rattle.std.specs.Prelude.{◌↔◌, Result, Ok, Err, IfOk, IfErr, ◌≢◌, true, false, nat_lt, if◌then◌else◌}
use Rattle.std.proofs.lemmas.Bool.{ltb-true, ltb-false}
use Rattle.cs_syntax.specs.Matching.{Tree, empty, one_of, one_char, cat, alt, rep, line_start, line_end, word_edge, not_word_edge, none, more, MatchesSpan, MatchesBranch}
use Rattle.cs_syntax.specs.Node.{tree_of}
use Rattle.cs_syntax.specs.NodeList.{trees_of}
use Rattle.cs_syntax.specs.TreeList.{append}
use Rattle.cs_syntax.specs.Tokens.{char_tree}
use Rattle.cs_syntax.specs.Quoting.{atoms_of}
use Rattle.cs_syntax.specs.BarredPatterns.{MatchesEither}
use Rattle.cs_syntax.specs.PartialGroups.{with_last}
use Rattle.cs_syntax.specs.Joining.{branches_of, either, pattern_of, MatchesWholeLine}
use Rattle.cs_syntax.specs.ParseErrors.{IsParseError, too_large}
use Rattle.cs_syntax.specs.Parsing.{ParsesAs}
use Rattle.cs_syntax.specs.Weight.{max_weight, weight}
use Rattle.cs_syntax.specs.declared.fault.PatternError.{PatternError}
use Rattle.cs_syntax.specs.declared.fault.PatternFault.TheVariants.{TooLarge, Memory}
use Rattle.cs_syntax.specs.declared.node.Node.{Node}
use Rattle.cs_syntax.proofs.TreeListLemmas.{matches_append}

pub trees_append : (xs ys : List Node) → trees_of (xs ++ ys) ≡ append (trees_of xs) (trees_of ys)
trees_append [] ys = refl
trees_append (x ∷ xs) ys = ap (more (tree_of x)) (trees_append xs ys)

pub atoms_last : (fold : Bool) (chars : List ℕ) (c : ℕ) → atoms_of fold (chars ++ c ∷ []) ≡ with_last (atoms_of fold chars) (char_tree fold c)
atoms_last fold [] c = refl
atoms_last fold (d ∷ chars) c = ap (more (char_tree fold d)) (atoms_last fold chars c)

-- a call that returns what is wanted returns it if it succeeds, and fails with its error
pub is_wanted : (wanted result : Result Tree PatternError) → result ≡ wanted
    → IfOk result (λ p. wanted ≡ Ok p) × IfErr result (λ e. e.fault ≢ Memory → wanted ≡ Err e)
is_wanted wanted (Ok p) is = (sym is, tt)
is_wanted wanted (Err e) is = (tt, λ _. sym is)

one_branch : (line : List ℕ) (i j : ℕ) (t : Tree) → MatchesBranch line (more t none) i j ↔ MatchesSpan line t i j
one_branch line i j t = (λ h. elim h [ inl k ↦ k | inr k ↦ absurd k ], inl)

branches_match : (line : List ℕ) (i j : ℕ) (t : Tree) → MatchesBranch line (branches_of t) i j ↔ MatchesSpan line t i j
branches_match line i j (alt ts) = (λ h. h, λ h. h)
branches_match line i j empty = one_branch line i j empty
branches_match line i j (one_of set) = one_branch line i j (one_of set)
branches_match line i j (one_char ranges) = one_branch line i j (one_char ranges)
branches_match line i j (cat ts) = one_branch line i j (cat ts)
branches_match line i j (rep x n m) = one_branch line i j (rep x n m)
branches_match line i j line_start = one_branch line i j line_start
branches_match line i j line_end = one_branch line i j line_end
branches_match line i j word_edge = one_branch line i j word_edge
branches_match line i j not_word_edge = one_branch line i j not_word_edge

pub matches_either : (x y : Tree) → MatchesEither (either x y) x y
matches_either x y line i j =
    let both = matches_append line i j (branches_of x) (branches_of y) in (
      λ h. elim (both.0 h) [ inl k ↦ inl ((branches_match line i j x).0 k) | inr k ↦ inr ((branches_match line i j y).0 k) ],
      λ h. both.1 (elim h [ inl k ↦ inl ((branches_match line i j x).1 k) | inr k ↦ inr ((branches_match line i j y).1 k) ]),
    )

-- a span from the start to the end is the whole line
whole_span : (t : Tree) (line : List ℕ) (i j : ℕ) → i ≡ 0 → j ≡ length line → MatchesSpan line t i j → MatchesSpan line t 0 (length line)
whole_span t line i j start end h =
    let from : ℕ → Type 0 = λ k. MatchesSpan line t k j in
    let to : ℕ → Type 0 = λ k. MatchesSpan line t 0 k in
    subst to end (subst from start h)

pub matches_whole_line : (t : Tree) → MatchesWholeLine t
matches_whole_line t line = (
  λ h.
      let sequence = h.4 in
      let rest = sequence.2 in
      whole_span t line sequence.0 rest.0 sequence.1.1 rest.2.1.0 rest.1,
  λ span. (0, length line, omega arith, omega arith, (0, (refl, refl), (length line, span, (length line, (refl, refl), refl)))),
)

-- what is said of the result of `parse`
abbrev IsParse : List ℕ → Bool → Result Tree PatternError → Type 0
IsParse text fold result =
    IfOk result (λ p. ParsesAs text fold p) × IfOk result (λ p. weight p ≤ max_weight) × IfErr result (IsParseError text fold)

by_weight : (text : List ℕ) (fold : Bool) (t : Tree) (heavy : Bool) → nat_lt max_weight (weight t) ≡ heavy → ParsesAs text fold t
    → IsParse text fold (if heavy then Err (record { fault = TooLarge; at = 0 }) else Ok t)
by_weight text fold t true is parses = (tt, tt, too_large refl refl t parses (ltb-true max_weight (weight t) is))
by_weight text fold t false is parses = (parses, ltb-false max_weight (weight t) is, tt)

-- a text that parses as a tree is its pattern, or is too heavy
pub parsed_tree : (text : List ℕ) (fold : Bool) (t : Tree) (result : Result Tree PatternError) → ParsesAs text fold t → result ≡ pattern_of t
    → IsParse text fold result
parsed_tree text fold t result parses is =
    subst (IsParse text fold) (sym is) (by_weight text fold t (nat_lt max_weight (weight t)) refl parses)
