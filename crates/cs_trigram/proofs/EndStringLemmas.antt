-- End strings of the matches of trees.
use Rattle.std.proofs.Common.{◌≡◌, ℕ, zero, suc, ◌+◌, ◌≤◌, inl, inr, List, [], ◌++◌, reverse, refl, sym, ◌∙◌, ap, subst, arith}
use Rattle.std.specs.Prelude.{None, slice_range}
use Rattle.std.proofs.lemmas.List.{reverse-append}
use Rattle.cs_syntax.specs.Matching.{Tree, Trees, empty, one_of, one_char, cat, alt, rep, line_start, line_end, word_edge, not_word_edge, none, more, Chain, MatchesSpan, MatchesSequence, MatchesBranch}
use Rattle.cs_trigram.specs.EndStrings.{Direction, forward, backward, read, HasSomeEndString}
use Rattle.cs_trigram.specs.declared.end_strings.EndString.{EndString}
use Rattle.cs_trigram.proofs.ExactStringLemmas.{part_split, part_empty}

-- offsets do not decrease along a chain
chain_rises : (R : ℕ → ℕ → Type 0) → ((i j : ℕ) → R i j → i ≤ j) → (k i j : ℕ) → Chain R k i j → i ≤ j
chain_rises R each zero i j c = omega (arith, c)
chain_rises R each (suc k) i j c = let a = each i c.0 c.1 in let b = chain_rises R each k c.0 j c.2 in omega (arith, a, b)

module _ (s : List ℕ) where
  mutual
    pub rises : (t : Tree) (i j : ℕ) → MatchesSpan s t i j → i ≤ j
    rises empty i j h = omega (arith, h)
    rises (one_of set) i j h = omega (arith, h.2)
    rises (one_char runs) i j h = omega (arith, h.2.0)
    rises (cat ts) i j h = rises_all ts i j h
    rises (alt ts) i j h = rises_some ts i j h
    rises (rep x n m) i j h = chain_rises (MatchesSpan s x) (λ a b k. rises x a b k) h.0 i j h.3
    rises line_start i j h = omega (arith, h.0, h.1)
    rises line_end i j h = omega (arith, h.0, h.1)
    rises word_edge i j h = omega (arith, h.0)
    rises not_word_edge i j h = omega (arith, h.0)

    pub rises_all : (ts : Trees) (i j : ℕ) → MatchesSequence s ts i j → i ≤ j
    rises_all none i j h = omega (arith, h)
    rises_all (more t ts) i j h = let a = rises t i h.0 h.1 in let b = rises_all ts h.0 j h.2 in omega (arith, a, b)

    rises_some : (ts : Trees) (i j : ℕ) → MatchesBranch s ts i j → i ≤ j
    rises_some none i j h = absurd h
    rises_some (more t ts) i j h = elim h [ inl a ↦ rises t i j a | inr b ↦ rises_some ts i j b ]

-- the matches of at least n iterations of the tree
abbrev pub MatchesRepeat : ℕ → Tree → List ℕ → ℕ → ℕ → Type 0
MatchesRepeat n t s i j = MatchesSpan s (rep t n None) i j

-- each match has one of the end strings
abbrev pub HaveEndStrings : Direction → List EndString → (List ℕ → ℕ → ℕ → Type 0) → Type 0
HaveEndStrings direction end_strings Matches = (s : List ℕ) (i j : ℕ) → Matches s i j →
    HasSomeEndString end_strings (read direction (slice_range s i j))

pub end_strings_none : (direction : Direction) (end_strings : List EndString) → HasSomeEndString end_strings [] →
    (s : List ℕ) (i j : ℕ) → i ≡ j → HasSomeEndString end_strings (read direction (slice_range s i j))
end_strings_none direction end_strings h s i j e =
    subst (λ (x : List ℕ). HasSomeEndString end_strings (read direction x))
    (sym (part_empty s i) ∙ ap (slice_range s i) e) (bare direction)
  where
    bare : (direction : Direction) → HasSomeEndString end_strings (read direction [])
    bare forward = h
    bare backward = h

-- the end strings of two adjacent spans
module _ (nears fars end_strings : List EndString) (both : (u v : List ℕ) → HasSomeEndString nears u →
    HasSomeEndString fars v → HasSomeEndString end_strings (u ++ v)) (s : List ℕ) (i l j : ℕ) (a : i ≤ l) (b : l ≤ j)
  where
    pub spans_forward : HasSomeEndString nears (slice_range s i l) → HasSomeEndString fars (slice_range s l j) →
        HasSomeEndString end_strings (slice_range s i j)
    spans_forward x y = subst (HasSomeEndString end_strings) (sym (part_split s i l j a b)) (both (slice_range s i l) (slice_range s l j) x y)

    pub spans_backward : HasSomeEndString nears (reverse (slice_range s l j)) →
        HasSomeEndString fars (reverse (slice_range s i l)) → HasSomeEndString end_strings (reverse (slice_range s i j))
    spans_backward x y =
        subst (HasSomeEndString end_strings) (sym (ap reverse (part_split s i l j a b)
        ∙ reverse-append (slice_range s i l) (slice_range s l j)))
        (both (reverse (slice_range s l j)) (reverse (slice_range s i l)) x y)

chain_last : (R : ℕ → ℕ → Type 0) (k i j : ℕ) → Chain R (suc k) i j → (l : ℕ) × Chain R k i l × R l j
chain_last R zero i j c = (i, refl, subst (R i) c.2 c.1)
chain_last R (suc k) i j c = let r = chain_last R k c.0 j c.2 in (r.0, (c.0, c.1, r.1), r.2)

pub iteration_more : (direction : Direction) (once fars end_strings : List EndString) (t : Tree) (n : ℕ) →
    ((u v : List ℕ) → HasSomeEndString once u → HasSomeEndString fars v → HasSomeEndString end_strings (u ++ v)) →
    HaveEndStrings direction once (λ s. MatchesSpan s t) → HaveEndStrings direction fars (MatchesRepeat n t) →
    HaveEndStrings direction end_strings (MatchesRepeat (n + 1) t)
iteration_more direction once fars end_strings t n both a b s i j h = by direction a b h.0 h.1 h.3
  where
    by : (direction : Direction) → HaveEndStrings direction once (λ s. MatchesSpan s t) →
        HaveEndStrings direction fars (MatchesRepeat n t) →
        (k : ℕ) → n + 1 ≤ k → Chain (MatchesSpan s t) k i j → HasSomeEndString end_strings (read direction (slice_range s i j))
    by direction a b zero le c = absurd (omega arith)
    by forward a b (suc k) le c =
        spans_forward once fars end_strings both s i c.0 j (rises s t i c.0 c.1) (chain_rises (MatchesSpan s t) (rises s t) k c.0 j c.2)
        (a s i c.0 c.1) (b s c.0 j (k, omega arith, tt, c.2))
    by backward a b (suc k) le c =
        let r = chain_last (MatchesSpan s t) k i j c in
        spans_backward once fars end_strings both s i r.0 j (chain_rises (MatchesSpan s t) (rises s t) k i r.0 r.1) (rises s t r.0 j r.2)
        (a s r.0 j r.2) (b s i r.0 (k, omega arith, tt, r.1))

-- any number of iterations: none, or at least one
pub iterations_any : (direction : Direction) (some end_strings : List EndString) (t : Tree) →
    HasSomeEndString end_strings [] → ((text : List ℕ) → HasSomeEndString some text → HasSomeEndString end_strings text)
    →
    HaveEndStrings direction some (MatchesRepeat 1 t) → HaveEndStrings direction end_strings (MatchesRepeat 0 t)
iterations_any direction some end_strings t none_fits keep a s i j h = by h.0 h.3
  where
    by : (k : ℕ) → Chain (MatchesSpan s t) k i j → HasSomeEndString end_strings (read direction (slice_range s i j))
    by zero c = end_strings_none direction end_strings none_fits s i j c
    by (suc k) c = keep (read direction (slice_range s i j)) (a s i j (suc k, omega arith, tt, c))
