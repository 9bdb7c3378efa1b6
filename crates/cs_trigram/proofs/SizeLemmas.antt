-- The sizes of queries, and of the strings that they are made of.
use Rattle.std.proofs.Common.{◌≡◌, ℕ, zero, suc, ◌+◌, ◌-◌, ◌*◌, ◌≤◌, inl, inr, Bool, true, false, List, [], ◌∷◌, ◌++◌, length, map, reverse, Vec, Global, refl, sym, ◌∙◌, ap, subst, arith, max, length-append, length-take}
use Rattle.std.specs.Prelude.{Some, None, nat_le, if◌then◌else◌}
use Rattle.std.specs.List.{All, list_any, sum_by}
use Rattle.std.proofs.lemmas.Bool.{and_parts, false≢true}
use Rattle.std.proofs.lemmas.List.{length-map, length-reverse}
use Rattle.std.proofs.lemmas.List.Elements.{All-nil, All-cons, All-head, All-tail, All-append, All-push}
use Rattle.std.proofs.lemmas.List.Sums.{sum_by-le, sum-map}
use Rattle.std.proofs.lemmas.Nat.{mul-le}
use Rattle.std.proofs.lemmas.Str.{length-encode, len_utf8_bounds}
use Rattle.cs_tree.specs.Cover.{is_among}
use Rattle.cs_syntax.specs.Matching.{Tree, Trees, empty, one_of, one_char, cat, alt, rep, line_start, line_end, word_edge, not_word_edge, none, more}
use Rattle.cs_syntax.specs.Weight.{weight, weights}
use Rattle.cs_trigram.specs.Query.{query_size, query_size_step}
use Rattle.cs_trigram.specs.MayMatch.{IsRepeated, MayMatch, MayMatchSequence, MayMatchBranch}
use Rattle.cs_trigram.specs.ExactStrings.{is_finite, are_finite}
use Rattle.cs_trigram.specs.EndStrings.{AreShort, all_truncated, subsumes, truncated, with_end_string, with_end_strings}
use Rattle.cs_trigram.specs.SequenceQuery.{pairs}
use Rattle.cs_trigram.specs.declared.end_strings.EndString.{EndString}
use Rattle.cs_trigram.specs.declared.queries.Query.{Query, Query-F, fold-roll-Query}
use Rattle.cs_trigram.specs.declared.queries.Query.TheVariants.{All as AllSets, Tri, And, Or, rolls-All, rolls-Tri, rolls-And, rolls-Or}
use Rattle.cs_trigram.proofs.MemberLemmas.{first_member, later_member}

-- ---- queries

pub size-All : query_size AllSets ≡ 1
size-All = ap query_size (sym rolls-All) ∙ fold-roll-Query ℕ query_size_step Query-F.All

pub size-Tri : (n : ℕ) → query_size (Tri n) ≡ 1
size-Tri n = ap query_size (sym (rolls-Tri n)) ∙ fold-roll-Query ℕ query_size_step (Query-F.Tri n)

pub size-And : (members : Vec Query Global) → query_size (And members) ≡ 1 + sum_by query_size members.items
size-And members =
    ap query_size (sym (rolls-And members)) ∙ fold-roll-Query ℕ query_size_step (Query-F.And members)
    ∙ ap (λ n. 1 + n) (sum-map query_size members.items)

pub size-Or : (members : Vec Query Global) → query_size (Or members) ≡ 1 + sum_by query_size members.items
size-Or members =
    ap query_size (sym (rolls-Or members)) ∙ fold-roll-Query ℕ query_size_step (Query-F.Or members)
    ∙ ap (λ n. 1 + n) (sum-map query_size members.items)

-- ---- weights

pub weight_pos : (t : Tree) → 1 ≤ weight t
weight_pos empty = omega arith
weight_pos (one_of set) = omega arith
weight_pos (one_char ranges) = omega arith
weight_pos (cat ts) = omega arith
weight_pos (alt ts) = omega arith
weight_pos (rep x n m) = omega arith
weight_pos line_start = omega arith
weight_pos line_end = omega arith
weight_pos word_edge = omega arith
weight_pos not_word_edge = omega arith

-- ---- exact strings have at most four bytes for each unit of the weight

repeated_short : (P : List ℕ → Type 0) (w : ℕ) → ((text : List ℕ) → P text → length text ≤ 4 * w) → (k : ℕ) (text : List ℕ) →
    IsRepeated P k text → length text ≤ 4 * (k * w)
repeated_short P w each zero text r = omega (arith, ap length r)
repeated_short P w each (suc k) text r =
    let first = each r.0 r.2 in
    let rest = repeated_short P w each k r.1 r.3 in
    omega (arith, ap length r.4, length-append r.0 r.1, first, rest)

within_copies : (len k copies w : ℕ) → len ≤ 4 * (k * w) → k ≤ copies → len ≤ 4 * (1 + copies * w)
within_copies len k copies w short few = omega (arith, short, mul-le k w copies w few (omega arith))

mutual
  pub string_short : (t : Tree) (text : List ℕ) → is_finite t ≡ true → MayMatch true t text → length text ≤ 4 * weight t
  string_short (one_of set) text finite h = omega (arith, ap length h.2)
  string_short (one_char ranges) text finite h =
      omega (arith, ap length h.2, length-encode h.0, (len_utf8_bounds h.0).1)
  string_short (cat ts) text finite h = let rest = strings_short ts text finite h in omega (arith, rest)
  string_short (alt ts) text finite h = let rest = branches_short ts text finite h in omega (arith, rest)
  string_short (rep x n None) text finite h = absurd (false≢true finite)
  string_short (rep x n (Some m)) text finite h =
      let parts = and_parts (nat_le n m) (is_finite x) finite in
      let le : h.0 ≤ m = h.2 in
      let bound : h.0 ≤ max m 1 = omega (arith, le) in
      within_copies (length text) h.0 (max m 1) (weight x)
      (repeated_short (MayMatch true x) (weight x) (λ v p. string_short x v parts.1 p) h.0 text h.3) bound
  string_short empty text finite h = omega (arith, ap length h)
  string_short line_start text finite h = omega (arith, ap length h)
  string_short line_end text finite h = omega (arith, ap length h)
  string_short word_edge text finite h = omega (arith, ap length h)
  string_short not_word_edge text finite h = omega (arith, ap length h)

  pub strings_short : (ts : Trees) (text : List ℕ) → are_finite ts ≡ true → MayMatchSequence true ts text → length text ≤ 4 * weights ts
  strings_short none text finite h = omega (arith, ap length h)
  strings_short (more t ts) text finite h =
      let parts = and_parts (is_finite t) (are_finite ts) finite in
      let first = string_short t h.0 parts.0 h.2 in
      let rest = strings_short ts h.1 parts.1 h.3 in
      omega (arith, ap length h.4, length-append h.0 h.1, first, rest)

  branches_short : (ts : Trees) (text : List ℕ) → are_finite ts ≡ true → MayMatchBranch true ts text → length text ≤ 4 * weights ts
  branches_short none text finite h = absurd h
  branches_short (more t ts) text finite h =
      let parts = and_parts (is_finite t) (are_finite ts) finite in
      elim h [
        | inl a ↦ let first = string_short t text parts.0 a in omega (arith, first)
        | inr b ↦ let rest = branches_short ts text parts.1 b in omega (arith, rest)
      ]

-- a property of each string of a list
each_among : (P : List ℕ → Type 0) (strings : List (List ℕ)) →
    ((string : List ℕ) → is_among strings string ≡ true → P string) → All P strings
each_among P [] each = All-nil P
each_among P (w ∷ strings) each =
    All-cons P w strings (each w (first_member w w strings refl)) (each_among P strings (λ v m. each v (later_member v w strings m)))

-- at most twenty strings of a bounded length
pub few_short : (strings : List (List ℕ)) (bound : ℕ) → length strings ≤ 20 →
    ((string : List ℕ) → is_among strings string ≡ true → length string ≤ bound) →
    sum_by (λ string. length string - 1) strings ≤ 20 * bound
few_short strings bound few each =
    let all = sum_by-le (λ (string : List ℕ). length string - 1) bound strings
    (each_among (λ string. length string - 1 ≤ bound) strings (λ v m. omega (arith, each v m))) in
    omega (arith, all, mul-le (length strings) bound 20 bound few (omega arith))

-- ---- end strings

abbrev pub IsShort : ℕ → EndString → Type 0
IsShort n end_string = length end_string.string ≤ n

-- truncated end strings are short
truncated_short : (n : ℕ) (end_strings others : List EndString) → AreShort n end_strings →
    AreShort n (with_end_strings end_strings (map (truncated n) others))
truncated_short n end_strings [] short = short
truncated_short n end_strings (x ∷ others) short =
    truncated_short n (with_end_string end_strings (truncated n x)) others
    (by (list_any (λ other. subsumes other (truncated n x)) end_strings))
  where
    by : (b : Bool) → AreShort n (if b then end_strings else end_strings ++ truncated n x ∷ [])
    by true = short
    by false = All-push (IsShort n) end_strings (truncated n x) short (omega (arith, length-take n x.string))

pub short_as : (n : ℕ) (short xs : List EndString) → short ≡ all_truncated n xs → AreShort n short
short_as n short xs is = subst (AreShort n) (sym is) (truncated_short n [] xs (All-nil (IsShort n)))

-- the strings of short suffixes and prefixes
module _ (a b : ℕ) (prefixes : List EndString) (short : AreShort b prefixes) where
  abbrev Small : List ℕ → Type 0
  Small string = length string - 1 ≤ a + b - 1

  with_suffix : (suffix : EndString) → IsShort a suffix → (ps : List EndString) → AreShort b ps →
      All Small (map (λ (prefix : EndString). reverse suffix.string ++ prefix.string) ps)
  with_suffix suffix le [] each = All-nil Small
  with_suffix suffix le (p ∷ ps) each =
      let one = All-head (IsShort b) p ps each in
      All-cons Small (reverse suffix.string ++ p.string) _
      (omega (arith, length-append (reverse suffix.string) p.string, length-reverse suffix.string, le, one))
      (with_suffix suffix le ps (All-tail (IsShort b) p ps each))

  pairs_small : (suffixes : List EndString) → AreShort a suffixes → All Small (pairs suffixes prefixes)
  pairs_small [] each = All-nil Small
  pairs_small (s ∷ suffixes) each =
      All-append Small (map (λ (prefix : EndString). reverse s.string ++ prefix.string) prefixes) (pairs suffixes prefixes)
      (with_suffix s (All-head (IsShort a) s suffixes each) prefixes short)
      (pairs_small suffixes (All-tail (IsShort a) s suffixes each))

  length-pairs : (suffixes : List EndString) → length (pairs suffixes prefixes) ≡ length suffixes * length prefixes
  length-pairs [] = omega arith
  length-pairs (s ∷ suffixes) =
      let rest = length-pairs suffixes in
      omega (
        arith,
        rest,
        length-map prefixes (λ (prefix : EndString). reverse s.string ++ prefix.string),
        length-append (map (λ (prefix : EndString). reverse s.string ++ prefix.string) prefixes) (pairs suffixes prefixes),
      )

  -- at most 256 pairs
  pub few_pairs : (suffixes : List EndString) → AreShort a suffixes → length suffixes * length prefixes ≤ 256 →
      sum_by (λ string. length string - 1) (pairs suffixes prefixes) ≤ 256 * (a + b - 1)
  few_pairs suffixes each few =
      let all = sum_by-le (λ (string : List ℕ). length string - 1) (a + b - 1) (pairs suffixes prefixes) (pairs_small suffixes each) in
      let count = length-pairs suffixes in
      let le : length (pairs suffixes prefixes) ≤ 256 = omega (arith, count, few) in
      omega (arith, all, mul-le (length (pairs suffixes prefixes)) (a + b - 1) 256 (a + b - 1) le (omega arith))
