-- Names that are tested as the lines of a block.
use Rattle.std.proofs.Common.{◌≡◌, ℕ, ◌+◌, ◌-◌, ◌<◌, ◌≤◌, Bool, true, false, cond, nat_eq, List, [], ◌∷◌, ◌++◌, length, map, take, drop, get_or, refl, sym, ap, ◌∙◌, Option, Result, Ok, Err, arith, append-nil, append_assoc}
use Rattle.std.specs.Prelude.{All, IsUtf8, filter, slice_get, String, string_bytes}
use Rattle.std.specs.List.{AllByRecursion, cons_option}
use Rattle.std.specs.Result.{IsOkAnd}
use Rattle.std.specs.declared.alloc.Global.{Global}
use Rattle.std.proofs.lemmas.List.{drop-drop, map-append, take-append-drop}
use Rattle.std.proofs.lemmas.List.Concat.{flat_map-append}
use Rattle.std.proofs.lemmas.List.Elements.{All-head, All-tail, filter-append, filter_map-append}
use Rattle.std.proofs.lemmas.Option.{slice_get-get_or}
use Rattle.cs_syntax.specs.Matching.{Tree}
use Rattle.cs_match.specs.Deciding.{Decides}
use Rattle.cs_match.specs.Lines.{newline, terminated_lines, with_byte_in_line}
use Rattle.cs_match.specs.NoNewline.{HasNoNewline}
use Rattle.cs_match.specs.Skipping.{IsLineAfter, NoneMatch}
use Rattle.cs_match.proofs.LinesLemmas.{length-terminated_append, terminated_lines-line}
use Rattle.cs_match.proofs.WholeLineLemmas.{terminated_lines-whole}
use Rattle.cs_search.specs.IndexSearch.{AreKept, DecidesNames, names_at}
use Rattle.cs_search.specs.Selections.{IsBlockOf, PushesMatching, as_lines}

-- what an `Ok` implies
pub ok_and : {A E : Type 0} {P Q : A → Type 0} (result : Result A E) → ((a : A) → P a → Q a) → IsOkAnd result P → IsOkAnd result Q
ok_and (Ok a) f p = f a p
ok_and (Err e) f p = p

-- ---- the names with some ids

pub names_more : (names : List (List ℕ)) (ids : List ℕ) (id : ℕ) → id < length names →
    names_at names (ids ++ id ∷ []) ≡ names_at names ids ++ get_or names id [] ∷ []
unfolding names_at
names_more names ids id low =
    filter_map-append (slice_get names) ids (id ∷ [])
    ∙ ap (λ (o : Option (List ℕ)). names_at names ids ++ cons_option o []) (slice_get-get_or names id [] low)

pub length-names_at : (names : List (List ℕ)) (ids : List ℕ) → All (λ id. id < length names) ids →
    length (names_at names ids) ≡ length ids
unfolding names_at
length-names_at names [] below = refl
length-names_at names (id ∷ ids) below =
    let low = All-head (λ id. id < length names) id ids below in
    let rest = length-names_at names ids (All-tail (λ id. id < length names) id ids below) in
    omega (arith, rest, ap (λ (o : Option (List ℕ)). length (cons_option o (names_at names ids))) (slice_get-get_or names id [] low))

-- more names were tested
pub kept_on : (file : Option Tree) (names : List (List ℕ)) (done ids : List ℕ) (texts texts' : List (String Global)) →
    AreKept file names done texts →
    ((keeps : List ℕ → Bool) → DecidesNames keeps file →
    map string_bytes texts' ≡ map string_bytes texts ++ filter keeps (names_at names ids)) →
    AreKept file names (done ++ ids) texts'
unfolding names_at
kept_on file names done ids texts texts' kept more = λ keeps decides.
    more keeps decides ∙ ap (λ ts. ts ++ filter keeps (names_at names ids)) (kept keeps decides)
    ∙ sym (ap (filter keeps) (filter_map-append (slice_get names) done ids) ∙ filter-append keeps (names_at names done) (names_at names ids))

-- ---- the names of a block

all_push : (names : List (List ℕ)) (name : List ℕ) → AllByRecursion IsUtf8 names → IsUtf8 name →
    AllByRecursion IsUtf8 (names ++ name ∷ [])
all_push [] name all here = (here, tt)
all_push (first ∷ names) name all here = (all.0, all_push names name all.1 here)

pub all_rest : (names more : List (List ℕ)) → AllByRecursion IsUtf8 (names ++ more) → AllByRecursion IsUtf8 more
all_rest [] more all = all
all_rest (name ∷ names) more all = all_rest names more all.1

pub block_none : (names : List (List ℕ)) → IsBlockOf (names_at names []) []
unfolding names_at
block_none names = (refl, tt)

pub block_more : (names : List (List ℕ)) (block name : List ℕ) → IsBlockOf names block → IsUtf8 name →
    IsBlockOf (names ++ name ∷ []) ((block ++ name) ++ newline ∷ [])
block_more names block name is here = (
  append_assoc block name (newline ∷ [])
      ∙ ap (λ b. b ++ (name ++ newline ∷ [])) is.0
      ∙ ap (λ b. as_lines names ++ b) (sym (append-nil (name ++ newline ∷ [])))
      ∙ sym (flat_map-append (λ (n : List ℕ). n ++ newline ∷ []) names (name ∷ [])),
  all_push names name is.1 here,
)

-- ---- their lines

none_first : (b : ℕ) (t : Bool) → nat_eq b newline ≡ t → (ls : List (List ℕ)) →
    length (cond t ([] ∷ ls) (with_byte_in_line b ls)) ≡ 0 → (nat_eq b newline ≡ false) × (length ls ≡ 0)
none_first b true is ls none = absurd (omega (arith, none))
none_first b false is [] none = (is, refl)
none_first b false is (l ∷ ls) none = absurd (omega (arith, none))

no_newline : (text : List ℕ) → length (terminated_lines text) ≡ 0 → HasNoNewline text
unfolding terminated_lines
no_newline [] none = tt
no_newline (b ∷ text) none =
    let first = none_first b (nat_eq b newline) refl (terminated_lines text) none in
    (first.0, no_newline text first.1)

-- a name has at least one line
lines_after : (name : List ℕ) (names : List (List ℕ)) →
    length (terminated_lines (as_lines (name ∷ names))) ≡ length (terminated_lines name) + 1 + length (terminated_lines (as_lines names))
unfolding terminated_lines
lines_after name names =
    length-terminated_append (name ++ newline ∷ []) (as_lines names)
    ∙ ap (λ n. n + length (terminated_lines (as_lines names))) (length-terminated_append name (newline ∷ []))

at_least : (names : List (List ℕ)) → length names ≤ length (terminated_lines (as_lines names))
at_least [] = omega arith
at_least (name ∷ names) = omega (arith, lines_after name names, at_least names)

-- if there are as many lines as names, the lines are the names
pub lines_are : (names : List (List ℕ)) → length (terminated_lines (as_lines names)) ≡ length names →
    terminated_lines (as_lines names) ≡ names
unfolding terminated_lines
lines_are [] same = refl
lines_are (name ∷ names) same =
    let after = lines_after name names in
    let least = at_least names in
    ap terminated_lines (append_assoc name (newline ∷ []) (as_lines names))
    ∙ terminated_lines-line name (as_lines names) (no_newline name (omega (arith, same, after, least)))
    ∙ ap (λ (ls : List (List ℕ)). name ∷ ls) (lines_are names (omega (arith, same, after, least)))

-- a block with as many lines as ids has the names with these ids as its lines
pub block_lines : (names : List (List ℕ)) (ids block : List ℕ) → All (λ id. id < length names) ids →
    block ≡ as_lines (names_at names ids) → length (terminated_lines block) ≡ length ids → terminated_lines block ≡ names_at names ids
block_lines names ids block below is same =
    let lines = ap terminated_lines is in
    lines ∙ lines_are (names_at names ids) (ap (λ (ls : List (List ℕ)). length ls) (sym lines) ∙ same ∙ sym (length-names_at names ids below))

-- ---- the matching lines of a block

-- the lines from an offset on: those before a line, this one, and those after it
pub lines_from : (block : List ℕ) (from start end : ℕ) → IsLineAfter block from start end →
    terminated_lines (drop from block) ≡ terminated_lines (take (start - from) (drop from block))
    ++ take (end - start) (drop start block) ∷ terminated_lines (drop (end + 1) block)
lines_from block from start end line =
    let before = take (start - from) (drop from block) in
    let own = take (end - start) (drop start block) in
    let low : from + (start - from) ≡ start = omega (arith, line.low) in
    let order : start + (end - start) ≡ end = omega (arith, line.order) in
    ap terminated_lines (sym (take-append-drop (start - from) (drop from block))
    ∙ ap (λ rest. before ++ rest) (drop-drop (start - from) from block ∙ ap (λ n. drop n block) low))
    ∙ terminated_lines-whole (drop start block) before line.before
    ∙ ap (λ ls. terminated_lines before ++ ls) (ap terminated_lines (sym (take-append-drop (end - start) (drop start block))
    ∙ ap (λ rest. own ++ rest) (drop-drop (end - start) start block ∙ ap (λ n. drop n block) order ∙ line.newline))
    ∙ terminated_lines-line own (drop (end + 1) block) line.part)

filter_none : (keeps : List ℕ → Bool) (lines : List (List ℕ)) → NoneMatch keeps lines → filter keeps lines ≡ []
filter_none keeps [] none = refl
filter_none keeps (line ∷ lines) none =
    rw (All-head (λ l. keeps l ≡ false) line lines none) (filter_none keeps lines (All-tail (λ l. keeps l ≡ false) line lines none))

-- what is pushed, from an offset on
abbrev pub PushesFrom : Tree → List ℕ → ℕ → List (String Global) → List (String Global) → Type 0
PushesFrom tree block from texts now = (keeps : List ℕ → Bool) → Decides keeps tree →
    map string_bytes texts ++ filter keeps (terminated_lines block) ≡ map string_bytes now ++ filter keeps (terminated_lines (drop from block))

-- a matching line is pushed
pub pushes_line : (tree : Tree) (block : List ℕ) (from start end : ℕ) (texts now : List (String Global)) (text : String Global) →
    PushesFrom tree block from texts now → IsLineAfter block from start end →
    ((keeps : List ℕ → Bool) → Decides keeps tree → NoneMatch keeps (terminated_lines (take (start - from) (drop from block)))) →
    ((keeps : List ℕ → Bool) → Decides keeps tree → keeps (take (end - start) (drop start block)) ≡ true) →
    string_bytes text ≡ take (end - start) (drop start block) → PushesFrom tree block (end + 1) texts (now ++ text ∷ [])
pushes_line tree block from start end texts now text pushed line none found same = λ keeps decides.
    let before = terminated_lines (take (start - from) (drop from block)) in
    let own = take (end - start) (drop start block) in
    let rest = terminated_lines (drop (end + 1) block) in
    let step : filter keeps (terminated_lines (drop from block)) ≡ own ∷ filter keeps rest =
    ap (filter keeps) (lines_from block from start end line) ∙ filter-append keeps before (own ∷ rest)
    ∙ ap (λ (ls : List (List ℕ)). ls ++ filter keeps (own ∷ rest)) (filter_none keeps before (none keeps decides))
    ∙ ap (λ (t : Bool). cond t (own ∷ filter keeps rest) (filter keeps rest)) (found keeps decides) in
    pushed keeps decides ∙ ap (λ ls. map string_bytes now ++ ls) step
    ∙ sym (ap (λ (ls : List (List ℕ)). ls ++ filter keeps rest) (map-append string_bytes now (text ∷ [])
    ∙ ap (λ (t : List ℕ). map string_bytes now ++ t ∷ []) same) ∙ append_assoc (map string_bytes now) (own ∷ []) (filter keeps rest))

-- no more line matches
pub pushes_all : (tree : Tree) (block : List ℕ) (from : ℕ) (texts now : List (String Global)) → PushesFrom tree block from texts now →
    ((keeps : List ℕ → Bool) → Decides keeps tree → NoneMatch keeps (terminated_lines (drop from block))) →
    PushesMatching tree (terminated_lines block) texts now
pushes_all tree block from texts now pushed none = λ keeps decides.
    sym (pushed keeps decides ∙ ap (λ (ls : List (List ℕ)). map string_bytes now ++ ls)
    (filter_none keeps (terminated_lines (drop from block)) (none keeps decides)) ∙ append-nil (map string_bytes now))
