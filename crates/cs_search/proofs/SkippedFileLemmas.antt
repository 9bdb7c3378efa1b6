-- Files that a query excludes have no matching line, if they read as they were indexed.
use Rattle.std.proofs.Common.{◌≡◌, ℕ, ◌+◌, ◌<◌, ◌≤◌, Bool, true, false, cond, nat_lt, ◌&&◌, ◌||◌, List, [], ◌∷◌, ◌++◌, length, map, refl, sym, ap, subst, ◌∙◌, arith, eq-eqb, Option, Some, None, append_assoc, append-nil, length-append, not}
use Rattle.cs_tree.specs.TreeAnswers.{opening_of}
use Rattle.std.specs.Prelude.{nat_eq, nat_le, filter}
use Rattle.std.specs.List.{list_all, AllByRecursion, onto_first}
use Rattle.std.proofs.lemmas.Bool.{true≢false, and_from, leb-false, le-ltb}
use Rattle.std.proofs.Math.Bool.{or-true}
use Rattle.std.proofs.lemmas.List.{take_all}
use Rattle.cs_syntax.specs.Matching.{Tree}
use Rattle.cs_match.specs.Deciding.{Decides}
use Rattle.cs_tree.specs.StreamModels.{SourceModel, ends}
use Rattle.cs_tree.specs.Snapshot.{Snapshot, Item, file, item_at}
use Rattle.cs_tree.specs.Reachability.{read_item}
use Rattle.cs_trigram.specs.Trigram.{tri, has}
use Rattle.cs_trigram.specs.Text.{rule_broken, first_broken, too_many, skip, text_trigrams, limits, valid_utf8_pair, last_byte, line_so_far}
use Rattle.cs_trigram.specs.declared.scan.Limits.{Limits}
use Rattle.cs_trigram.specs.declared.scan.Reason.{Reason}
use Rattle.cs_trigram.specs.declared.scan.Reason.TheVariants.{Nul, Utf8, TooLong as TooManyBytes, LongLine}
use Rattle.cs_trigram.proofs.RuleLemmas.{option_or-none}
use Rattle.cs_trigram.proofs.LawLemmas.{has-part_of, none_skipped}
use Rattle.cs_trigram.specs.Query.{matches_set, HasTrigrams, LosesNoLine}
use Rattle.cs_trigram.specs.declared.queries.Query.{Query}
use Rattle.cs_index.specs.Encoding.{Entry}
use Rattle.cs_history.specs.FileTrigrams.{ReadAsIndexed}
use Rattle.cs_args.specs.declared.jobs.Tool.{Tool}
use Rattle.cs_args.specs.declared.jobs.Style.{Style}
use Rattle.cs_search.specs.declared.status.ReadFault.{ReadFault}
use Rattle.cs_search.specs.declared.status.ReadFault.TheVariants.{TooLong}
use Rattle.cs_search.specs.InputReport.{max_searched}
use Rattle.cs_match.specs.Lines.{newline, lines}
use Rattle.cs_search.specs.Report.{Report, MatchingLine, matches_from, any_match, name_line, matches_output, report}
use Rattle.cs_search.specs.InputReport.{input_report}
use Rattle.cs_search.specs.Printed.{Printed, input_printed, opened_printed, file_printed, all_printed, both_printed}
use Rattle.cs_search.proofs.PrintedInputLemmas.{none_printed, fault_text}
use Rattle.cs_search.proofs.StyleTotalLemmas.{kept_fault}

-- ---- the lines of a text are substrings of it

begins : (text : List ℕ) (line : List ℕ) (rest : List (List ℕ)) → lines text ≡ line ∷ rest → (more : List ℕ) × (text ≡ line ++ more)
unfolding lines
begins [] line rest e = cc
begins (b ∷ text) line rest e = by_test (nat_eq b newline) (lines text) (begins text) refl e
  where
    by_lines : (ls : List (List ℕ)) → ((l : List ℕ) (ls : List (List ℕ)) → lines text ≡ l ∷ ls →
        (more : List ℕ) × (text ≡ l ++ more)) → lines text ≡ ls → onto_first b ls ≡ line ∷ rest →
        (more : List ℕ) × (b ∷ text ≡ line ++ more)
    by_lines [] later is h = let prefix : b ∷ [] ≡ line = cc in (text, ap (λ (l : List ℕ). l ++ text) prefix)
    by_lines (l ∷ ls) later is h =
        let prefix : b ∷ l ≡ line = cc in
        let more = later l ls is in
        (more.0, ap (λ (t : List ℕ). b ∷ t) more.1 ∙ ap (λ (t : List ℕ). t ++ more.0) prefix)

    by_test : (test : Bool) (ls : List (List ℕ)) →
        ((l : List ℕ) (ls : List (List ℕ)) → lines text ≡ l ∷ ls → (more : List ℕ) × (text ≡ l ++ more)) → lines text
        ≡ ls → cond test ([] ∷ ls) (onto_first b ls) ≡ line ∷ rest → (more : List ℕ) × (b ∷ text ≡ line ++ more)
    by_test true ls later is h = let none : [] ≡ line = cc in (b ∷ text, ap (λ (l : List ℕ). l ++ b ∷ text) none)
    by_test false ls later is h = by_lines ls later is h

module _ (P : List ℕ → Type 0) (prefix : (u v : List ℕ) → P (u ++ v) → P u) (back : (u v : List ℕ) → P (u ++ v) → P v) where
  parts_have : (text : List ℕ) → P text → AllByRecursion P (lines text)
  unfolding lines
  parts_have [] h = tt
  parts_have (b ∷ text) h =
      elim (nat_eq b newline) as (λ t. AllByRecursion P (cond t ([] ∷ lines text) (onto_first b (lines text)))) [
        | true ↦ (prefix [] (b ∷ text) h, parts_have text (back (b ∷ []) text h))
        | false ↦ by_lines (lines text) refl (parts_have text (back (b ∷ []) text h))
      ]
    where
      by_lines : (ls : List (List ℕ)) → lines text ≡ ls → AllByRecursion P ls → AllByRecursion P (onto_first b ls)
      by_lines [] is all = (prefix (b ∷ []) text h, tt)
      by_lines (l ∷ ls) is all =
          let more = begins text l ls is in
          (prefix (b ∷ l) more.0 (subst P (ap (λ (t : List ℕ). b ∷ t) more.1) h), all.1)

-- ---- the trigrams of each line are trigrams of the text

all_of : (set : ℕ → Bool) (ns : List ℕ) → ((n : ℕ) → has ns n ≡ true → set n ≡ true) → list_all set ns ≡ true
all_of set [] h = refl
all_of set (n ∷ ns) h =
    and_from (set n) (list_all set ns) (h n (ap (λ b. b || has ns n) (eq-eqb n n refl)))
    (all_of set ns (λ m there. h m (ap (λ b. nat_eq n m || b) there ∙ or-true (nat_eq n m))))

-- each trigram of the part is one of the text
abbrev Knows : List ℕ → List ℕ → Type 0
Knows text part = (n : ℕ) → has (tri part) n ≡ true → has (tri text) n ≡ true

pub lines_known : (text : List ℕ) → AllByRecursion (HasTrigrams (has (tri text))) (lines text)
lines_known text =
    each (lines text) (parts_have (Knows text) (λ u v known n there. known n (has-part_of [] u v n there))
    (λ u v known n there. known n (subst (λ (end : List ℕ). has (tri (u ++ end)) n ≡ true) (append-nil v)
    (has-part_of u v [] n there))) text (λ n there. there))
  where
    each : (ls : List (List ℕ)) → AllByRecursion (Knows text) ls → AllByRecursion (HasTrigrams (has (tri text))) ls
    each [] all = tt
    each (line ∷ ls) all = (all_of (has (tri text)) (tri line) all.0, each ls all.1)

-- ---- no matching line

no_matches : (n : ℕ) (has_match : List ℕ → Bool) (ls : List (List ℕ)) → AllByRecursion (λ line. has_match line ≡ false)
    ls → matches_from n has_match ls ≡ []
unfolding matches_from
no_matches n has_match [] all = refl
no_matches n has_match (line ∷ ls) all =
    ap (λ b. cond b ((n, line) ∷ matches_from (n + 1) has_match ls) (matches_from (n + 1) has_match ls)) all.0
    ∙ no_matches (n + 1) has_match ls all.1

module _ (query : Query) (pattern : Tree) (loses : LosesNoLine query pattern) (has_match : List ℕ → Bool)
    (decides : Decides has_match pattern) (set : ℕ → Bool) (out : matches_set query set ≡ false) where
  not_found : (line : List ℕ) → HasTrigrams set line → has_match line ≡ false
  not_found line has = by_test (has_match line) refl
    where
      by_test : (test : Bool) → has_match line ≡ test → test ≡ false
      by_test true e = absurd (true≢false (sym (loses line set ((decides line).0 e) has) ∙ out))
      by_test false e = refl

  none_found : (ls : List (List ℕ)) → AllByRecursion (HasTrigrams set) ls → AllByRecursion (λ line. has_match line ≡ false) ls
  none_found [] all = tt
  none_found (line ∷ ls) all = (not_found line all.0, none_found ls all.1)

  no_matches_in : (text : List ℕ) → AllByRecursion (HasTrigrams set) (lines text) → matches_from 1 has_match (lines text) ≡ []
  no_matches_in text known = no_matches 1 has_match (lines text) (none_found (lines text) known)

-- ---- what is printed for a text

nothing_found : (style : Style) (name : List ℕ) → matches_output style name true [] ≡ []
unfolding matches_output name_line
nothing_found style name =
    elim style.list as (λ l. cond {A = List ℕ} l [] (cond style.count [] []) ≡ []) [
      | true ↦ refl
      | false ↦ elim style.count as (λ k. cond {A = List ℕ} k [] [] ≡ []) [ true ↦ refl | false ↦ refl ]
    ]

module _ (limit : ℕ) (style : Style) (has_match : List ℕ → Bool) (name bytes : List ℕ) (small : length bytes ≤ limit) where
  abbrev whole : SourceModel
  whole = record { bytes = bytes; ending = ends }

  abbrev matches_in : List MatchingLine
  matches_in = matches_from 1 has_match (lines bytes)

  -- an indexed text has no fault
  abbrev text_printed : Printed
  text_printed = record { output = matches_output style name true matches_in; errors = []; matched = any_match matches_in }

  abbrev printed_of : Tool → Report ReadFault → Printed
  printed_of tool report = record { output = report.output; errors = fault_text tool name report.fault; matched = report.matched }

  text_reported : input_report limit style name has_match whole ≡ report style name has_match bytes None
  unfolding input_report
  text_reported =
      let within : nat_lt limit (length bytes) ≡ false = le-ltb limit (length bytes) small in
      rw (take_all limit bytes small) (ap (λ b. report style name has_match bytes (cond b (Some TooLong) None)) within)

  printed_alike : (tool : Tool) → input_printed limit tool style has_match name whole ≡ text_printed
  unfolding input_printed report
  printed_alike tool =
      ap (printed_of tool) text_reported
      ∙ ap (λ (fault : Option ReadFault). printed_of tool
      (record { output = matches_output style name true matches_in; fault = fault; matched = any_match matches_in }))
      (kept_fault (style.list && any_match matches_in))

  printed_nothing : matches_in ≡ [] → text_printed ≡ none_printed
  printed_nothing e =
      ap (λ (matches : List MatchingLine). record {
        output = matches_output style name true matches;
        errors =
            [];
        matched = any_match matches;
      }) e
      ∙ ap (λ (output : List ℕ). record { output = output; errors = []; matched = false }) (nothing_found style name)

-- ---- an indexed text is within the limit of a search

broken_late : (limit : Limits) (prefix : List ℕ) (b : ℕ) → rule_broken limit prefix b ≡ None → length prefix < limit.bytes
broken_late limit prefix b h = by_test (nat_eq b 0) (not (valid_utf8_pair (last_byte prefix) b))
    (nat_le limit.bytes (length prefix)) (nat_le limit.line (length (line_so_far prefix))) refl h
  where
    by_test : (nul apart full long : Bool) → nat_le limit.bytes (length prefix) ≡ full →
        ◌≡◌ {A = Option Reason} (cond nul (Some Nul)
        (cond apart (Some Utf8) (cond full (Some TooManyBytes) (cond long (Some LongLine) None)))) None →
        length prefix < limit.bytes
    by_test true apart full long e h = cc
    by_test false true full long e h = cc
    by_test false false true long e h = cc
    by_test false false false long e h = leb-false limit.bytes (length prefix) e

short_enough : (limit : Limits) (prefix bytes : List ℕ) → length prefix ≤ limit.bytes → first_broken limit prefix bytes
    ≡ None → length (prefix ++ bytes) ≤ limit.bytes
short_enough limit prefix [] small h = subst (λ (l : List ℕ). length l ≤ limit.bytes) (sym (append-nil prefix)) small
short_enough limit prefix (b ∷ bytes) small h =
    let p = option_or-none (rule_broken limit prefix b) (first_broken limit (prefix ++ b ∷ []) bytes) h in
    let room : length prefix < limit.bytes = broken_late limit prefix b p.0 in
    let more : length (prefix ++ b ∷ []) ≤ limit.bytes = simp length-append (omega (arith, room)) in
    subst (λ (l : List ℕ). length l ≤ limit.bytes) (append_assoc prefix (b ∷ []) bytes)
    (short_enough limit (prefix ++ b ∷ []) bytes more p.1)

-- what holds of bytes that are a text with these trigrams
pub record IsTextOf (bytes trigrams : List ℕ) : Type 0 where
  pub small : length bytes ≤ max_searched
  pub are : tri bytes ≡ trigrams

pub text_is : (bytes trigrams : List ℕ) → text_trigrams limits bytes ≡ Some trigrams → IsTextOf bytes trigrams
text_is bytes trigrams h = by_skip (skip limits bytes) refl h
  where
    by_skip : (why : Option Reason) → skip limits bytes ≡ why → none_skipped why (tri bytes) ≡ Some trigrams → IsTextOf bytes trigrams
    by_skip (Some reason) e h = cc
    by_skip None e h = record {
      small = short_enough limits [] bytes (omega arith) (option_or-none (first_broken limits [] bytes) (too_many limits (tri bytes)) e).0;
      are = cc;
    }

-- ---- the search of one file that reads as it was indexed

module _ (style : Style) (has_match : List ℕ → Bool) (tree : Snapshot) (name trigrams : List ℕ) where
  opened_at : (tool : Tool) (bytes : List ℕ) → item_at tree name ≡ file bytes → file_printed max_searched tool style
      has_match tree name ≡ input_printed max_searched tool style has_match name
      (record { bytes = bytes; ending = ends })
  unfolding file_printed
  opened_at tool bytes e = ap (λ (item : Item). opened_printed max_searched tool style has_match name (opening_of item)) e

  -- the same by either tool
  pub file_alike : (item : Item) → item_at tree name ≡ item → read_item (text_trigrams limits) item ≡ Some trigrams →
      (a b : Tool) → file_printed max_searched a style has_match tree name ≡ file_printed max_searched b style has_match
      tree name
  file_alike (file bytes) e h a b =
      let small = (text_is bytes trigrams h).small in
      opened_at a bytes e ∙ printed_alike max_searched style has_match name bytes small a
      ∙ sym (opened_at b bytes e ∙ printed_alike max_searched style has_match name bytes small b)
  file_alike item e h a b = cc

  -- without a fault
  pub file_has_no_error : (item : Item) → item_at tree name ≡ item → read_item (text_trigrams limits) item
      ≡ Some trigrams → (a : Tool) → (file_printed max_searched a style has_match tree name).errors ≡ []
  file_has_no_error (file bytes) e h a =
      let small = (text_is bytes trigrams h).small in
      ap (λ (p : Printed). p.errors) (opened_at a bytes e ∙ printed_alike max_searched style has_match name bytes small a)
  file_has_no_error item e h a = cc

  -- the query excludes it
  module _ (query : Query) (pattern : Tree) (loses : LosesNoLine query pattern) (decides : Decides has_match pattern) where
    pub file_empty : (item : Item) → item_at tree name ≡ item → read_item (text_trigrams limits) item ≡ Some trigrams →
        matches_set query (has trigrams) ≡ false → (a : Tool) → file_printed max_searched a style has_match tree name
        ≡ none_printed
    file_empty (file bytes) e h out a =
        let text = text_is bytes trigrams h in
        let known : AllByRecursion (HasTrigrams (has trigrams)) (lines bytes) =
        subst (λ (ns : List ℕ). AllByRecursion (HasTrigrams (has ns)) (lines bytes)) text.are (lines_known bytes) in
        opened_at a bytes e ∙ printed_alike max_searched style has_match name bytes text.small a
        ∙ printed_nothing max_searched style has_match name bytes text.small
        (no_matches_in query pattern loses has_match decides (has trigrams) out bytes known)
    file_empty item e h out a = cc

-- ---- all files

module _ (style : Style) (has_match keeps : List ℕ → Bool) (tree : Snapshot) (tool : Tool) where
  -- files that read as they were indexed have no fault
  pub search_silent : (es : List Entry) → ReadAsIndexed tree es →
      (all_printed (file_printed max_searched tool style has_match tree)
      (filter keeps (map (λ (e : Entry). e.0) es))).errors ≡ []
  unfolding all_printed
  search_silent [] all = refl
  search_silent (e ∷ es) all =
      let rest = search_silent es all.1 in
      elim (keeps e.0) as (λ t. (all_printed (file_printed max_searched tool style has_match tree)
      (cond t (e.0 ∷ filter keeps (map (λ (e : Entry). e.0) es)) (filter keeps (map (λ (e : Entry). e.0) es)))).errors
      ≡ []) [
        | true ↦ ap (λ first. first ++ (all_printed (file_printed max_searched tool style has_match tree)
            (filter keeps (map (λ (e : Entry). e.0) es))).errors)
            (file_has_no_error style has_match tree e.0 e.1 (item_at tree e.0) refl all.0 tool) ∙ rest
        | false ↦ rest
      ]

module _ (style : Style) (has_match keeps : List ℕ → Bool) (tree : Snapshot) (query : Query) (pattern : Tree)
    (loses : LosesNoLine query pattern) (decides : Decides has_match pattern) (a b : Tool) where
  abbrev met : List Entry → List (List ℕ)
  met es = map (λ (e : Entry). e.0) (filter (λ (e : Entry). matches_set query (has e.1)) es)

  pub search_alike : (es : List Entry) → ReadAsIndexed tree es →
      all_printed (file_printed max_searched a style has_match tree)
      (filter keeps (map (λ (e : Entry). e.0) (filter (λ (e : Entry). matches_set query (has e.1)) es)))
      ≡ all_printed (file_printed max_searched b style has_match tree) (filter keeps (map (λ (e : Entry). e.0) es))
  unfolding all_printed
  search_alike [] all = refl
  search_alike (e ∷ es) all = by_test (matches_set query (has e.1)) (keeps e.0) refl (search_alike es all.1)
    where
      by_test : (name_matches chosen : Bool) → matches_set query (has e.1) ≡ name_matches →
          all_printed (file_printed max_searched a style has_match tree)
          (filter keeps (map (λ (e : Entry). e.0) (filter (λ (e : Entry). matches_set query (has e.1)) es)))
          ≡ all_printed (file_printed max_searched b style has_match tree) (filter keeps (map (λ (e : Entry). e.0) es)) →
          all_printed (file_printed max_searched a style has_match tree)
          (filter keeps (map (λ (e : Entry). e.0) (cond name_matches
          (e ∷ filter (λ (e : Entry). matches_set query (has e.1)) es)
          (filter (λ (e : Entry). matches_set query (has e.1)) es))))
          ≡ all_printed (file_printed max_searched b style has_match tree) (filter keeps (e.0 ∷ map (λ (e : Entry). e.0) es))
      by_test true chosen is rest =
          elim (keeps e.0) as (λ t. all_printed (file_printed max_searched a style has_match tree)
          (cond t (e.0 ∷ filter keeps (met es)) (filter keeps (met es)))
          ≡ all_printed (file_printed max_searched b style has_match tree)
          (cond t (e.0 ∷ filter keeps (map (λ (e : Entry). e.0) es)) (filter keeps (map (λ (e : Entry). e.0) es)))) [
            | true ↦ ap (λ (one : Printed). both_printed one
                (all_printed (file_printed max_searched a style has_match tree) (filter keeps (met es))))
                (file_alike style has_match tree e.0 e.1 (item_at tree e.0) refl all.0 a b)
                ∙ ap (λ (more : Printed). both_printed (file_printed max_searched b style has_match tree e.0) more) rest
            | false ↦ rest
          ]
      by_test false chosen is rest =
          elim (keeps e.0) as (λ t. all_printed (file_printed max_searched a style has_match tree)
          (filter keeps (met es)) ≡ all_printed (file_printed max_searched b style has_match tree)
          (cond t (e.0 ∷ filter keeps (map (λ (e : Entry). e.0) es)) (filter keeps (map (λ (e : Entry). e.0) es)))) [
            | true ↦ rest ∙ sym (ap (λ (one : Printed). both_printed one
                (all_printed (file_printed max_searched b style has_match tree)
                (filter keeps (map (λ (e : Entry). e.0) es))))
                (file_empty style has_match tree e.0 e.1 query pattern loses decides (item_at tree e.0) refl all.0 is b))
            | false ↦ rest
          ]
