-- What is printed for a text that the query does not match, and for a binary one, is nothing.
use Rattle.std.proofs.Common.{◌≡◌, ℕ, ◌+◌, Bool, true, false, not, cond, if◌then◌else◌, nat_lt, List, [], ◌∷◌, refl, sym, ap, ◌∙◌, arith, Option, Some, None}
use Rattle.std.specs.Prelude.{count_by}
use Rattle.std.specs.List.{AllByRecursion}
use Rattle.std.proofs.lemmas.Bool.{true≢false, or_parts}
use Rattle.std.proofs.lemmas.Bool.Decides.{nat_tests}
use Rattle.std.proofs.lemmas.List.Sums.{sum_by-cons}
use Rattle.cs_match.specs.Lines.{lines}
use Rattle.cs_trigram.specs.Trigram.{tri, has}
use Rattle.cs_trigram.specs.Query.{matches_set, HasTrigrams, LosesNoLine}
use Rattle.cs_trigram.specs.declared.queries.Query.{Query}
use Rattle.cs_lines.specs.Findings.{Finding, Tests}
use Rattle.cs_lines.specs.Project.{nothing_shown, searched_as, shown_as, text_shown}
use Rattle.cs_lines.specs.Shown.{at_most, binary_groups, count_bytes, count_of, groups_by, has_groups, is_binary, is_wanted, line_groups, name_groups, text_rows, total_groups}
use Rattle.cs_lines.specs.declared.form.Mode.{Mode}
use Rattle.cs_lines.specs.declared.form.Mode.TheVariants.{Lines, Counts, Names, Others}
use Rattle.cs_lines.specs.declared.binary.BinaryFiles.{BinaryFiles}
use Rattle.cs_lines.specs.declared.binary.BinaryFiles.TheVariants.{WithoutMatch, Binary, Text}
use Rattle.cs_lines.specs.declared.form.ShowOptions.{ShowOptions}
use Rattle.cs_lines.specs.declared.search.LineSearch.{LineSearch}
use Rattle.cs_known.specs.Skipped.{leaves_out, lists_others, prints_unmatched}
use Rattle.cs_known.proofs.LineLemmas.{lines_known}

-- the law of cs_lines that lines are printed if and only if one is marked
abbrev pub LinesPrintedIfMarked : Type 0
LinesPrintedIfMarked = (options : ShowOptions) (finding : Finding) (name text : List ℕ) →
    has_groups (line_groups options finding name (text_rows options finding text)) ≡ nat_lt 0 (count_of options finding text)

-- ---- no line is marked

module _ (test : List ℕ → Bool) where
  count_cons : (line : List ℕ) (ls : List (List ℕ)) → test line ≡ false → count_by test (line ∷ ls) ≡ 0 + count_by test ls
  count_cons line ls is = sum_by-cons (λ line. cond (test line) 1 0) line ls ∙ ap (λ (b : Bool). cond b 1 0 + count_by test ls) is

  count_none : (ls : List (List ℕ)) → AllByRecursion (λ line. test line ≡ false) ls → count_by test ls ≡ 0
  count_none [] all = refl
  count_none (line ∷ ls) all = omega (arith, count_cons line ls all.0, count_none ls all.1)

none_of : (most : Option ℕ) → nat_lt 0 (at_most most 0) ≡ false
none_of None = refl
none_of (Some most) = grind (arith, nat_tests)

module _ (search : LineSearch) (finding : Finding) (query : Query) (tests : Tests finding.has_match search)
    (loses : LosesNoLine query search.matcher.tree) (set : ℕ → Bool) (out : matches_set query set ≡ false) where
  unmatched : (line : List ℕ) → HasTrigrams set line → finding.has_match line ≡ false
  unmatched line has = by_test (finding.has_match line) refl
    where
      by_test : (test : Bool) → finding.has_match line ≡ test → test ≡ false
      by_test true e = absurd (true≢false (sym (loses line set ((tests line).0 e).0 has) ∙ out))
      by_test false e = refl

  none_wanted : (options : ShowOptions) → options.invert ≡ false → (ls : List (List ℕ)) → AllByRecursion (HasTrigrams set) ls →
      AllByRecursion (λ line. is_wanted options finding.has_match line ≡ false) ls
  none_wanted options plain [] all = tt
  none_wanted options plain (line ∷ ls) all = (
    ap (λ (b : Bool). if b then not (finding.has_match line) else finding.has_match line) plain ∙ unmatched line all.0,
    none_wanted options plain ls all.1,
  )

  none_marked : (options : ShowOptions) → options.invert ≡ false → (text : List ℕ) → AllByRecursion (HasTrigrams set) (lines text) →
      nat_lt 0 (count_of options finding text) ≡ false
  none_marked options plain text known =
      ap (λ n. nat_lt 0 (at_most options.most n))
      (count_none (is_wanted options finding.has_match) (lines text) (none_wanted options plain (lines text) known))
      ∙ none_of options.most

-- ---- nothing is printed

no_groups : (groups : List (List ℕ)) → has_groups groups ≡ false → groups ≡ []
no_groups [] e = refl
no_groups (group ∷ groups) e = absurd (true≢false e)

module _ (law : LinesPrintedIfMarked) (options : ShowOptions) (finding : Finding) (name text : List ℕ)
    (none : nat_lt 0 (count_of options finding text) ≡ false) where
  groups_none : (mode : Mode) → lists_others mode ≡ false → groups_by options finding name mode text ≡ []
  groups_none Lines e =
      no_groups (line_groups options finding name (text_rows options finding text)) (law options finding name text ∙ none)
  groups_none Counts e = ap (λ (b : Bool). if b then count_bytes options name (count_of options finding text) ∷ [] else []) none
  groups_none Names e = ap (name_groups options name) none
  groups_none Others e = absurd (true≢false e)

  totals_none : (mode : Mode) → lists_others mode ≡ false → total_groups options name mode (count_of options finding text) ≡ []
  totals_none Lines e = ap (binary_groups options name) none
  totals_none Counts e = groups_none Counts e
  totals_none Names e = groups_none Names e
  totals_none Others e = absurd (true≢false e)

  unmarked_shows_nothing : (binaries : BinaryFiles) → lists_others options.mode ≡ false →
      text_shown options finding name binaries text ≡ nothing_shown
  unmarked_shows_nothing binaries e = by_kind (searched_as binaries text)
    where
      by_kind : (kind : BinaryFiles) → shown_as options finding name kind text ≡ nothing_shown
      by_kind WithoutMatch = refl
      by_kind Binary = λ i. record { groups = totals_none options.mode e i; marked = none i }
      by_kind Text = λ i. record { groups = groups_none options.mode e i; marked = none i }

pub binary_shows_nothing : (options : ShowOptions) (binaries : BinaryFiles) (finding : Finding) (name text : List ℕ) →
    is_binary text ≡ true → leaves_out binaries ≡ true → text_shown options finding name binaries text ≡ nothing_shown
binary_shows_nothing options binaries finding name text is out =
    ap (λ (binary : Bool). shown_as options finding name (if binary then binaries else Text) text) is ∙ by_kind binaries out
  where
    by_kind : (kind : BinaryFiles) → leaves_out kind ≡ true → shown_as options finding name kind text ≡ nothing_shown
    by_kind WithoutMatch e = refl
    by_kind Binary e = absurd (true≢false (sym e))
    by_kind Text e = absurd (true≢false (sym e))

-- a text whose trigrams the query does not match, except with -v and -L
pub unmatched_shows_nothing : LinesPrintedIfMarked → (options : ShowOptions) (binaries : BinaryFiles) (search : LineSearch)
    (finding : Finding) (query : Query) → Tests finding.has_match search → LosesNoLine query search.matcher.tree → (text : List ℕ) →
    matches_set query (has (tri text)) ≡ false → prints_unmatched options ≡ false → (name : List ℕ) →
    text_shown options finding name binaries text ≡ nothing_shown
unmatched_shows_nothing law options binaries search finding query tests loses text out silent name =
    let plain = or_parts options.invert (lists_others options.mode) silent in
    unmarked_shows_nothing law options finding name text
    (none_marked search finding query tests loses (has (tri text)) out options plain.0 text (lines_known text)) binaries plain.1
