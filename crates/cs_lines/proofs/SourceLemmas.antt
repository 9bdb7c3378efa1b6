-- What is printed for a text, by its mode.
use Rattle.std.proofs.Common.{◌≡◌, ◌≤◌, ◌⊎◌, inl, inr, ℕ, Bool, true, false, not, nat_lt, if◌then◌else◌, List, [], ◌++◌, Option, None, Some, length, take, drop, refl, sym, ap, subst, ◌∙◌, arith, append_assoc, append-nil}
use Rattle.std.specs.Prelude.{IfOk, OnErr, Result, Ok, Err}
use Rattle.std.specs.List.{count_by}
use Rattle.std.proofs.lemmas.Bool.{false≢true}
use Rattle.std.proofs.lemmas.Bool.Decides.{nat_tests}
use Rattle.std.proofs.lemmas.List.{take-append-drop, take_all}
use Rattle.cs_match.specs.LastPart.{last_part}
use Rattle.cs_match.specs.Lines.{lines}
use Rattle.cs_tree.specs.StreamModels.{Ending, SourceModel, ends, fails}
use Rattle.cs_lines.specs.Counts.{IsCount, ended_by, is_enough, limit_by}
use Rattle.cs_lines.specs.Findings.{Finding}
use Rattle.cs_lines.specs.Printed.{item_bytes, lines_bytes, marked_of}
use Rattle.cs_tree.specs.SinkOutputs.{Begins}
use Rattle.cs_lines.specs.Project.{shown_as}
use Rattle.cs_lines.specs.Shown.{at_most, between, binary_groups, count_of, following, groups_by, is_wanted, line_gap, name_groups, shows_lines, total_groups, wanted_of}
use Rattle.cs_lines.specs.Streamed.{ended_of, is_whole, read_lines}
use Rattle.cs_lines.specs.Streams.{LinesStreamed, TextCut, TextShown, TextStreamed, TotalShown, TotalStreamed}
use Rattle.cs_lines.specs.declared.binary.BinaryFiles.TheVariants.{Text}
use Rattle.cs_lines.specs.declared.form.Mode.{Mode}
use Rattle.cs_lines.specs.declared.form.Mode.TheVariants.{Lines, Counts, Names, Others}
use Rattle.cs_lines.specs.declared.rows.Page.{Page}
use Rattle.cs_lines.specs.declared.stream.Ended.{Ended}
use Rattle.cs_lines.specs.declared.stream.Ended.TheVariants.{Whole, Failed, TooLong}
use Rattle.cs_lines.specs.declared.stream.Streamed.{Streamed}
use Rattle.cs_lines.proofs.CountLemmas.{count_append}
use Rattle.cs_lines.proofs.ReadLemmas.{lines_more, read_ended}

-- ---- as many lines as have to be counted

-- whether some line is marked
alike : (most : Option ℕ) (a b : ℕ) → at_most (Some (at_most most 1)) a ≡ at_most (Some (at_most most 1)) b →
    nat_lt 0 (at_most most a) ≡ nat_lt 0 (at_most most b)
alike None a b e = grind (arith, nat_tests, e)
alike (Some most) a b e = grind (arith, nat_tests, e)

pub same_marks : (mode : Mode) (most : Option ℕ) (a b : ℕ) → at_most (limit_by mode most) a ≡ at_most (limit_by mode most) b →
    nat_lt 0 (at_most most a) ≡ nat_lt 0 (at_most most b)
same_marks Lines most a b e = alike most a b e
same_marks Counts most a b e = ap (nat_lt 0) e
same_marks Names most a b e = alike most a b e
same_marks Others most a b e = alike most a b e

pub same_total : (page : Page) (mode : Mode) (most : Option ℕ) (a b : ℕ) → at_most (limit_by mode most) a ≡ at_most (limit_by mode most) b →
    total_groups page.options.now page.name.now mode (at_most most a) ≡ total_groups page.options.now page.name.now mode (at_most most b)
same_total page Lines most a b e = ap (λ (here : Bool). binary_groups page.options.now page.name.now here) (alike most a b e)
same_total page Counts most a b e = ap (total_groups page.options.now page.name.now Counts) e
same_total page Names most a b e = ap (λ (here : Bool). name_groups page.options.now page.name.now here) (alike most a b e)
same_total page Others most a b e = ap (λ (here : Bool). name_groups page.options.now page.name.now (not here)) (alike most a b e)

-- more lines are marked of more of the same
more_marked : (most : Option ℕ) (a b : ℕ) → a ≤ b → nat_lt 0 (at_most most a) ≡ true → nat_lt 0 (at_most most b) ≡ true
more_marked None a b low e = grind (arith, nat_tests, e, low)
more_marked (Some most) a b low e = grind (arith, nat_tests, e, low)

enough_same : (most : Option ℕ) (a b : ℕ) → is_enough most a ≡ true → a ≤ b → at_most most a ≡ at_most most b
enough_same None a b e low = absurd (false≢true e)
enough_same (Some most) a b e low = let high : most ≤ a = grind (arith, nat_tests, e) in omega (arith, high, low)

-- the total of a text whose lines were counted
module _ (page : Page) (finding : Finding) (ended : Ended) (text given later : List ℕ) (count : ℕ) (streamed : Streamed) where
  abbrev wanted : ℕ
  wanted = wanted_of page.options.now finding (read_lines ended text)

  abbrev limit : Option ℕ
  limit = limit_by page.options.now.mode page.options.now.most

  pub total_is : IsCount limit count wanted → streamed.ended ≡ ended_by limit wanted ended →
      streamed.marked ≡ nat_lt 0 (at_most page.options.now.most count) →
      later ≡ (if is_whole streamed.ended then given ++ following (between page.options.now) page.begun
      (total_groups page.options.now page.name.now page.options.now.mode (at_most page.options.now.most count)) else given) →
      TotalStreamed page finding ended text given later streamed
  total_is counted end marks printed = (
    end,
    printed ∙ ap (λ (groups : List (List ℕ)). if is_whole streamed.ended then given ++ following (between page.options.now) page.begun groups else given)
        (same_total page page.options.now.mode page.options.now.most count wanted counted.1),
    marks ∙ same_marks page.options.now.mode page.options.now.most count wanted counted.1,
  )

-- where no line is to be printed
pub total_text : (page : Page) (finding : Finding) (ended : Ended) (text given later : List ℕ) (streamed : Streamed) (mode : Mode) →
    (mode ≡ Counts) ⊎ ((mode ≡ Names) ⊎ (mode ≡ Others)) → TotalStreamed page finding ended text given later streamed →
    TextStreamed page finding ended text given later mode streamed
total_text page finding ended text given later streamed mode (inl e) total =
    subst (λ m. TextStreamed page finding ended text given later m streamed) (sym e) total
total_text page finding ended text given later streamed mode (inr (inl e)) total =
    subst (λ m. TextStreamed page finding ended text given later m streamed) (sym e) total
total_text page finding ended text given later streamed mode (inr (inr e)) total =
    subst (λ m. TextStreamed page finding ended text given later m streamed) (sym e) total

pub total_cut : {E : Type 0} (page : Page) (finding : Finding) (ended : Ended) (text given later whole : List ℕ) (result : Result Streamed E) (mode : Mode) →
    (mode ≡ Counts) ⊎ ((mode ≡ Names) ⊎ (mode ≡ Others)) → OnErr result (later ≡ given) →
    TextCut page finding ended text given later whole mode result
total_cut page finding ended text given later whole result mode (inl e) h = subst (λ m. TextCut page finding ended text given later whole m result) (sym e) h
total_cut page finding ended text given later whole result mode (inr (inl e)) h = subst (λ m. TextCut page finding ended text given later whole m result) (sym e) h
total_cut page finding ended text given later whole result mode (inr (inr e)) h = subst (λ m. TextCut page finding ended text given later whole m result) (sym e) h

-- ---- the lines that are searched, and all

module _ (left : ℕ) (now : SourceModel) (first : List ℕ) where
  abbrev text_read : List ℕ
  text_read = first ++ take left now.bytes

  abbrev lines_read : List (List ℕ)
  lines_read = read_lines (ended_of left now) text_read

  -- all were searched
  pub whole_read : is_whole (ended_of left now) ≡ true → lines_read ≡ lines (first ++ now.bytes)
  whole_read = by (nat_lt left (length now.bytes)) now.ending refl
    where
      by : (b : Bool) (ending : Ending) → nat_lt left (length now.bytes) ≡ b →
          is_whole (if b then TooLong else elim ending [ ends ↦ Whole | fails ↦ Failed ]) ≡ true →
          read_lines (if b then TooLong else elim ending [ ends ↦ Whole | fails ↦ Failed ]) text_read ≡ lines (first ++ now.bytes)
      by true ending e whole = absurd (false≢true whole)
      by false ends e whole =
          let low : length now.bytes ≤ left = grind (arith, nat_tests, e) in ap (λ (t : List ℕ). lines (first ++ t)) (take_all left now.bytes low)
      by false fails e whole = absurd (false≢true whole)

  -- the first of them were
  pub part_read : (more : List (List ℕ)) × (lines (first ++ now.bytes) ≡ lines_read ++ more)
  part_read = by (is_whole (ended_of left now)) refl
    where
      rest : List ℕ
      rest = drop left now.bytes

      all : first ++ now.bytes ≡ text_read ++ rest
      all = ap (λ (t : List ℕ). first ++ t) (sym (take-append-drop left now.bytes)) ∙ sym (append_assoc first (take left now.bytes) rest)

      by : (b : Bool) → is_whole (ended_of left now) ≡ b → (more : List (List ℕ)) × (lines (first ++ now.bytes) ≡ lines_read ++ more)
      by true e = ([], sym (whole_read e) ∙ sym (append-nil lines_read))
      by false e = (
        lines (last_part text_read ++ rest),
        ap lines all ∙ lines_more text_read rest
            ∙ ap (λ (ls : List (List ℕ)). ls ++ lines (last_part text_read ++ rest)) (sym (read_ended (ended_of left now) text_read e)),
      )

-- ---- what is said of a file

module _ (page : Page) (finding : Finding) (left : ℕ) (now : SourceModel) (first given later : List ℕ) (streamed : Streamed) where
  abbrev of_read : ℕ
  of_read = wanted_of page.options.now finding (lines_read left now first)

  abbrev of_all : ℕ
  of_all = wanted_of page.options.now finding (lines (first ++ now.bytes))

  fewer : of_read ≤ of_all
  fewer =
      let part = part_read left now first in
      let wanted = is_wanted page.options.now finding.has_match in
      omega (arith, ap (count_by wanted) part.1, count_append wanted (lines_read left now first) part.0)

  abbrev WholeText : List ℕ → Type 0
  WholeText bytes = is_whole streamed.ended ≡ true →
      (later ≡ given ++ bytes) × (streamed.marked ≡ nat_lt 0 (count_of page.options.now finding (first ++ now.bytes)))

  abbrev HasMarked : Type 0
  HasMarked = streamed.marked ≡ true → nat_lt 0 (count_of page.options.now finding (first ++ now.bytes)) ≡ true

  -- what is printed in its place, and a beginning of that
  abbrev total_bytes : List ℕ
  total_bytes =
      let options = page.options.now in
      following (between options) page.begun (total_groups options page.name.now options.mode (count_of options finding (first ++ now.bytes)))

  pub total_file : TotalStreamed page finding (ended_of left now) (text_read left now first) given later streamed → WholeText total_bytes × HasMarked
  total_file h = (said, λ marks. more_marked page.options.now.most of_read of_all fewer (sym h.2 ∙ marks))
    where
      limit : Option ℕ
      limit = limit_by page.options.now.mode page.options.now.most

      enough : (b : Bool) → is_enough limit of_read ≡ b → is_whole (if b then Whole else ended_of left now) ≡ true →
          at_most limit of_read ≡ at_most limit of_all
      enough true e whole = enough_same limit of_read of_all e fewer
      enough false e whole = ap (λ (ls : List (List ℕ)). at_most limit (wanted_of page.options.now finding ls)) (whole_read left now first whole)

      said : WholeText total_bytes
      said whole =
          let same = enough (is_enough limit of_read) refl (ap is_whole (sym h.0) ∙ whole) in (
            h.1 ∙ ap (λ (w : Bool). if w then given ++ following (between page.options.now) page.begun
                (total_groups page.options.now page.name.now page.options.now.mode (at_most page.options.now.most of_read)) else given) whole
                ∙ ap (λ (groups : List (List ℕ)). given ++ following (between page.options.now) page.begun groups)
                (same_total page page.options.now.mode page.options.now.most of_read of_all same),
            h.2 ∙ same_marks page.options.now.mode page.options.now.most of_read of_all same,
          )

  pub lines_file : LinesStreamed page finding (ended_of left now) (text_read left now first) given later streamed →
      WholeText (lines_bytes page finding (lines (first ++ now.bytes))) × HasMarked
  lines_file h = (
    λ whole.
        let same = whole_read left now first (ap is_whole (sym h.0) ∙ whole) in (
          h.1.0 ∙ ap (λ (ls : List (List ℕ)). given ++ lines_bytes page finding ls) same,
          h.1.1 ∙ ap (λ (ls : List (List ℕ)). nat_lt 0 (marked_of page.options.now finding ls)) same,
        ),
    λ marks. more_marked page.options.now.most of_read of_all fewer (sym h.1.1 ∙ marks),
  )

  -- by the mode
  abbrev text_bytes : Mode → List ℕ
  text_bytes mode =
      following (if shows_lines mode then line_gap page.options.now else []) page.begun
      (groups_by page.options.now finding page.name.now mode (first ++ now.bytes))

  text_by : (mode : Mode) → page.options.now.mode ≡ mode →
      TextStreamed page finding (ended_of left now) (text_read left now first) given later mode streamed → WholeText (text_bytes mode) × HasMarked
  text_by Lines e h = lines_file h
  text_by Counts e h = subst (λ m. WholeText (following (if shows_lines m then line_gap page.options.now else []) page.begun
      (total_groups page.options.now page.name.now m (count_of page.options.now finding (first ++ now.bytes)))) × HasMarked) e (total_file h)
  text_by Names e h = subst (λ m. WholeText (following (if shows_lines m then line_gap page.options.now else []) page.begun
      (total_groups page.options.now page.name.now m (count_of page.options.now finding (first ++ now.bytes)))) × HasMarked) e (total_file h)
  text_by Others e h = subst (λ m. WholeText (following (if shows_lines m then line_gap page.options.now else []) page.begun
      (total_groups page.options.now page.name.now m (count_of page.options.now finding (first ++ now.bytes)))) × HasMarked) e (total_file h)

  pub text_file : TextStreamed page finding (ended_of left now) (text_read left now first) given later page.options.now.mode streamed →
      WholeText (item_bytes page (shown_as page.options.now finding page.name.now Text (first ++ now.bytes))) × HasMarked
  text_file h = text_by page.options.now.mode refl h

-- a beginning of it
module _ {E : Type 0} (page : Page) (finding : Finding) (left : ℕ) (now : SourceModel) (first given later : List ℕ) (result : Result Streamed E) where
  abbrev bytes_by : Mode → List ℕ
  bytes_by mode =
      following (if shows_lines mode then line_gap page.options.now else []) page.begun
      (total_groups page.options.now page.name.now mode (count_of page.options.now finding (first ++ now.bytes)))

  pub total_begun : IfOk result (TotalStreamed page finding (ended_of left now) (text_read left now first) given later) → OnErr result (later ≡ given) →
      Begins later (given ++ bytes_by page.options.now.mode)
  total_begun said cut = by result said cut
    where
      nothing : later ≡ given → Begins later (given ++ bytes_by page.options.now.mode)
      nothing e = (bytes_by page.options.now.mode, ap (λ (g : List ℕ). g ++ bytes_by page.options.now.mode) (sym e))

      whole : (streamed : Streamed) → TotalStreamed page finding (ended_of left now) (text_read left now first) given later streamed →
          (b : Bool) → is_whole streamed.ended ≡ b → Begins later (given ++ bytes_by page.options.now.mode)
      whole streamed h true e =
          ([], sym ((total_file page finding left now first given later streamed h).0 e).0 ∙ sym (append-nil later))
      whole streamed h false e = nothing (h.1 ∙ ap (λ (w : Bool). if w then given ++ following (between page.options.now) page.begun
          (total_groups page.options.now page.name.now page.options.now.mode
          (marked_of page.options.now finding (lines_read left now first))) else given) e)

      by : (result : Result Streamed E) → IfOk result (TotalStreamed page finding (ended_of left now) (text_read left now first) given later) →
          OnErr result (later ≡ given) → Begins later (given ++ bytes_by page.options.now.mode)
      by (Ok streamed) said cut = whole streamed said (is_whole streamed.ended) refl
      by (Err fault) said cut = nothing cut

  text_begun_by : (mode : Mode) → page.options.now.mode ≡ mode →
      IfOk result (TextStreamed page finding (ended_of left now) (text_read left now first) given later mode) →
      TextCut page finding (ended_of left now) (text_read left now first) given later (first ++ now.bytes) mode result →
      Begins later (given ++ following (if shows_lines mode then line_gap page.options.now else []) page.begun
      (groups_by page.options.now finding page.name.now mode (first ++ now.bytes)))
  text_begun_by Lines e said cut = cut.1
  text_begun_by Counts e said cut = subst (λ m. Begins later (given ++ bytes_by m)) e (total_begun said cut)
  text_begun_by Names e said cut = subst (λ m. Begins later (given ++ bytes_by m)) e (total_begun said cut)
  text_begun_by Others e said cut = subst (λ m. Begins later (given ++ bytes_by m)) e (total_begun said cut)

  pub text_begun : IfOk result (TextStreamed page finding (ended_of left now) (text_read left now first) given later page.options.now.mode) →
      TextCut page finding (ended_of left now) (text_read left now first) given later (first ++ now.bytes) page.options.now.mode result →
      Begins later (given ++ item_bytes page (shown_as page.options.now finding page.name.now Text (first ++ now.bytes)))
  text_begun said cut = text_begun_by page.options.now.mode refl said cut

-- ---- a text in memory

module _ (page : Page) (finding : Finding) (text given later : List ℕ) (count : ℕ) (here : Bool) where
  pub total_shown : IsCount (limit_by page.options.now.mode page.options.now.most) count (wanted_of page.options.now finding (lines text)) →
      here ≡ nat_lt 0 (at_most page.options.now.most count) →
      later ≡ given ++ following (between page.options.now) page.begun
      (total_groups page.options.now page.name.now page.options.now.mode (at_most page.options.now.most count)) →
      (mode : Mode) → (mode ≡ Counts) ⊎ ((mode ≡ Names) ⊎ (mode ≡ Others)) → TextShown page finding text given later mode here
  total_shown counted marks printed mode =
      by mode (
        printed ∙ ap (λ (groups : List (List ℕ)). given ++ following (between page.options.now) page.begun groups)
            (same_total page page.options.now.mode page.options.now.most count (wanted_of page.options.now finding (lines text)) counted.1),
        marks ∙ same_marks page.options.now.mode page.options.now.most count (wanted_of page.options.now finding (lines text)) counted.1,
      )
    where
      by : (mode : Mode) → TotalShown page finding text given later here → (mode ≡ Counts) ⊎ ((mode ≡ Names) ⊎ (mode ≡ Others)) →
          TextShown page finding text given later mode here
      by mode h (inl e) = subst (λ m. TextShown page finding text given later m here) (sym e) h
      by mode h (inr (inl e)) = subst (λ m. TextShown page finding text given later m here) (sym e) h
      by mode h (inr (inr e)) = subst (λ m. TextShown page finding text given later m here) (sym e) h
