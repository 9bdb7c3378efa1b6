-- What is said of a file whose first bytes were read before it was searched.
use Rattle.std.proofs.Common.{◌≡◌, ℕ, Bool, true, false, if◌then◌else◌, List, ◌++◌, Option, None, Some, refl, sym, ap, subst, ◌∙◌, append-nil}
use Rattle.std.specs.Prelude.{IfSome, IfOk, OnErr, Result, Ok, Err}
use Rattle.cs_tree.specs.StreamModels.{SourceModel}
use Rattle.cs_tree.specs.Transfers.{Consumes}
use Rattle.cs_lines.specs.Findings.{Finding, IsFoundBy, KeepsSearch, has_stopped}
use Rattle.cs_lines.specs.Printed.{PrintsItem, item_bytes}
use Rattle.cs_tree.specs.SinkOutputs.{Begins}
use Rattle.cs_lines.specs.Project.{searched_as, shown_as}
use Rattle.cs_lines.specs.Shown.{is_binary}
use Rattle.cs_lines.specs.Streamed.{is_whole}
use Rattle.cs_lines.specs.Streams.{BeginsFile, BeginsText, FindsInFile, PrintsFile, StreamsText, StreamsTotal}
use Rattle.cs_lines.specs.declared.binary.BinaryFiles.{BinaryFiles}
use Rattle.cs_lines.specs.declared.binary.BinaryFiles.TheVariants.{WithoutMatch, Binary, Text}
use Rattle.cs_lines.specs.declared.rows.Page.{Page}
use Rattle.cs_lines.specs.declared.search.LineSearch.{LineSearch}
use Rattle.cs_lines.specs.declared.stream.Ended.TheVariants.{Whole}
use Rattle.cs_lines.specs.declared.stream.Streamed.{Streamed}
use Rattle.cs_lines.proofs.FindingLemmas.{found_same}
use Rattle.cs_lines.proofs.SourceLemmas.{text_begun, text_file, total_begun, total_file}

module _ (search search' : LineSearch) (page : Page) (binary : BinaryFiles) (given : List ℕ) where
  -- nothing was printed
  pub nothing_begun : (model : Option SourceModel) → BeginsFile search search' page binary model given given
  nothing_begun None = tt
  nothing_begun (Some source) = λ none finding found.
      (item_bytes page (shown_as page.options.now finding page.name.now (searched_as binary source.bytes) source.bytes), refl)

  module _ (first : List ℕ) where
    abbrev IsSame : Option SourceModel → Type 0
    IsSame model = IfSome model (λ source. is_binary first ≡ is_binary source.bytes)

    same_kind : (kind : BinaryFiles) (text : List ℕ) → is_binary first ≡ is_binary text → searched_as binary first ≡ kind → kind ≡ searched_as binary text
    same_kind kind text same e = sym e ∙ ap (λ (b : Bool). if b then binary else Text) same

    -- a binary file that is not searched
    pub left_out : (model : Option SourceModel) → IsSame model → WithoutMatch ≡ searched_as binary first →
        PrintsFile search search' page binary model given given (record { marked = false; ended = Whole })
    left_out None same e = tt
    left_out (Some source) same e = λ whole.
        subst (λ kind. PrintsItem search search' page kind source.bytes given given false) (same_kind WithoutMatch source.bytes same (sym e))
        (λ none finding found. (sym (append-nil given), refl))

    module _ (later : List ℕ) (model now : Option SourceModel) (read : Consumes model now first) (same : IsSame model) where
      abbrev SaidOf : Streamed → Type 0
      SaidOf streamed = PrintsFile search search' page binary model given later streamed × FindsInFile search search' page binary model streamed

      -- what is said of the bytes that were read and of the rest, by what the file is searched as
      abbrev SaidAs : BinaryFiles → SourceModel → Streamed → Type 0
      SaidAs kind rest streamed = has_stopped search' ≡ false → (finding : Finding) → IsFoundBy finding search →
          let shown = shown_as page.options.now finding page.name.now kind (first ++ rest.bytes) in
          (is_whole streamed.ended ≡ true → (later ≡ given ++ item_bytes page shown) × (streamed.marked ≡ shown.marked))
          × (streamed.marked ≡ true → shown.marked ≡ true)

      abbrev BegunAs : BinaryFiles → SourceModel → Type 0
      BegunAs kind rest = has_stopped search' ≡ false → (finding : Finding) → IsFoundBy finding search →
          Begins later (given ++ item_bytes page (shown_as page.options.now finding page.name.now kind (first ++ rest.bytes)))

      said_file : (kind : BinaryFiles) (streamed : Streamed) → searched_as binary first ≡ kind → IfSome now (λ rest. SaidAs kind rest streamed) → SaidOf streamed
      said_file kind streamed e said = by model now read same said
        where
          by : (model now : Option SourceModel) → Consumes model now first → IsSame model → IfSome now (λ rest. SaidAs kind rest streamed) →
              PrintsFile search search' page binary model given later streamed × FindsInFile search search' page binary model streamed
          by None now read same said = (tt, tt)
          by (Some source) None read same said = absurd read
          by (Some source) (Some rest) read same said =
              let is = same_kind kind source.bytes same e in (
                λ whole none finding found. subst (λ k. let shown = shown_as page.options.now finding page.name.now k source.bytes in
                    (later ≡ given ++ item_bytes page shown) × (streamed.marked ≡ shown.marked)) is
                    (subst (λ (t : List ℕ). let shown = shown_as page.options.now finding page.name.now kind t in
                    (later ≡ given ++ item_bytes page shown) × (streamed.marked ≡ shown.marked)) (sym read.0) ((said none finding found).0 whole)),
                λ none finding found marks. subst (λ k. (shown_as page.options.now finding page.name.now k source.bytes).marked ≡ true) is
                    (subst (λ (t : List ℕ). (shown_as page.options.now finding page.name.now kind t).marked ≡ true) (sym read.0) ((said none finding found).1 marks)),
              )

      begun_file : (kind : BinaryFiles) → searched_as binary first ≡ kind → IfSome now (λ rest. BegunAs kind rest) →
          BeginsFile search search' page binary model given later
      begun_file kind e begun = by model now read same begun
        where
          by : (model now : Option SourceModel) → Consumes model now first → IsSame model → IfSome now (λ rest. BegunAs kind rest) →
              BeginsFile search search' page binary model given later
          by None now read same begun = tt
          by (Some source) None read same begun = absurd read
          by (Some source) (Some rest) read same begun = λ none finding found.
              subst (λ k. Begins later (given ++ item_bytes page (shown_as page.options.now finding page.name.now k source.bytes)))
              (same_kind kind source.bytes same e)
              (subst (λ (t : List ℕ). Begins later (given ++ item_bytes page (shown_as page.options.now finding page.name.now kind t))) (sym read.0) (begun none finding found))

      module _ (left : ℕ) where
        pub total_said : (streamed : Streamed) → searched_as binary first ≡ Binary → StreamsTotal search search' page left now first given later streamed → SaidOf streamed
        total_said streamed e total = said_file Binary streamed e (by now total)
          where
            by : (now : Option SourceModel) → StreamsTotal search search' page left now first given later streamed → IfSome now (λ rest. SaidAs Binary rest streamed)
            by None total = tt
            by (Some rest) total = λ none finding found. total_file page finding left rest first given later streamed (total none finding found)

        pub text_said : (streamed : Streamed) → searched_as binary first ≡ Text → StreamsText search search' page left now first given later streamed → SaidOf streamed
        text_said streamed e text = said_file Text streamed e (by now text)
          where
            by : (now : Option SourceModel) → StreamsText search search' page left now first given later streamed → IfSome now (λ rest. SaidAs Text rest streamed)
            by None text = tt
            by (Some rest) text = λ none finding found. text_file page finding left rest first given later streamed (text none finding found)

        module _ {E : Type 0} (result : Result Streamed E) where
          pub total_started : searched_as binary first ≡ Binary → IfOk result (StreamsTotal search search' page left now first given later) →
              OnErr result (later ≡ given) → BeginsFile search search' page binary model given later
          total_started e said cut = begun_file Binary e (by now result said cut)
            where
              by : (now : Option SourceModel) (result : Result Streamed E) → IfOk result (StreamsTotal search search' page left now first given later) →
                  OnErr result (later ≡ given) → IfSome now (λ rest. BegunAs Binary rest)
              by None result said cut = tt
              by (Some rest) (Ok streamed) said cut = λ none finding found.
                  total_begun {E = E} page finding left rest first given later (Ok streamed) (said none finding found) tt
              by (Some rest) (Err fault) said cut = λ none finding found. total_begun page finding left rest first given later (Err fault) tt cut

          pub text_started : searched_as binary first ≡ Text → IfOk result (StreamsText search search' page left now first given later) →
              BeginsText search search' page left now first given later result → BeginsFile search search' page binary model given later
          text_started e said cut = begun_file Text e (by now result said cut)
            where
              by : (now : Option SourceModel) (result : Result Streamed E) → IfOk result (StreamsText search search' page left now first given later) →
                  BeginsText search search' page left now first given later result → IfSome now (λ rest. BegunAs Text rest)
              by None result said cut = tt
              by (Some rest) (Ok streamed) said cut = λ none finding found.
                  text_begun {E = E} page finding left rest first given later (Ok streamed) (said none finding found) (cut none finding found)
              by (Some rest) (Err fault) said cut = λ none finding found.
                  text_begun page finding left rest first given later (Err fault) tt (cut none finding found)

-- ---- a search that was kept before

module _ (old mid new : LineSearch) (same : KeepsSearch old mid) (page : Page) (binary : BinaryFiles) where
  pub prints_before : (model : Option SourceModel) (given later : List ℕ) (streamed : Streamed) → PrintsFile mid new page binary model given later streamed →
      PrintsFile old new page binary model given later streamed
  prints_before None given later streamed prints = tt
  prints_before (Some source) given later streamed prints = λ whole none finding found. prints whole none finding (found_same old mid same finding found)

  pub finds_before : (model : Option SourceModel) (streamed : Streamed) → FindsInFile mid new page binary model streamed →
      FindsInFile old new page binary model streamed
  finds_before None streamed finds = tt
  finds_before (Some source) streamed finds = λ none finding found. finds none finding (found_same old mid same finding found)

  pub begins_before : (model : Option SourceModel) (given later : List ℕ) → BeginsFile mid new page binary model given later →
      BeginsFile old new page binary model given later
  begins_before None given later begins = tt
  begins_before (Some source) given later begins = λ none finding found. begins none finding (found_same old mid same finding found)
