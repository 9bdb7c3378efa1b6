-- What jobs print.
use Rattle.std.proofs.Common.{◌≡◌, ◌≢◌, ◌⊎◌, ℕ, Bool, true, false, cond, not, List, [], ◌∷◌, ◌++◌, length, refl, sym, ap, subst, ◌∙◌, inl, inr, arith, append_assoc, append-nil, Option, Some, None, Result, Ok, Err, codes, IfErr, string_bytes, option_map}
use Rattle.cs_cindex.proofs.Common.{Paths, option_or, true≢false, ne_eqb, eq-eqb, least, count_if, Snapshot, Grows, SinkModel, OpensAs, StoredParts, Parts, IndexFault, IndexJob, Done, Refused, CindexFault, given_paths, given_texts, TakesPrefix, PrintsLines, PrintsLinesPrefix, IsIndexingFault, JobKind, lists, clears, walks, AnswersFor, base, early_fault_of, early_walk_fault, base_fault, list_fault, opening_fault, EarlyOr, IsOutputFault, AreCleanFault, AreCleaned, starts, opening_paths, base_paths, paths_of_job, TooLarge, BadPath, Write, Memory, JobTree, Output, index_lines, path_lines, paths_lines, AreTooLarge, IsMidway, WalkPrints, WalkPrintsPrefix, WalkPrintsSome, JobPrintsBy, is_failed_write, prefix_left, prefix_right, Grows-same, none-some, NoIndex, BadIndex, Unsorted, unfit_parts_fault, IsWalkFault, first_bad, has_no_path, list_all, is_normalized, are_distinct, cases_Bool, eqb-true, length-map}
use Rattle.cs_tree.specs.PathSet as set
use Rattle.cs_index.specs.Opening.{opening}
use Rattle.cs_index.specs.declared.fault.IndexFault.TheVariants.{BadPaths}
use Rattle.cs_index.specs.declared.fault.IndexFault.TheVariants as index
use Rattle.cs_args.specs.Faults.{index_refusal}
use Rattle.std.proofs.lemmas.List.{nil_from_length}
use Rattle.cs_cindex.proofs.StoredIndexLemmas.{stands_open}
use Rattle.cs_cindex.proofs.WalkedPathLemmas.{walk_as_set, count_texts}
use Rattle.cs_cindex.proofs.DiagnosticLemmas.{Prefix-none}

-- ---- diagnostics of walks

cut_none : (job : IndexJob) (tree : JobTree) (old : Option (List ℕ)) (err : Output) → WalkPrintsPrefix job tree old err err
cut_none job tree old err = Prefix-none job.log_skip (paths_of_job job old) tree.snapshot tree.failed tree.failed_then err.model

-- nothing was printed, and no write failed
pub nothing_printed : (early : Option CindexFault) (fault : CindexFault) (job : IndexJob) (snapshot : Option Snapshot)
    (old : Option (List ℕ)) (n : ℕ) (err : Output) → is_failed_write fault ≡ false → EarlyOr early (IsOutputFault fault)
    fault → WalkPrintsSome early fault job (record { snapshot = snapshot; failed = n; failed_then = n }) old err err
nothing_printed None Write job snapshot old n err w h = absurd (true≢false w)
nothing_printed None Memory job snapshot old n err w h = inr (tt, cut_none job _ old err)
nothing_printed None _ job snapshot old n err w h = absurd h
nothing_printed (Some early) fault job snapshot old n err w h = (Grows-same err.model, refl)

-- a path of the job cannot be cleaned
clean_midway : (job : IndexJob) (tree : Option Snapshot) (old : Option (List ℕ)) (fault : CindexFault) →
    AreCleanFault (string_bytes job.cwd) (given_texts job) fault → early_walk_fault job old ≡ None → IsOutputFault fault
clean_midway job tree old (BadPath path_index) h e =
    absurd (none-some (BadPath path_index) (sym
    (sym (ap (λ bad. option_or (option_map (λ at. BadPath at) bad) (base_fault job old)) h) ∙ e)))
clean_midway job tree old Memory h e = tt
clean_midway job tree old _ h e = absurd h

pub unclean_printed : (job : IndexJob) (snapshot : Option Snapshot) (old : Option (List ℕ)) (fault : CindexFault)
    (n : ℕ) (err : Output) → is_failed_write fault ≡ false → AreCleanFault (string_bytes job.cwd) (given_texts job)
    fault → WalkPrintsSome (early_walk_fault job old) fault job
    (record { snapshot = snapshot; failed = n; failed_then = n }) old err err
unclean_printed job snapshot old fault n err w h = by_early (early_walk_fault job old) (clean_midway job snapshot old fault h)
  where
    by_early : (early : Option CindexFault) → (early ≡ None → IsOutputFault fault) →
        WalkPrintsSome early fault job (record { snapshot = snapshot; failed = n; failed_then = n }) old err err
    by_early None midway = nothing_printed None fault job snapshot old n err w (midway refl)
    by_early (Some early) midway = (Grows-same err.model, refl)

-- such a job does not want an index
tests_there : (normalized distinct : Bool) → cond (not normalized) (Some (BadIndex BadPaths))
    (cond (not distinct) (Some Unsorted) None) ≡ Some NoIndex → ⊥
tests_there true true e = cc
tests_there true false e = cc
tests_there false distinct e = cc

refusal_there : (fault : IndexFault) → index_refusal fault ≡ NoIndex → ⊥
refusal_there index.Memory e = cc
refusal_there _ e = cc

base_there : (o : Result Parts IndexFault) → opening_fault unfit_parts_fault o ≡ Some NoIndex → ⊥
base_there (Ok parts) e = tests_there (list_all is_normalized parts.paths) (are_distinct parts.names) e
base_there (Err fault) e = refusal_there fault (some_fault e)
  where
    some_fault : {a b : CindexFault} → Some a ≡ Some b → a ≡ b
    some_fault e = cc

index_there : (job : IndexJob) (old : Option (List ℕ)) → given_texts job ≢ [] → (bad : Option ℕ) →
    option_or (option_map (λ path_index. BadPath path_index) bad) (base_fault job old) ≡ Some NoIndex → ⊥
index_there job old some (Some path_index) e = cc
index_there job None some None e =
    elim (cases_Bool (has_no_path job)) [
      | inl none ↦ some (nil_from_length (given_texts job) (length-map job.paths.items string_bytes
          ∙ eqb-true (length job.paths.items) 0 none))
      | inr more ↦ none-some NoIndex (sym (ap (λ b. cond b (Some NoIndex) None) more) ∙ e)
    ]
index_there job (Some bytes) some None e = base_there (opening bytes) e

pub unclean_answers : (job : IndexJob) (snapshot : Option Snapshot) (old : Option (List ℕ)) (fault : CindexFault) →
    AreCleanFault (string_bytes job.cwd) (given_texts job) fault →
    EarlyOr (early_walk_fault job old) (IsWalkFault job snapshot old fault) fault
unclean_answers job snapshot old (BadPath path_index) h =
    subst (λ bad. EarlyOr (option_or (option_map (λ at. BadPath at) bad) (base_fault job old))
    (IsWalkFault job snapshot old (BadPath path_index)) (BadPath path_index)) (sym h) (inl refl)
unclean_answers job snapshot old Memory h =
    by_early (early_walk_fault job old) (index_there job old h (first_bad (string_bytes job.cwd) (given_texts job)))
  where
    by_early : (early : Option CindexFault) → (early ≡ Some NoIndex → ⊥) → EarlyOr early (IsWalkFault job snapshot old Memory) Memory
    by_early None there = tt
    by_early (Some NoIndex) there = absurd (there refl)
    by_early (Some _) there = inr refl
unclean_answers job snapshot old _ h = absurd h

-- ---- the walked paths

pub own_walked : (job : IndexJob) (ts paths : List (List ℕ)) (old : Option (List ℕ)) → AreCleaned job ts →
    length job.paths.items ≢ 0 → paths ≡ set.items (least (set.from_list ts)) → set.from_list paths
    ≡ paths_of_job job old
own_walked job ts paths old clean some e =
    walk_as_set paths ts e ∙ ap (λ ps. least (set.from_list ps)) clean.are
    ∙ sym (ap (λ b. least (cond b (base_paths old) (given_paths job))) (ne_eqb (length job.paths.items) 0 some))

pub start_walk : (job : IndexJob) (old : List ℕ) (parts : Parts) (ts paths : List (List ℕ)) → AreCleaned job ts →
    opening old ≡ Ok parts → paths ≡ set.items (least (set.from_list (starts ts parts.paths))) → set.from_list paths
    ≡ paths_of_job job (Some old)
start_walk job old parts [] paths clean opens e =
    walk_as_set paths parts.paths e ∙ ap (λ (o : Result Parts IndexFault). least (opening_paths o)) (sym opens)
    ∙ sym (ap (λ b. least (cond b (base_paths (Some old)) (given_paths job)))
    (eq-eqb (length job.paths.items) 0 (sym (count_texts job [] clean))))
start_walk job old parts (t ∷ ts) paths clean opens e =
    own_walked job (t ∷ ts) paths (Some old) clean (λ none. let n = count_texts job (t ∷ ts) clean in omega (arith, none, n)) e

-- the same diagnostics, over equal paths
module _ (job : IndexJob) (tree : JobTree) (paths : Paths) (old : Option (List ℕ)) (err later : Output)
    (e : paths ≡ paths_of_job job old) where
  abbrev Whole : Type 0
  Whole = PrintsLines job.log_skip tree.snapshot paths tree.failed tree.failed_then err.model later.model

  abbrev Prefix : Type 0
  Prefix = PrintsLinesPrefix job.log_skip tree.snapshot paths tree.failed tree.failed_then err.model later.model

  pub prints_over : Whole → WalkPrints job tree old err later
  prints_over h = subst (λ ps. PrintsLines job.log_skip tree.snapshot ps tree.failed tree.failed_then err.model later.model) e h

  module _ (early : Option CindexFault) (fault : CindexFault) (none : early ≡ None) where
    -- all of them
    pub whole_over : Whole → WalkPrintsSome early fault job tree old err later
    whole_over h = subst (λ o. WalkPrintsSome o fault job tree old err later) (sym none) (inl (prints_over h))

    midway_over : IsMidway fault tree.snapshot paths err later → Prefix → WalkPrintsSome early fault job tree old err later
    midway_over midway h =
        subst (λ o. WalkPrintsSome o fault job tree old err later) (sym none)
        (inr (
          subst (λ ps. IsMidway fault tree.snapshot ps err later) e midway,
          subst (λ ps. PrintsLinesPrefix job.log_skip tree.snapshot ps tree.failed tree.failed_then err.model
              later.model) e h,
        ))

    -- a prefix of them, or all if the index is too large
    pub prefix_over : IsIndexingFault fault → later.failed ≡ count_if (is_failed_write fault) err.failed →
        (fault ≡ TooLarge → AreTooLarge tree.snapshot paths ⊎ Whole) → Prefix → WalkPrintsSome early fault job tree old
        err later
    prefix_over only counts whole h =
        elim (cases_midway fault only counts) [
          | inl large ↦ elim (whole large) [
            | inl many ↦ midway_over (subst (λ f. IsMidway f tree.snapshot paths err later) (sym large) many) h
            | inr all ↦ whole_over all
          ]
          | inr midway ↦ midway_over midway h
        ]
      where
        cases_midway : (f : CindexFault) → IsIndexingFault f → later.failed ≡ count_if (is_failed_write f) err.failed →
            (f ≡ TooLarge) ⊎ IsMidway f tree.snapshot paths err later
        cases_midway TooLarge is counts = inl refl
        cases_midway Write is counts = inr counts
        cases_midway Memory is counts = inr tt
        cases_midway _ is counts = inr is

-- ---- errors after everything was printed

-- for any count of failures
pub prints_refused : (kind : JobKind) (job : IndexJob) (tree : JobTree) (old : Option (List ℕ)) (err later : Output)
    (n : ℕ) (fault : CindexFault) → early_fault_of kind job old ≡ None → JobPrintsBy kind Done job tree old err later →
    JobPrintsBy kind (Refused fault) job tree old err (record { model = later.model; failed = n })
prints_refused lists job tree old err later n fault none h = h
prints_refused clears job tree old err later n fault none h = h
prints_refused walks job tree old err later n fault none h =
    subst (λ o. WalkPrintsSome o fault job tree (base job old) err (record { model = later.model; failed = n }))
    (sym none) (inl h)

-- ---- the lines of paths

abbrev line_of : List ℕ → List ℕ
line_of path = path ++ codes "\n"

pub lines_more : (done text all : List ℕ) (rest later : List (List ℕ)) → rest ≡ text ∷ later → done ++ path_lines rest
    ≡ all → (done ++ line_of text) ++ path_lines later ≡ all
lines_more done text all rest later e h = append_assoc done (line_of text) (path_lines later) ∙ ap (λ ps. done ++ path_lines ps) (sym e) ∙ h

pub lines_cut : (done text all : List ℕ) (rest later : List (List ℕ)) (a b c : Option SinkModel) → rest ≡ text ∷ later →
    done ++ path_lines rest ≡ all → Grows a b done → TakesPrefix (line_of text) b c → TakesPrefix all a c
lines_cut done text all rest later a b c e h g f =
    subst (λ xs. TakesPrefix xs a c) (ap (λ ps. done ++ path_lines ps) (sym e) ∙ h)
    (prefix_right done (line_of text ++ path_lines later) a b c g
    (prefix_left (line_of text) (path_lines later) b c f))

pub lines_end : (done all : List ℕ) (rest : List (List ℕ)) (a b : Option SinkModel) → rest ≡ [] →
    done ++ path_lines rest ≡ all → Grows a b done → Grows a b all
lines_end done all rest a b e h g = subst (Grows a b) (sym (append-nil done) ∙ ap (λ ps. done ++ path_lines ps) (sym e) ∙ h) g

-- ---- the paths of an index in a store

module _ (bytes : List ℕ) (stored : StoredParts) (opens : OpensAs bytes (Ok stored)) where
  opens_there : opening bytes ≡ Ok opens.0
  opens_there = stands_open bytes stored opens.0 opens.1

  pub stored_lines : index_lines (Some bytes) ≡ path_lines stored.paths
  stored_lines = ap paths_lines opens_there ∙ ap path_lines (sym opens.1.paths)

  pub stored_answers : {A : Type 0} (r : Result A CindexFault) → IfErr r IsOutputFault →
      AnswersFor r (list_fault (Some bytes)) IsOutputFault
  stored_answers {A} r is = subst (λ (early : Option CindexFault). AnswersFor r early IsOutputFault)
      (sym (ap (opening_fault (λ parts. None)) opens_there)) (by_result r is)
    where
      by_result : (r : Result A CindexFault) → IfErr r IsOutputFault → AnswersFor r None IsOutputFault
      by_result (Ok done) is = refl
      by_result (Err fault) is = is
