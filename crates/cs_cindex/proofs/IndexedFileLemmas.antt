-- Files, one after another: the entries and diagnostics so far.
use Rattle.std.proofs.Common.{Ok, Err, ◌≡◌, ℕ, suc, ◌+◌, ◌*◌, ◌^◌, ◌<◌, ◌≤◌, Bool, true, false, cond, ◌&&◌, ◌||◌, List, [], ◌∷◌, ◌++◌, map, take, drop, get_or, length, refl, sym, ap, subst, ◌∙◌, arith, Option, Some, None, append-nil, append_assoc, add-one, drop-cons, option_map, filter_map, bytes_eq, option_to_list}
use Rattle.cs_cindex.proofs.Common.{bytes_cmp, are_ascending, AllByRecursion, cons_option, is_lt, bytes_decides, and_parts, or_left, or_right, take_at, take-append-drop, map-append, count_if, Snapshot, Grows, SinkModel, Entry, names_of, is_storable, is_above, Unnamed, TakesPrefix, Diagnostic, faulted, text_of, failures_in, Verdict, verdict_trigrams, verdict_line, IsVerdict, IsVerdictIn, is_failed_verdict, noted_line, added_entries, noted_entries, texts_at, are_storable, AreTextsIn, AreTooLargeIn, AreFileLinesIn, BeginFileLinesIn, PrintsFiles, PrintsFilesPrefix, AreAbove, HaveNamesOf, tail_up, prefix_all, Grows-chain, Grows-same}
use Rattle.std.proofs.lemmas.List.Folds.{list_any-append}
use Rattle.std.proofs.lemmas.List.Elements.{filter_map-append}
use Rattle.cs_index.specs.LeastLength.{least_length}
use Rattle.cs_index.proofs.writer.LeastLength.{least_append}
use Rattle.cs_tree.specs.Cover.{is_among}
use Rattle.cs_trigram.specs.Trigram.{set_of_numbers}
use Rattle.cs_history.specs.FileTrigrams.{file_trigrams}
use Rattle.cs_trigram.specs.declared.scan.Scan.TheVariants.{Text, Skip}
use Rattle.cs_cindex.specs.Diagnostics.{file_line}
use Rattle.cs_tree.proofs.NameOrderLemmas.{before_trans}
use Rattle.cs_cindex.proofs.DiagnosticLemmas.{prefix_after, text-append, failures-append}
use Rattle.cs_merge.proofs.NameMergeLemmas.{above_push}

-- ---- lists of names

pub names_at : {X : Type 0} (f : X → List ℕ) (xs : List X) (i : ℕ) → map f xs ≡ map f (take i xs) ++ map f (drop i xs)
names_at f xs i = ap (map f) (sym (take-append-drop i xs)) ∙ map-append f (take i xs) (drop i xs)

pub names_rest : {X : Type 0} (f : X → List ℕ) (xs : List X) (i : ℕ) (x : X) → i < length xs → x ≡ get_or xs i x →
    map f (drop i xs) ≡ f x ∷ map f (drop (i + 1) xs)
names_rest f xs i x low is =
    let next : drop (suc i) xs ≡ drop (i + 1) xs = ap (λ n. drop n xs) (sym (add-one i)) in
    ap (map f) (drop-cons xs i x low ∙ ap (λ y. y ∷ drop (suc i) xs) (sym is)) ∙ ap (λ (rest : List _). f x ∷ map f rest) next

storable_parts : (a b : List (List ℕ)) → are_storable (a ++ b) ≡ true → (are_storable a ≡ true) × (are_storable b ≡ true)
storable_parts [] b h = (refl, h)
storable_parts (name ∷ a) b h =
    let both = and_parts (is_storable name) (are_storable (a ++ b)) h in
    let rest = storable_parts a b both.1 in
    (ap (λ t. t && are_storable a) both.0 ∙ rest.0, rest.1)

storable_last : (names : List (List ℕ)) (name : List ℕ) → are_storable (names ++ name ∷ []) ≡ true →
    (are_storable names ≡ true) × (is_storable name ≡ true)
storable_last names name h =
    let parts = storable_parts names (name ∷ []) h in
    (parts.0, (and_parts (is_storable name) true parts.1).0)

-- ---- one file

noted_agrees : (log_skip : Bool) (name : List ℕ) (verdict : Verdict) → is_storable name ≡ true →
    noted_line log_skip name verdict ≡ verdict_line log_skip name verdict
noted_agrees log_skip name (Ok (Text trigrams bytes)) h = ap (λ b. cond b None (Some (faulted name Unnamed))) h
noted_agrees log_skip name _ h = refl

one_cons : (line : Option Diagnostic) → option_to_list line ≡ cons_option line []
one_cons None = refl
one_cons (Some line) = refl

lines_one : (log_skip : Bool) (tree : Snapshot) (name : List ℕ) (verdict : Verdict) → is_storable name ≡ true →
    IsVerdict tree name verdict → option_to_list (noted_line log_skip name verdict)
    ≡ filter_map (file_line log_skip tree) (name ∷ [])
lines_one log_skip tree name verdict h is = ap option_to_list (noted_agrees log_skip name verdict h ∙ is.line log_skip)
    ∙ one_cons (file_line log_skip tree name)

abbrev pub with_name : List ℕ → Option (List ℕ) → Option Entry
with_name name trigrams = option_map (λ (trigrams : List ℕ). (name, trigrams)) trigrams

entries_agree : (name : List ℕ) (verdict : Verdict) → is_storable name ≡ true → noted_entries name verdict
    ≡ cons_option (with_name name (verdict_trigrams verdict)) []
entries_agree name (Ok (Text trigrams bytes)) h = ap (λ b. cond b ((name, (set_of_numbers trigrams.now)) ∷ []) []) h
entries_agree name _ h = refl

entries_one : (tree : Snapshot) (name : List ℕ) (verdict : Verdict) → is_storable name ≡ true →
    IsVerdict tree name verdict → noted_entries name verdict ≡ texts_at tree (name ∷ [])
entries_one tree name verdict h is = entries_agree name verdict h ∙ ap (λ o. cons_option (with_name name o) []) is.trigrams

-- ---- one more file

pub texts_step : (model : Option Snapshot) (names : List (List ℕ)) (entries : List Entry) (name : List ℕ)
    (verdict : Verdict) → AreTextsIn model names entries → IsVerdictIn model name verdict →
    AreTextsIn model (names ++ name ∷ []) (entries ++ noted_entries name verdict)
texts_step None names entries name verdict are is = tt
texts_step (Some tree) names entries name verdict are is = λ storable.
    let parts = storable_last names name storable in
    ap (λ (es : List Entry). es ++ noted_entries name verdict) (are parts.0)
    ∙ ap (λ (es : List Entry). texts_at tree names ++ es) (entries_one tree name verdict parts.1 is)
    ∙ sym (filter_map-append (λ name. with_name name (file_trigrams tree name)) names (name ∷ []))

lines_step : (log_skip : Bool) (model : Option Snapshot) (names : List (List ℕ)) (lines : List Diagnostic)
    (name : List ℕ) (verdict : Verdict) → AreFileLinesIn log_skip model names lines → IsVerdictIn model name verdict →
    AreFileLinesIn log_skip model (names ++ name ∷ []) (lines ++ option_to_list (noted_line log_skip name verdict))
lines_step log_skip None names lines name verdict are is = tt
lines_step log_skip (Some tree) names lines name verdict are is = λ storable.
    let parts = storable_last names name storable in
    ap (λ (ls : List Diagnostic). ls ++ option_to_list (noted_line log_skip name verdict)) (are parts.0)
    ∙ ap (λ (ls : List Diagnostic). filter_map (file_line log_skip tree) names ++ ls) (lines_one log_skip tree name verdict parts.1 is)
    ∙ sym (filter_map-append (file_line log_skip tree) names (name ∷ []))

-- the diagnostic of a file reports its failure
noted_counted : (log_skip : Bool) (name : List ℕ) (verdict : Verdict) (n : ℕ) →
    failures_in (option_to_list (noted_line log_skip name verdict)) n ≡ count_if (is_failed_verdict verdict) n
noted_counted log_skip name (Ok (Text trigrams bytes)) n =
    elim (is_storable name) as (λ b. failures_in (option_to_list (cond b None (Some (faulted name Unnamed)))) n ≡ n)
    [ true ↦ refl | false ↦ refl ]
noted_counted true name (Ok (Skip reason)) n = refl
noted_counted false name (Ok (Skip reason)) n = refl
noted_counted log_skip name (Err why) n = refl

module _ (log_skip : Bool) (model : Option Snapshot) (names : List (List ℕ)) (before failed failed' : ℕ)
    (sink now : Option SinkModel) (p : PrintsFiles log_skip model names before failed sink now) where
  counted_step : (name : List ℕ) (verdict : Verdict) → failed' ≡ count_if (is_failed_verdict verdict) failed → failed'
      ≡ failures_in (p.lines ++ option_to_list (noted_line log_skip name verdict)) before
  counted_step name verdict counted =
      counted ∙ sym (noted_counted log_skip name verdict failed)
      ∙ ap (failures_in (option_to_list (noted_line log_skip name verdict))) p.counted
      ∙ sym (failures-append p.lines (option_to_list (noted_line log_skip name verdict)) before)

  pub prints_step : (later : Option SinkModel) (name : List ℕ) (verdict : Verdict) → IsVerdictIn model name verdict →
      failed' ≡ count_if (is_failed_verdict verdict) failed →
      Grows now later (text_of (option_to_list (noted_line log_skip name verdict))) →
      PrintsFiles log_skip model (names ++ name ∷ []) before failed' sink later
  prints_step later name verdict is counted grows = record {
    lines = p.lines ++ option_to_list (noted_line log_skip name verdict);
    due = lines_step log_skip model names p.lines name verdict p.due is;
    counted = counted_step name verdict counted;
    grows = subst (Grows sink later) (sym (text-append p.lines (option_to_list (noted_line log_skip name verdict))))
        (Grows-chain sink now later (text_of p.lines) (text_of (option_to_list (noted_line log_skip name verdict)))
        p.grows grows);
  }

  -- ---- a call that fails

  begin_lines : (model : Option Snapshot) (all names rest : List (List ℕ)) (lines : List Diagnostic) →
      all ≡ names ++ rest → AreFileLinesIn log_skip model names lines → BeginFileLinesIn log_skip model all lines
  begin_lines None all names rest lines is are = tt
  begin_lines (Some tree) all names rest lines is are = λ storable.
      let parts = storable_parts names rest (ap are_storable (sym is) ∙ storable) in
      let give = file_line log_skip tree in
      are parts.0
      ∙ sym (ap (λ ns. take (length lines) (filter_map give ns)) is
      ∙ ap (take (length lines)) (filter_map-append give names rest)
      ∙ take_at (filter_map give names) (filter_map give rest) (length lines)
      (sym (ap (λ (ls : List Diagnostic). length ls) (are parts.0))))

  -- before the next file is read
  pub prefix_read : (all rest : List (List ℕ)) → all ≡ names ++ rest → failed' ≡ failed →
      PrintsFilesPrefix log_skip model all before failed' sink now
  prefix_read all rest is counted =
      let prefix = prefix_all (text_of p.lines) sink now p.grows in
      record {
        lines = p.lines;
        due = begin_lines model all names rest p.lines is p.due;
        counted = counted ∙ p.counted;
        prefix = prefix;
      }

  -- while its diagnostic is printed
  pub prefix_noted : (later : Option SinkModel) (all rest : List (List ℕ)) (name : List ℕ) (verdict : Verdict) →
      all ≡ names ++ name ∷ rest → IsVerdictIn model name verdict → failed' ≡ count_if (is_failed_verdict verdict)
      failed → TakesPrefix (text_of (option_to_list (noted_line log_skip name verdict))) now later →
      PrintsFilesPrefix log_skip model all before failed' sink later
  prefix_noted later all rest name verdict is verdict_is counted prefix =
      let line = option_to_list (noted_line log_skip name verdict) in
      let whole = prefix_after p.lines line [] sink now later p.grows prefix in
      record {
        lines = p.lines ++ line;
        due = begin_lines model all (names ++ name ∷ []) rest (p.lines ++ line)
            (is ∙ sym (append_assoc names (name ∷ []) rest))
            (lines_step log_skip model names p.lines name verdict p.due verdict_is);
        counted = counted_step name verdict counted;
        prefix = subst (λ (ls : List Diagnostic). TakesPrefix (text_of (p.lines ++ ls)) sink later) (append-nil line) whole;
      }

pub at_least : (most n m : ℕ) → most ≤ n → n ≤ m → most ≤ m
at_least most n m a b = omega (arith, a, b)

least_many : (entries : List Entry) → 5 * length entries ≤ least_length entries
least_many [] = omega arith
least_many (e ∷ entries) = let rest = least_many entries in omega (arith, rest)

-- as many names as an index can have are too large
pub full_is_large : (entries more : List Entry) → 1073741824 ≤ length entries → 4294967296 ≤ least_length (entries ++ more)
full_is_large entries more full =
    let long = least_append entries more in
    let many = least_many entries in
    omega (arith, full, long, many)

-- texts whose index is too large are among all
pub too_large : (model : Option Snapshot) (all names rest : List (List ℕ)) (entries : List Entry) → all ≡ names ++ rest →
    AreTextsIn model names entries → 2 ^ 32 ≤ least_length entries → AreTooLargeIn model all
too_large None all names rest entries is are large = tt
too_large (Some tree) all names rest entries is are large = λ storable.
    let parts = storable_parts names rest (ap are_storable (sym is) ∙ storable) in
    let same : texts_at tree all ≡ entries ++ texts_at tree rest =
    ap (texts_at tree) is
    ∙ filter_map-append (λ name. with_name name (file_trigrams tree name)) names rest
    ∙ ap (λ (es : List Entry). es ++ texts_at tree rest) (sym (are parts.0)) in
    subst (λ es. 2 ^ 32 ≤ least_length es) (sym same)
    (at_least (2 ^ 32) (least_length entries) (least_length (entries ++ texts_at tree rest)) large
    (least_append entries (texts_at tree rest)))

-- ---- sorted names

abbrev pub AreAfter : List ℕ → List (List ℕ) → Type 0
AreAfter name rest = AllByRecursion (λ next. is_lt (bytes_cmp name next) ≡ true) rest

after_lower : (low name : List ℕ) (rest : List (List ℕ)) → is_lt (bytes_cmp low name) ≡ true → AreAfter name rest → AreAfter low rest
after_lower low name [] h all = tt
after_lower low name (next ∷ rest) h all = (before_trans low name next h all.0, after_lower low name rest h all.1)

pub ascend_after : (name : List ℕ) (rest : List (List ℕ)) → are_ascending (name ∷ rest) ≡ true → AreAfter name rest
ascend_after name [] h = tt
ascend_after name (next ∷ rest) h =
    let parts = and_parts (is_lt (bytes_cmp name next)) (are_ascending (next ∷ rest)) h in
    (parts.0, after_lower name next rest parts.0 (ascend_after next rest parts.1))

pub above_none : (names : List (List ℕ)) → AreAbove [] names
above_none [] = tt
above_none (name ∷ names) = (refl, above_none names)

above_pushed : (entries : List Entry) (name : List ℕ) (trigrams : List ℕ) (next : List ℕ) →
    is_above (names_of (entries ++ (name, trigrams) ∷ [])) next ≡ is_lt (bytes_cmp name next)
above_pushed entries name trigrams next =
    ap (λ ns. is_above ns next) (map-append (λ (entry : Entry). entry.0) entries ((name, trigrams) ∷ []))
    ∙ above_push (names_of entries) name next

above_new : (entries : List Entry) (name trigrams : List ℕ) (rest : List (List ℕ)) → AreAfter name rest →
    AreAbove (entries ++ (name, trigrams) ∷ []) rest
above_new entries name trigrams [] all = tt
above_new entries name trigrams (next ∷ rest) all =
    (above_pushed entries name trigrams next ∙ all.0, above_new entries name trigrams rest all.1)

above_same : (entries : List Entry) (rest : List (List ℕ)) → AreAbove entries rest → AreAbove (entries ++ []) rest
above_same entries rest all = subst (λ es. AreAbove es rest) (sym (append-nil entries)) all

pub above_step : (entries : List Entry) (name : List ℕ) (verdict : Verdict) (rest : List (List ℕ)) →
    are_ascending (name ∷ rest) ≡ true → AreAbove entries (name ∷ rest) →
    AreAbove (entries ++ noted_entries name verdict) rest
above_step entries name (Ok (Text trigrams bytes)) rest up all =
    elim (is_storable name) as (λ b. AreAbove (entries ++ cond b ((name, (set_of_numbers trigrams.now)) ∷ []) []) rest) [
      | true ↦ above_new entries name (set_of_numbers trigrams.now) rest (ascend_after name rest up)
      | false ↦
          above_same entries rest all.1
    ]
above_step entries name (Ok (Skip reason)) rest up all = above_same entries rest all.1
above_step entries name (Err why) rest up all = above_same entries rest all.1

-- ---- the steps, if arguments are replaced by equal ones

pub verdict_in_at : (model model' : Option Snapshot) (name name' : List ℕ) (verdict : Verdict) → model ≡ model' →
    name ≡ name' → IsVerdictIn model name verdict → IsVerdictIn model' name' verdict
verdict_in_at model model' name name' verdict e f is = rw (← e, ← f) is

pub noted_at : (log_skip log_skip' : Bool) (name name' : List ℕ) (verdict : Verdict) → log_skip ≡ log_skip' →
    name ≡ name' → option_to_list (noted_line log_skip name verdict)
    ≡ option_to_list (noted_line log_skip' name' verdict)
noted_at log_skip log_skip' name name' verdict e f = ap (λ b. option_to_list (noted_line b name verdict)) e
    ∙ ap (λ n. option_to_list (noted_line log_skip' n verdict)) f

pub texts_next : (model : Option Snapshot) (names names' : List (List ℕ)) (entries entries' : List Entry)
    (name : List ℕ) (verdict : Verdict) → names' ≡ names ++ name ∷ [] → entries' ≡ entries ++ noted_entries name verdict
    → AreTextsIn model names entries → IsVerdictIn model name verdict → AreTextsIn model names' entries'
texts_next model names names' entries entries' name verdict e f are is = rw (e, f) (texts_step model names entries name verdict are is)

-- one more name, and its entry if it has one
names_step : (names : List (List ℕ)) (entries : List Entry) (name : List ℕ) (verdict : Verdict) →
    HaveNamesOf names entries → HaveNamesOf (names ++ name ∷ []) (entries ++ noted_entries name verdict)
names_step names entries name verdict have = before entries have
  where
    split : (one : List ℕ) → is_among (names ++ name ∷ []) one ≡ (is_among names one || is_among (name ∷ []) one)
    split one = list_any-append (λ other. bytes_eq other one) names (name ∷ [])

    last : is_among (names ++ name ∷ []) name ≡ true
    last = split name ∙ or_right (is_among names name) _ (or_left (bytes_eq name name) false ((bytes_decides name name).1 refl))

    added : (trigrams : List ℕ) → HaveNamesOf (names ++ name ∷ []) (added_entries name trigrams)
    added trigrams = elim (is_storable name) as
        (λ b. HaveNamesOf (names ++ name ∷ []) (cond b ((name, trigrams) ∷ []) [])) [ true ↦ (last, tt) | false ↦ tt ]

    noted : (v : Verdict) → HaveNamesOf (names ++ name ∷ []) (noted_entries name v)
    noted (Ok (Text trigrams bytes)) = added (set_of_numbers trigrams.now)
    noted _ = tt

    before : (es : List Entry) → HaveNamesOf names es → HaveNamesOf (names ++ name ∷ []) (es ++ noted_entries name verdict)
    before [] all = noted verdict
    before (e ∷ es) all = (split e.0 ∙ or_left (is_among names e.0) _ all.0, before es all.1)

pub names_next : (names names' : List (List ℕ)) (entries entries' : List Entry) (name : List ℕ) (verdict : Verdict) →
    names' ≡ names ++ name ∷ [] → entries' ≡ entries ++ noted_entries name verdict → HaveNamesOf names entries →
    HaveNamesOf names' entries'
names_next names names' entries entries' name verdict e f have = rw (e, f) (names_step names entries name verdict have)

pub above_next : (entries entries' : List Entry) (names rest : List (List ℕ)) (name : List ℕ) (verdict : Verdict) →
    names ≡ name ∷ rest → entries' ≡ entries ++ noted_entries name verdict → are_ascending names ≡ true →
    AreAbove entries names → AreAbove entries' rest
above_next entries entries' names rest name verdict e f up all = rw f (above_step entries name verdict rest (rw e at up) (rw e at all))

pub above_first : (entries : List Entry) (names rest : List (List ℕ)) (name : List ℕ) → names ≡ name ∷ rest →
    AreAbove entries names → is_above (names_of entries) name ≡ true
above_first entries names rest name e all = (subst (AreAbove entries) e all).0

pub ascend_next : (names rest : List (List ℕ)) (name : List ℕ) → names ≡ name ∷ rest → are_ascending names ≡ true →
    are_ascending rest ≡ true
ascend_next names rest name e up = tail_up name rest (sym (ap are_ascending e) ∙ up)

-- ---- at the start

pub texts_none : (model : Option Snapshot) (entries : List Entry) → entries ≡ [] → AreTextsIn model [] entries
texts_none None entries e = tt
texts_none (Some tree) entries e = λ storable. e

lines_none : (log_skip : Bool) (model : Option Snapshot) → AreFileLinesIn log_skip model [] []
lines_none log_skip None = tt
lines_none log_skip (Some tree) = λ storable. refl

pub prints_none : (log_skip : Bool) (model : Option Snapshot) (failed : ℕ) (sink : Option SinkModel) →
    PrintsFiles log_skip model [] failed failed sink sink
prints_none log_skip model failed sink = record { lines = []; due = lines_none log_skip model; counted = refl; grows = Grows-same sink }
