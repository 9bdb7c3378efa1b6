use Rattle.std.proofs.Common.{◌≡◌, ◌≤◌, ◌+◌, ◌-◌, ◌*◌, ◌++◌, [], ℕ, List, Option, false, length, take, drop, refl, sym, ap, subst, ◌∙◌, arith, append_assoc, append-nil, length-append, length-drop}
use Rattle.std.proofs.lemmas.List.{nil_from_length}
use Rattle.cs_match.specs.LastPart.{last_line, last_part}
use Rattle.cs_match.specs.Lines.{lines, terminated_lines}
use Rattle.cs_match.specs.Skipping.{AreWholeLines}
use Rattle.cs_match.proofs.LinesLemmas.{last_part-append, lines_within, lines-split, terminated_lines-append}
use Rattle.cs_match.proofs.SkippedLineLemmas.{whole_none}
use Rattle.cs_tree.specs.StreamModels.{SourceModel}
use Rattle.cs_tree.specs.Transfers.{Consumes}
use Rattle.cs_lines.specs.Buffer.{pending_bytes}
use Rattle.cs_lines.specs.Findings.{Finding, IsFoundBy, KeepsSearch, has_stopped}
use Rattle.cs_lines.specs.Printed.{LinesPrinted}
use Rattle.cs_tree.specs.SinkOutputs.{Begins, given}
use Rattle.cs_lines.specs.Scans.{Fits, PrintsAlike, SearchesLast, rows_by}
use Rattle.cs_lines.specs.Spacing.{fresh_rows, printed_by, progress_of, seen}
use Rattle.cs_lines.specs.Streams.{BeginsLines, IfFound, IsCounted, IsReady, LinesStreamed}
use Rattle.cs_lines.specs.declared.rows.Page.{Page}
use Rattle.cs_lines.specs.declared.rows.Rows.{Rows}
use Rattle.cs_lines.specs.declared.form.ShowOptions.{ShowOptions}
use Rattle.cs_lines.specs.declared.search.LineSearch.{LineSearch}
use Rattle.cs_lines.specs.declared.stream.HeldLines.{HeldLines}
use Rattle.cs_lines.proofs.FindingLemmas.{found_same, keeps_again, keeps_itself, stops_again}
use Rattle.cs_tree.proofs.SinkOutputLemmas.{keeps_same, keeps_then}
use Rattle.cs_lines.proofs.ReadLemmas.{more_read, nothing_read, read_cut, read_ended, refused_read, some_read}
use Rattle.cs_lines.proofs.StreamLemmas.{BeginsAny, alike_begun, all_printed, begun_all, begun_more, first_same, lines_cut, lines_printed, lines_streamed, ready_more, rest_more}
use Rattle.cs_match.specs.Work.{WorksWithin}
use Rattle.cs_lines.specs.Work.{Takes, TakesRead, line_weight, line_work, part_work, shown_work, walks}
use Rattle.cs_lines.proofs.WorkLemmas.{part_done, part_read, same_weight, shown_all, shown_cut, shown_done, shown_end, works_any, works_fewer, works_more, works_still}
use Rattle.cs_lines.proofs.stream.stream_lines.Given.{Over}
use Rattle.cs_lines.proofs.stream.stream_lines.Goals.{After-add_steps, After-pending}
use Rattle.cs_lines.proofs.stream.stream_lines.Goals as goal

none_of : terminated_lines [] ≡ []
unfolding terminated_lines
none_of = refl

-- what is printed in the end is the same after the lines that were printed
abbrev Alike : LineSearch → LineSearch → Page → Rows → List ℕ → List ℕ → List (List ℕ) → List (List ℕ) → List (List ℕ) → Type 0
Alike search search' page rows given later all held pending = has_stopped search' ≡ false → (finding : Finding) (more : List (List ℕ)) →
    IsFoundBy finding search → PrintsAlike (fresh_rows page) rows given later finding [] (all ++ more) held (pending ++ more)

-- the held lines are the same after a read
counted_more : (text bytes new : List ℕ) (held : HeldLines) → held.len ≤ length text → new ≡ text ++ bytes → (options : ShowOptions) → IsCounted options text held →
    IsCounted options new held
counted_more text bytes new held within is options counted =
    let same = first_same text bytes new held.len within is in
    record {
      within = omega (arith, within, ap (λ (t : List ℕ). length t) is, length-append text bytes);
      whole = subst AreWholeLines (sym same) counted.whole;
      lines = λ has. counted.lines has ∙ ap (λ (t : List ℕ). length (terminated_lines t)) (sym same);
    }

pub pieces-init : goal.pieces-init
pieces-init g c =
    let page = c.args.page.now in
    let first = pending_bytes c.args.buffer.now in
    let start = given c.args.out.now in
    let model = g.R.Source.model c.args.input.now in
    record {
      read = [];
      consumed = nothing_read model;
      size = omega arith;
      ended = c.requires.ended;
      ready = record {
        low = omega arith;
        high = omega arith;
        whole = whole_none;
        part = tt;
        fits = subst (λ ls. Fits ls c.new-rows.result.left) (sym none_of) tt;
      };
      known = record { within = omega arith; whole = whole_none; lines = λ has. sym (ap (λ (ls : List (List ℕ)). length ls) none_of) };
      room = omega (arith, c.requires.room, ap (λ r. r.number) c.new-rows.ensures);
      last = ap last_part (append-nil first);
      lines = λ whole finding more found.
          ap (λ (t : List ℕ). seen (printed_by page finding (progress_of (fresh_rows page) start) (rows_by (fresh_rows page) finding [] (terminated_lines t ++ more))))
          (append-nil first)
          ∙ ap (λ (held : List (List ℕ)). seen (printed_by page finding (progress_of (fresh_rows page) start)
          (rows_by (fresh_rows page) finding held (terminated_lines first ++ more)))) (sym none_of)
          ∙ ap (λ r. seen (printed_by r.page finding (progress_of r start) (rows_by r finding (terminated_lines []) (terminated_lines first ++ more))))
          (sym c.new-rows.ensures);
      failed = refl;
      same = keeps_itself c.args.search.now;
      budget = λ alone. refl;
      page = ap (λ r. r.page) c.new-rows.ensures;
      fewer = omega (arith, length-append first []);
      work = works_any (shown_done page.options.now (line_weight c.args.search.now) (length (first ++ [])) 0 (length first) 0 0) c.args.search.now.matcher;
      keeps = g.met.R.Source.keeps_refl c.args.input.now;
      handed = keeps_same g.O.Sink.model g.O.Sink.failed c.args.out.now;
    }

-- ---- after the pending lines were searched

-- the read bytes, and the lines of all
abbrev bytes_of : (g : Over) → After-add_steps g → List ℕ
bytes_of g c = pending_bytes c.args.buffer.now ++ c.pieces.invariant.read

abbrev text_of : (g : Over) → After-add_steps g → List ℕ
text_of g c = pending_bytes c.search_pending.new.buffer

kept : (g : Over) (c : After-add_steps g) → KeepsSearch c.args.search.now c.add_steps.new.self
kept g c = keeps_again c.args.search.now c.search_pending.new.search c.add_steps.new.self
    (keeps_again c.args.search.now c.pieces.search c.search_pending.new.search c.pieces.invariant.same c.in_ok-held.ensures.same) c.add_steps.ensures.same

searched : (g : Over) (c : After-add_steps g) → Alike c.args.search.now c.add_steps.new.self c.args.page.now c.search_pending.new.self (given c.args.out.now)
    (given c.search_pending.new.out) (terminated_lines (bytes_of g c)) (terminated_lines (take c.in_ok-held.held.len (text_of g c))) []
searched g c none finding later found =
    let i = c.pieces.invariant in
    let e = c.in_ok-held.ensures in
    let before = c.add_steps.ensures.same.3 none in
    i.lines (e.same.3 before) finding later found ∙ e.rows.rows before finding later (found_same c.args.search.now c.pieces.search i.same finding found)

-- what was printed begins all
begins_any : (g : Over) (c : After-add_steps g) → IfFound c.args.search.now c.add_steps.new.self
    (λ finding. BeginsAny c.args.page.now (given c.args.out.now) finding (terminated_lines (bytes_of g c)) (given c.search_pending.new.out))
begins_any g c none finding found later =
    alike_begun c.args.page.now (given c.args.out.now) c.search_pending.new.self (given c.search_pending.new.out) finding (terminated_lines (bytes_of g c) ++ later)
    (terminated_lines (take c.in_ok-held.held.len (text_of g c))) later (searched g c none finding later found)

begins : (g : Over) (c : After-add_steps g) (search : LineSearch) (given' : List ℕ) →
    IfFound c.args.search.now search (λ finding. BeginsAny c.args.page.now (given c.args.out.now) finding (terminated_lines (bytes_of g c)) given') →
    BeginsLines c.args.search.now search c.args.page.now c.args.buffer.now.left (g.R.Source.model c.args.input.now) (pending_bytes c.args.buffer.now)
    (given c.args.out.now) given'
begins g c search given' begun =
    begun_all c.args.search.now search c.args.page.now c.args.buffer.now.left (g.R.Source.model c.args.input.now) (g.R.Source.model c.pieces.input)
    (pending_bytes c.args.buffer.now) c.pieces.invariant.read (given c.args.out.now) given' c.pieces.invariant.consumed (omega (arith, c.pieces.invariant.size)) begun

-- the steps so far
steps : (g : Over) (c : After-add_steps g) → Takes (shown_all c.args.page.now.options.now (line_weight c.args.search.now) (length (bytes_of g c))
    (length c.pieces.invariant.read) (length (text_of g c)) c.in_ok-held.held.len) c.args.search.now c.search_pending.new.search
steps g c =
    let i = c.pieces.invariant in
    let e = c.in_ok-held.ensures in
    let search = c.args.search.now in
    let mid = c.pieces.search in
    let text = pending_bytes c.pieces.buffer in
    let rest = text_of g c in
    let held = c.pieces.held.len in
    let held' = c.in_ok-held.held.len in
    let bytes = length text - held - (length rest - held') in
    let part : length rest - held' ≤ length text - held =
    omega (arith, length-drop held' rest, length-drop held text, ap (λ (t : List ℕ). length t) e.rows.rest, lines_within (drop held text)) in
    part_done c.args.page.now.options.now (line_weight search) (length (bytes_of g c)) (length i.read) (line_weight mid) search.matcher mid.matcher
    c.search_pending.new.search.matcher (length text) held c.pieces.scanned (length rest) held' bytes (length text - length rest) i.fewer i.ready.high
    (omega (arith, part)) (omega (arith, e.rows.fewer)) (same_weight search mid i.same) i.work
    (subst (λ (p : Page). WorksWithin (length text - c.pieces.scanned + part_work p.options.now (line_weight mid) bytes (length text - length rest)) mid.matcher
    c.search_pending.new.search.matcher) i.page e.work)

-- some bytes more were read, and are not searched
stopped : (g : Over) (c : After-add_steps g) (later : Option SourceModel) (more : List ℕ) → length more ≤ 1 → Consumes (g.R.Source.model c.pieces.input) later more →
    TakesRead (shown_work c.args.page.now.options.now (line_weight c.args.search.now)) (pending_bytes c.args.buffer.now) c.args.buffer.now.left
    (g.R.Source.model c.args.input.now) later c.args.search.now c.add_steps.new.self
stopped g c later more few read =
    let i = c.pieces.invariant in
    let first = pending_bytes c.args.buffer.now in
    let search = c.args.search.now in
    record {
      text = i.read ++ more;
      read = more_read (g.R.Source.model c.args.input.now) (g.R.Source.model c.pieces.input) later i.read more i.consumed read;
      size = omega (arith, i.size, length-append i.read more, few);
      bound = shown_cut c.args.page.now.options.now (line_weight search) search.matcher c.add_steps.new.self.matcher (bytes_of g c) (first ++ (i.read ++ more))
          (length i.read) (length (text_of g c)) c.in_ok-held.held.len 1
          (omega (arith, length-append first i.read, length-append first (i.read ++ more), length-append i.read more)) (omega (arith, length-append first i.read))
          (omega arith) (works_more (shown_all c.args.page.now.options.now (line_weight search) (length (bytes_of g c)) (length i.read) (length (text_of g c))
          c.in_ok-held.held.len) 1 search.matcher c.search_pending.new.search.matcher c.add_steps.new.self.matcher (steps g c) c.add_steps.ensures.work);
    }

-- ---- at the end of the text

same : (g : Over) (c : After-pending g) → c.pending.result.now ≡ pending_bytes c.search_pending.new.buffer
same g c =
    let t = c.in-Ok-eq0.ensures.text in
    let old = pending_bytes c.search_pending.new.buffer in
    c.pending.ensures ∙ t.text ∙ ap (λ (b : List ℕ). old ++ b) (nil_from_length t.bytes (t.size ∙ c.in-Ok-eq0.field-0-test)) ∙ append-nil old

read_all : (g : Over) (c : After-pending g) → Consumes (g.R.Source.model c.args.input.now) (g.R.Source.model c.fill.new.input) c.pieces.invariant.read
read_all g c =
    let i = c.pieces.invariant in
    let t = c.in-Ok-eq0.ensures.text in
    let model = g.R.Source.model c.args.input.now in
    let later = g.R.Source.model c.fill.new.input in
    subst (Consumes model later) (ap (λ (b : List ℕ). i.read ++ b) (nil_from_length t.bytes (t.size ∙ c.in-Ok-eq0.field-0-test)) ∙ append-nil i.read)
    (more_read model (g.R.Source.model c.pieces.input) later i.read t.bytes i.consumed t.consumed)

-- the last line was searched
shown : (g : Over) (a : After-add_steps g) (search : LineSearch) (rows : Rows) (given' text : List ℕ) → text ≡ text_of g a →
    KeepsSearch a.add_steps.new.self search → SearchesLast a.add_steps.new.self search a.search_pending.new.self rows (given a.search_pending.new.out) given'
    (terminated_lines (take a.in_ok-held.held.len text)) (last_line (drop a.in_ok-held.held.len text)) →
    IfFound a.args.search.now search (λ finding. LinesPrinted a.args.page.now finding (lines (bytes_of g a)) (given a.args.out.now) given' rows.shown)
shown g a search rows given' text is more last none finding found =
    let page = a.args.page.now in
    let g0 = given a.args.out.now in
    let from = a.in_ok-held.held.len in
    let all = bytes_of g a in
    let last_now = subst (λ (p : List ℕ). SearchesLast a.add_steps.new.self search a.search_pending.new.self rows (given a.search_pending.new.out) given'
    (terminated_lines (take from p)) (last_line (drop from p))) is last in
    lines_printed page g0 finding (lines all) given' rows.shown
    (ap (λ (ls : List (List ℕ)). seen (all_printed page g0 finding ls))
    (lines-split all ∙ ap (λ (p : List ℕ). terminated_lines all ++ last_line p) (a.pieces.invariant.last ∙ sym a.in_ok-held.ensures.rows.rest))
    ∙ searched g a (more.3 none) finding (last_line (drop from (text_of g a))) found
    ∙ last_now none finding (found_same a.args.search.now a.add_steps.new.self (kept g a) finding found))

ended_work : (g : Over) (a : After-add_steps g) (search : LineSearch) (later : Option SourceModel) (text : List ℕ) → text ≡ text_of g a →
    Consumes (g.R.Source.model a.args.input.now) later a.pieces.invariant.read →
    Takes (line_work (line_weight a.add_steps.new.self) (length (drop a.in_ok-held.held.len text))
    + walks a.search_pending.new.self.page.options.now * a.in_ok-held.held.len) a.add_steps.new.self search →
    TakesRead (shown_work a.args.page.now.options.now (line_weight a.args.search.now)) (pending_bytes a.args.buffer.now) a.args.buffer.now.left
    (g.R.Source.model a.args.input.now) later a.args.search.now search
ended_work g a search later text is read end =
    let i = a.pieces.invariant in
    let e = a.in_ok-held.ensures in
    let options = a.args.page.now.options.now in
    let first = pending_bytes a.args.buffer.now in
    let all = bytes_of g a in
    let held = a.in_ok-held.held.len in
    let s0 = a.args.search.now in
    let s1 = a.search_pending.new.search in
    let s2 = a.add_steps.new.self in
    let w = line_weight s0 in
    let v = line_weight s2 in
    let t = walks options in
    let d = shown_all options w (length all) (length i.read) (length (text_of g a)) held in
    let l = line_work v (length (drop held text)) in
    let line : l ≡ line_work w (length (last_part all)) =
    ap (λ (x : List ℕ). line_work v (length (drop held x))) is ∙ ap (λ (x : List ℕ). line_work v (length x)) (e.rows.rest ∙ sym i.last)
    ∙ ap (λ (k : ℕ). line_work k (length (last_part all))) (same_weight s0 s2 (kept g a)) in
    let last : WorksWithin (l + t * held) s2.matcher search.matcher =
    subst (λ (p : Page). WorksWithin (l + walks p.options.now * held) s2.matcher search.matcher) (e.rows.page ∙ i.page) end in
    record {
      text = i.read;
      read = read;
      size = omega (arith, i.size);
      bound = shown_end options w s0.matcher search.matcher all (length i.read) (length (text_of g a)) held (1 + l) (omega (arith, length-append first i.read))
          (omega (arith, i.fewer, e.rows.fewer)) e.ready.low (one_more l (line_work w (length (last_part all))) line)
          (works_fewer (d + 1 + (l + t * held)) (d + (1 + l + t * held)) s0.matcher search.matcher (add_up d l (t * held))
          (works_more (d + 1) (l + t * held) s0.matcher s2.matcher search.matcher
          (works_more d 1 s0.matcher s1.matcher s2.matcher (steps g a) a.add_steps.ensures.work) last));
    }
  where
    add_up : (d l t : ℕ) → d + 1 + (l + t) ≤ d + (1 + l + t)
    add_up d l t = omega arith

    one_more : (l k : ℕ) → l ≡ k → 1 + l ≤ 1 + k
    one_more l k e = omega (arith, e)

begun_so_far : (g : Over) (c : After-add_steps g) → BeginsLines c.args.search.now c.add_steps.new.self c.args.page.now c.args.buffer.now.left
    (g.R.Source.model c.args.input.now) (pending_bytes c.args.buffer.now) (given c.args.out.now) (given c.search_pending.new.out)
begun_so_far g c = begins g c c.add_steps.new.self (given c.search_pending.new.out) (begins_any g c)

pub pieces-preserved : goal.pieces-preserved
pieces-preserved g c =
    let i = c.pieces.invariant in
    let e = c.in_ok-held.ensures in
    let f = c.in-Ok.ensures in
    let t = f.text in
    let page = c.args.page.now in
    let first = pending_bytes c.args.buffer.now in
    let all = first ++ i.read in
    let from = c.in_ok-held.held.len in
    let old = pending_bytes c.search_pending.new.buffer in
    let new = pending_bytes c.fill.new.self in
    let rows2 = c.search_pending.new.self in
    let g0 = given c.args.out.now in
    let g2 = given c.search_pending.new.out in
    let search = c.args.search.now in
    let s2 = c.add_steps.new.self in
    let at = (goal.at.pieces-preserved g c).After-add_steps in
    let within = e.ready.low in
    let model = g.R.Source.model c.args.input.now in
    let last : last_part all ≡ drop from old = i.last ∙ sym e.rows.rest in
    let rest : drop from new ≡ last_part all ++ t.bytes = rest_more old t.bytes new from within t.text ∙ ap (λ (p : List ℕ). p ++ t.bytes) (sym last) in
    let n : length c.pending-scanned.result.now ≡ length old = ap (λ (x : List ℕ). length x) c.pending-scanned.ensures in
    record {
      read = i.read ++ t.bytes;
      consumed = more_read model (g.R.Source.model c.pieces.input) (g.R.Source.model c.fill.new.input) i.read t.bytes i.consumed t.consumed;
      size = omega (arith, i.size, length-append i.read t.bytes, t.size, f.left, e.left);
      ended = f.ended;
      ready = subst (λ (k : ℕ). IsReady rows2 new from k) (sym n) (ready_more old t.bytes new from within t.text rows2 e.ready);
      known = subst (λ p. IsCounted p.options.now new c.in_ok-held.held) (sym e.rows.page) (counted_more old t.bytes new c.in_ok-held.held within t.text c.pieces.rows.page.options.now e.known);
      room = omega (arith, e.room, f.left, t.size, ap (λ (x : List ℕ). length x) t.text, length-append old t.bytes);
      last = ap last_part (sym (append_assoc first i.read t.bytes)) ∙ last_part-append all t.bytes ∙ ap last_part (sym rest);
      lines = λ none finding more found.
          let held = terminated_lines (take from old) in
          let now = terminated_lines (last_part all ++ t.bytes) in
          ap (λ (x : List ℕ). seen (printed_by page finding (progress_of (fresh_rows page) g0) (rows_by (fresh_rows page) finding [] (terminated_lines x ++ more))))
          (sym (append_assoc first i.read t.bytes))
          ∙ ap (λ (ls : List (List ℕ)). seen (printed_by page finding (progress_of (fresh_rows page) g0) (rows_by (fresh_rows page) finding [] ls)))
          (ap (λ (ls : List (List ℕ)). ls ++ more) (terminated_lines-append all t.bytes) ∙ append_assoc (terminated_lines all) now more)
          ∙ searched g at none finding (now ++ more) found
          ∙ ap (λ (h : List ℕ). seen (printed_by rows2.page finding (progress_of rows2 g2) (rows_by rows2 finding (terminated_lines h) (now ++ more))))
          (sym (first_same old t.bytes new from within t.text))
          ∙ ap (λ (x : List ℕ). seen (printed_by rows2.page finding (progress_of rows2 g2) (rows_by rows2 finding (terminated_lines (take from new)) (terminated_lines x ++ more))))
          (sym rest);
      failed = f.failed ∙ i.failed;
      same = kept g at;
      budget = λ alone. c.add_steps.ensures.budget
          ∙ stops_again page c.pieces.rows.page search c.pieces.search c.search_pending.new.search i.page i.budget e.budget alone;
      page = e.rows.page ∙ i.page;
      fewer = omega (
        arith,
        i.fewer,
        e.rows.fewer,
        ap (λ (x : List ℕ). length x) t.text,
        length-append old t.bytes,
        length-append first i.read,
        length-append first (i.read ++ t.bytes),
        length-append i.read t.bytes,
      );
      work = part_read page.options.now (line_weight search) (length all) (length i.read) search.matcher c.search_pending.new.search.matcher s2.matcher
          (length old) from (length t.bytes) (length (first ++ (i.read ++ t.bytes))) (length (i.read ++ t.bytes)) (length new) (length c.pending-scanned.result.now)
          (omega (arith, i.fewer, e.rows.fewer)) within (omega (arith, some_read c.in-Ok.field-0 c.in-Ok.field-0-test.1, t.size))
          (omega (arith, length-append first i.read, length-append first (i.read ++ t.bytes), length-append i.read t.bytes)) (length-append i.read t.bytes)
          (ap (λ (x : List ℕ). length x) t.text ∙ length-append old t.bytes) n
          (steps g at) c.add_steps.ensures.work;
      keeps = g.met.R.Source.keeps_trans c.args.input.now c.pieces.input c.fill.new.input i.keeps f.keeps;
      handed = keeps_then g.O.Sink.model g.O.Sink.failed c.args.out.now c.pieces.out c.search_pending.new.out i.handed e.keeps;
    }

pub returns-in_err-held-clause-begins : goal.returns-in_err-held-clause-begins
returns-in_err-held-clause-begins g c =
    let i = c.pieces.invariant in
    let e = c.in_err-held.ensures in
    let search = c.args.search.now in
    let page = c.args.page.now in
    let first = pending_bytes c.args.buffer.now in
    let g0 = given c.args.out.now in
    let text = pending_bytes c.pieces.buffer in
    let all = terminated_lines (first ++ i.read) in
    let begins : has_stopped c.search_pending.new.search ≡ false → (finding : Finding) → IsFoundBy finding search →
    BeginsAny page g0 finding all (given c.search_pending.new.out) =
    λ none finding found more.
    begun_more page g0 c.pieces.rows (given c.pieces.out) finding (all ++ more) (terminated_lines (take c.pieces.held.len text))
    (terminated_lines (drop c.pieces.held.len text) ++ more) (i.lines (e.same.3 none) finding more found) (given c.search_pending.new.out)
    (e.begins none finding more (found_same search c.pieces.search i.same finding found)) in
    begun_all search c.search_pending.new.search page c.args.buffer.now.left (g.R.Source.model c.args.input.now) (g.R.Source.model c.pieces.input)
    first i.read g0 (given c.search_pending.new.out) i.consumed (omega (arith, i.size)) begins

pub returns-in_err-check-clause-begins : goal.returns-in_err-check-clause-begins
returns-in_err-check-clause-begins g c = begun_so_far g (goal.at.returns-in_err-check-clause-begins g c).After-add_steps

pub returns-in_err-ended-in-Err-clause-begins : goal.returns-in_err-ended-in-Err-clause-begins
returns-in_err-ended-in-Err-clause-begins g c = begun_so_far g (goal.at.returns-in_err-ended-in-Err-clause-begins g c).After-add_steps

pub returns-in-Err-clause-begins : goal.returns-in-Err-clause-begins
returns-in-Err-clause-begins g c = begun_so_far g (goal.at.returns-in-Err-clause-begins g c).After-add_steps

pub returns-in-Err-clause-lines : goal.returns-in-Err-clause-lines
returns-in-Err-clause-lines g c =
    let i = c.pieces.invariant in
    let at = (goal.at.returns-in-Err-clause-lines g c).After-add_steps in
    let page = c.args.page.now in
    let first = pending_bytes c.args.buffer.now in
    let all = first ++ i.read in
    let g0 = given c.args.out.now in
    let g2 = given c.search_pending.new.out in
    let here = c.search_pending.new.self.shown in
    let ended = c.in_ok-ended-in-Err.ended in
    read_cut c.in-Err.fault ended c.args.buffer.now.left c.search_pending.new.buffer.left (g.R.Source.model c.args.input.now)
    (g.R.Source.model c.pieces.input) (g.R.Source.model c.fill.new.input) i.read
    (λ text cut. IfFound c.args.search.now c.add_steps.new.self (λ finding. LinesStreamed page finding cut (first ++ text) g0 g2 (record { marked = here; ended = ended })))
    c.in_ok-ended-in-Err.ensures.ended c.in-Err.ensures.text.1 i.consumed (omega (arith, i.size, c.in_ok-held.ensures.left))
    (λ cut part is none finding found.
    let done : LinesPrinted page finding (terminated_lines all) g0 g2 here = lines_printed page g0 finding (terminated_lines all) g2 here
    (ap (λ (ls : List (List ℕ)). seen (all_printed page g0 finding ls)) (sym (append-nil (terminated_lines all))) ∙ searched g at none finding [] found) in
    (is, subst (λ (ls : List (List ℕ)). LinesPrinted page finding ls g0 g2 here) (sym (read_ended cut all part)) done))

pub returns-in_err-search_rest-clause-begins : goal.returns-in_err-search_rest-clause-begins
returns-in_err-search_rest-clause-begins g c =
    let at = (goal.at.returns-in_err-search_rest-clause-begins g c).After-add_steps in
    let r = c.in_err-search_rest.ensures in
    begins g at c.search_rest.new.search (given c.search_rest.new.out) (λ none finding found more.
    subst (λ (bytes : List ℕ). Begins bytes (all_printed c.args.page.now (given c.args.out.now) finding (terminated_lines (bytes_of g at) ++ more)).given) (sym r.begins)
    (begins_any g at (r.same.3 none) finding found more))

pub returns-in_err-check-2-clause-begins : goal.returns-in_err-check-2-clause-begins
returns-in_err-check-2-clause-begins g c =
    let i = c.pieces.invariant in
    let end = (goal.at.returns-in_err-check-2-clause-begins g c).After-pending in
    let r = c.in_ok-search_rest.ensures in
    lines_cut c.args.search.now c.search_rest.new.search c.args.page.now c.args.buffer.now.left (g.R.Source.model c.args.input.now)
    (g.R.Source.model c.fill.new.input) (pending_bytes c.args.buffer.now) i.read (given c.args.out.now) (given c.search_rest.new.out) c.search_rest.new.self.shown
    (read_all g end) (c.in-Ok-eq0.ensures.text.end c.in-Ok-eq0.field-0-test) (omega (arith, i.size))
    (shown g (goal.at.returns-in_err-check-2-clause-begins g c).After-add_steps c.search_rest.new.search c.search_rest.new.self (given c.search_rest.new.out) c.pending.result.now (same g end)
    r.same r.rows)

pub returns-clause-begins : goal.returns-clause-begins
returns-clause-begins g c =
    let i = c.pieces.invariant in
    let end = (goal.at.returns-clause-begins g c).After-pending in
    let r = c.in_ok-search_rest.ensures in
    lines_cut c.args.search.now c.search_rest.new.search c.args.page.now c.args.buffer.now.left (g.R.Source.model c.args.input.now)
    (g.R.Source.model c.fill.new.input) (pending_bytes c.args.buffer.now) i.read (given c.args.out.now) (given c.search_rest.new.out) c.search_rest.new.self.shown
    (read_all g end) (c.in-Ok-eq0.ensures.text.end c.in-Ok-eq0.field-0-test) (omega (arith, i.size))
    (shown g (goal.at.returns-clause-begins g c).After-add_steps c.search_rest.new.search c.search_rest.new.self (given c.search_rest.new.out) c.pending.result.now (same g end)
    r.same r.rows)

pub returns-clause-lines : goal.returns-clause-lines
returns-clause-lines g c =
    let i = c.pieces.invariant in
    let end = (goal.at.returns-clause-lines g c).After-pending in
    let r = c.in_ok-search_rest.ensures in
    lines_streamed c.args.search.now c.search_rest.new.search c.args.page.now c.args.buffer.now.left (g.R.Source.model c.args.input.now)
    (g.R.Source.model c.fill.new.input) (pending_bytes c.args.buffer.now) i.read (given c.args.out.now) (given c.search_rest.new.out) c.search_rest.new.self.shown
    (read_all g end) (c.in-Ok-eq0.ensures.text.end c.in-Ok-eq0.field-0-test) (omega (arith, i.size))
    (shown g (goal.at.returns-clause-lines g c).After-add_steps c.search_rest.new.search c.search_rest.new.self (given c.search_rest.new.out) c.pending.result.now
    (same g end) r.same r.rows)

pub returns-in_err-held-clause-work : goal.returns-in_err-held-clause-work
returns-in_err-held-clause-work g c =
    let i = c.pieces.invariant in
    let options = c.args.page.now.options.now in
    let search = c.args.search.now in
    let w = line_weight search in
    let mid = c.pieces.search in
    let new = c.search_pending.new.search.matcher in
    let text = pending_bytes c.pieces.buffer in
    let held = c.pieces.held.len in
    let first = pending_bytes c.args.buffer.now in
    let all = first ++ i.read in
    record {
      text = i.read;
      read = i.consumed;
      size = omega (arith, i.size);
      bound = shown_cut options w search.matcher new all all (length i.read) 0 0 0 (omega arith) (omega (arith, length-append first i.read)) (omega arith)
          (works_still (shown_all options w (length all) (length i.read) 0 0) search.matcher new
          (part_done options w (length all) (length i.read) (line_weight mid) search.matcher mid.matcher new (length text) held c.pieces.scanned 0 0
          (length text - held) (length text) i.fewer i.ready.high (omega arith) (omega arith) (same_weight search mid i.same) i.work
          (subst (λ (p : Page). WorksWithin (length text - c.pieces.scanned + part_work p.options.now (line_weight mid) (length text - held) (length text))
          mid.matcher new) i.page c.in_err-held.ensures.cut)));
    }

pub returns-in_err-check-clause-work : goal.returns-in_err-check-clause-work
returns-in_err-check-clause-work g c =
    let model = g.R.Source.model c.pieces.input in
    stopped g (goal.at.returns-in_err-check-clause-work g c).After-add_steps model [] (omega arith) (nothing_read model)

pub returns-in_err-ended-in-Err-clause-work : goal.returns-in_err-ended-in-Err-clause-work
returns-in_err-ended-in-Err-clause-work g c =
    let later = g.R.Source.model c.fill.new.input in
    let more = refused_read c.in-Err.fault c.search_pending.new.buffer.left (g.R.Source.model c.pieces.input) later c.in-Err.ensures.text.1 in
    stopped g (goal.at.returns-in_err-ended-in-Err-clause-work g c).After-add_steps later more.0 more.1 more.2

pub returns-in-Err-clause-work : goal.returns-in-Err-clause-work
returns-in-Err-clause-work g c =
    let later = g.R.Source.model c.fill.new.input in
    let more = refused_read c.in-Err.fault c.search_pending.new.buffer.left (g.R.Source.model c.pieces.input) later c.in-Err.ensures.text.1 in
    stopped g (goal.at.returns-in-Err-clause-work g c).After-add_steps later more.0 more.1 more.2

pub returns-in_err-search_rest-clause-work : goal.returns-in_err-search_rest-clause-work
returns-in_err-search_rest-clause-work g c =
    let at = (goal.at.returns-in_err-search_rest-clause-work g c).After-pending in
    ended_work g (goal.at.returns-in_err-search_rest-clause-work g c).After-add_steps c.search_rest.new.search (g.R.Source.model c.fill.new.input)
    c.pending.result.now (same g at) (read_all g at) c.in_err-search_rest.ensures.work

pub returns-in_err-check-2-clause-work : goal.returns-in_err-check-2-clause-work
returns-in_err-check-2-clause-work g c =
    let at = (goal.at.returns-in_err-check-2-clause-work g c).After-pending in
    ended_work g (goal.at.returns-in_err-check-2-clause-work g c).After-add_steps c.search_rest.new.search (g.R.Source.model c.fill.new.input)
    c.pending.result.now (same g at) (read_all g at) c.in_ok-search_rest.ensures.work

pub returns-clause-work : goal.returns-clause-work
returns-clause-work g c =
    let at = (goal.at.returns-clause-work g c).After-pending in
    ended_work g (goal.at.returns-clause-work g c).After-add_steps c.search_rest.new.search (g.R.Source.model c.fill.new.input)
    c.pending.result.now (same g at) (read_all g at) c.in_ok-search_rest.ensures.work

pub returns-in_err-search_rest-clause-keeps : goal.returns-in_err-search_rest-clause-keeps
returns-in_err-search_rest-clause-keeps g c =
    g.met.R.Source.keeps_trans c.args.input.now c.pieces.input c.fill.new.input c.pieces.invariant.keeps c.in-Ok-eq0.ensures.keeps

pub returns-in_err-search_rest-clause-handed : goal.returns-in_err-search_rest-clause-handed
returns-in_err-search_rest-clause-handed g c =
    let m = g.O.Sink.model in
    let f = g.O.Sink.failed in
    keeps_then m f c.args.out.now c.search_pending.new.out c.search_rest.new.out
    (keeps_then m f c.args.out.now c.pieces.out c.search_pending.new.out c.pieces.invariant.handed c.in_ok-held.ensures.keeps)
    c.in_err-search_rest.ensures.keeps
