use Rattle.std.proofs.Common.{◌≡◌, ◌≤◌, ◌+◌, ◌-◌, ◌++◌, [], ℕ, Bool, List, Option, length, take, refl, sym, ap, subst, ◌∙◌, arith, append_assoc, append-nil, length-append}
use Rattle.std.specs.List.{count_by}
use Rattle.std.proofs.lemmas.List.{nil_from_length, take_at}
use Rattle.cs_match.specs.LastPart.{last_line, last_part}
use Rattle.cs_match.specs.Lines.{lines, terminated_lines}
use Rattle.cs_match.specs.NoNewline.{HasNoNewline}
use Rattle.cs_match.proofs.LinesLemmas.{HasNoNewline-last_part, last_part-append, lines_within, lines-split, terminated_lines-append}
use Rattle.cs_tree.specs.StreamModels.{SourceModel, ends}
use Rattle.cs_tree.specs.Transfers.{Consumes}
use Rattle.cs_lines.specs.Buffer.{pending_bytes}
use Rattle.cs_lines.specs.Counts.{IsCount, ended_by}
use Rattle.cs_lines.specs.Findings.{Finding, KeepsSearch, Tests}
use Rattle.cs_lines.specs.Shown.{is_wanted, wanted_of}
use Rattle.cs_lines.specs.Streamed.{read_lines}
use Rattle.cs_lines.specs.declared.stream.Ended.TheVariants.{Whole}
use Rattle.cs_lines.proofs.CountLemmas.{count_append, count_both, count_enough, enough_more, ended_enough, ended_few, ended_whole, few_enough, is_count}
use Rattle.cs_lines.proofs.FindingLemmas.{keeps_again, keeps_itself, tests_same}
use Rattle.cs_match.specs.Automaton.{Automaton}
use Rattle.cs_match.specs.Work.{WorksWithin}
use Rattle.cs_lines.specs.declared.search.LineSearch.{LineSearch}
use Rattle.cs_lines.specs.Work.{Takes, TakesRead, input_work, line_weight, line_work, pending_work, searched_work}
use Rattle.cs_lines.proofs.ReadLemmas.{more_read, nothing_read, read_cut, read_ended, read_more, read_part, read_to, refused_read, some_read}
use Rattle.cs_lines.proofs.WorkLemmas.{all_work, block_done, done_work, input_done, input_past, read_done, same_weight, works_fewer, works_more}
use Rattle.cs_lines.proofs.counting.stream_count.Given.{Over}
use Rattle.cs_lines.proofs.counting.stream_count.Goals.{After-add_steps, After-count_pending-count, In-Ok-eq0}
use Rattle.cs_lines.proofs.counting.stream_count.Goals as goal

none_of : terminated_lines [] ≡ []
unfolding terminated_lines
none_of = refl

pub pieces-init : goal.pieces-init
pieces-init g c =
    let first = pending_bytes c.args.buffer.now in
    let model = g.R.Source.model c.args.input.now in
    record {
      read = [];
      counted = [];
      consumed = nothing_read model;
      size = omega arith;
      ended = c.requires.ended;
      within = omega arith;
      part = tt;
      room = omega arith;
      lines = ap terminated_lines (append-nil first);
      last = ap last_part (append-nil first);
      count = λ finding tests. is_count c.args.most 0 0 refl;
      failed = refl;
      same = keeps_itself c.args.search.now;
      budget = refl;
      work = (omega arith, omega (arith, length-append first []));
      fewer = omega (arith, length-append first []);
      keeps = g.met.R.Source.keeps_refl c.args.input.now;
    }

-- some lines more
counted_on : (most : Option ℕ) (wanted : List ℕ → Bool) (count n : ℕ) (all counted new : List (List ℕ)) → all ≡ counted ++ new →
    IsCount most count (count_by wanted counted) → IsCount most n (count_by wanted new) → IsCount most (count + n) (count_by wanted all)
counted_on most wanted count n all counted new is a b =
    subst (IsCount most (count + n)) (sym (ap (count_by wanted) is ∙ count_append wanted counted new))
    (count_both most count (count_by wanted counted) n (count_by wanted new) a b)

-- what was done of a text before the next read
searched_here : (w v : ℕ) (old mid new : Automaton) (total read : ℕ) (pending rest : List ℕ) (scanned : ℕ) → length pending ≤ total →
    scanned ≤ length pending → v ≡ w → rest ≡ last_part pending →
    WorksWithin (done_work w total read (length pending) scanned) old mid → WorksWithin (pending_work v pending scanned) mid new →
    WorksWithin (all_work w total read (length rest)) old new
searched_here w v old mid new total read pending rest scanned fewer within same is done next =
    block_done w total read v old mid new (length pending) (length rest) scanned fewer
    (omega (arith, ap (λ (t : List ℕ). length t) is, lines_within pending)) within same done
    (subst (λ (r : List ℕ). WorksWithin (searched_work v (length pending - length r) + (length pending - scanned)) mid new) (sym is) next)

-- the lines that have ended were counted
counted : (g : Over) (c : After-count_pending-count g) (finding : Finding) → Tests finding.has_match c.args.search.now →
    IsCount c.args.most (c.pieces.count + c.count_pending-count.result)
    (count_by (is_wanted c.args.options.now finding.has_match) (terminated_lines (pending_bytes c.args.buffer.now ++ c.pieces.invariant.read)))
counted g c finding tests =
    let i = c.pieces.invariant in
    let pending = pending_bytes c.pieces.buffer in
    counted_on c.args.most (is_wanted c.args.options.now finding.has_match) c.pieces.count c.count_pending-count.result
    (terminated_lines (pending_bytes c.args.buffer.now ++ i.read)) i.counted (terminated_lines pending) i.lines (i.count finding tests)
    (c.count_pending-count.ensures.count.counted finding (tests_same c.args.search.now c.pieces.search i.same finding.has_match tests))

-- and the steps so far
steps : (g : Over) (c : After-count_pending-count g) → let i = c.pieces.invariant in
    WorksWithin (all_work (line_weight c.args.search.now) (length (pending_bytes c.args.buffer.now ++ i.read)) (length i.read)
    (length (pending_bytes c.count_pending-count.new.buffer))) c.args.search.now.matcher c.count_pending-count.new.search.matcher
steps g c =
    let i = c.pieces.invariant in
    let e = c.count_pending-count.ensures in
    searched_here (line_weight c.args.search.now) (line_weight c.pieces.search) c.args.search.now.matcher c.pieces.search.matcher
    c.count_pending-count.new.search.matcher (length (pending_bytes c.args.buffer.now ++ i.read)) (length i.read) (pending_bytes c.pieces.buffer)
    (pending_bytes c.count_pending-count.new.buffer) c.pieces.scanned i.fewer i.within (same_weight c.args.search.now c.pieces.search i.same) e.count.rest i.work e.work

kept : (g : Over) (c : After-add_steps g) → KeepsSearch c.args.search.now c.add_steps.new.self
kept g c = keeps_again c.args.search.now c.count_pending-count.new.search c.add_steps.new.self
    (keeps_again c.args.search.now c.pieces.search c.count_pending-count.new.search c.pieces.invariant.same c.count_pending-count.ensures.same) c.add_steps.ensures.same

-- where the next read fails
unread_work : (g : Over) (c : After-count_pending-count g) (last : LineSearch) (later : Option SourceModel) (more : List ℕ) → length more ≤ 1 →
    Consumes (g.R.Source.model c.pieces.input) later more → Takes 1 c.count_pending-count.new.search last →
    TakesRead (input_work (line_weight c.args.search.now)) (pending_bytes c.args.buffer.now) c.args.buffer.now.left (g.R.Source.model c.args.input.now) later
    c.args.search.now last
unread_work g c last later more few read one =
    let i = c.pieces.invariant in
    let w = line_weight c.args.search.now in
    let s0 = c.args.search.now.matcher in
    let first = pending_bytes c.args.buffer.now in
    record {
      text = i.read ++ more;
      read = more_read (g.R.Source.model c.args.input.now) (g.R.Source.model c.pieces.input) later i.read more i.consumed read;
      size = omega (arith, i.size, length-append i.read more, few);
      bound = subst (λ (t : List ℕ). WorksWithin (input_work w t) s0 last.matcher) (append_assoc first i.read more)
          (input_past w s0 last.matcher (first ++ i.read) more (length i.read) (length (pending_bytes c.count_pending-count.new.buffer)) 1
          (omega (arith, length-append first i.read)) (omega arith) (works_more _ 1 s0 c.count_pending-count.new.search.matcher last.matcher (steps g c) one));
    }

-- ---- at the end of the text

same : (g : Over) (c : In-Ok-eq0 g) → pending_bytes c.fill.new.self ≡ pending_bytes c.count_pending-count.new.buffer
same g c =
    let t = c.in-Ok-eq0.ensures.text in
    let old = pending_bytes c.count_pending-count.new.buffer in
    t.text ∙ ap (λ (b : List ℕ). old ++ b) (nil_from_length t.bytes (t.size ∙ c.in-Ok-eq0.field-0-test)) ∙ append-nil old

read_all : (g : Over) (c : In-Ok-eq0 g) → Consumes (g.R.Source.model c.args.input.now) (g.R.Source.model c.fill.new.input) c.pieces.invariant.read
read_all g c =
    let i = c.pieces.invariant in
    let t = c.in-Ok-eq0.ensures.text in
    let model = g.R.Source.model c.args.input.now in
    let later = g.R.Source.model c.fill.new.input in
    subst (Consumes model later) (ap (λ (b : List ℕ). i.read ++ b) (nil_from_length t.bytes (t.size ∙ c.in-Ok-eq0.field-0-test)) ∙ append-nil i.read)
    (more_read model (g.R.Source.model c.pieces.input) later i.read t.bytes i.consumed t.consumed)

pub pieces-preserved : goal.pieces-preserved
pieces-preserved g c =
    let i = c.pieces.invariant in
    let e = c.count_pending-count.ensures in
    let f = c.in-Ok.ensures in
    let t = f.text in
    let first = pending_bytes c.args.buffer.now in
    let all = first ++ i.read in
    let pending = pending_bytes c.pieces.buffer in
    let old = pending_bytes c.count_pending-count.new.buffer in
    let new = pending_bytes c.fill.new.self in
    let model = g.R.Source.model c.args.input.now in
    let n : length c.pending-scanned.result.now ≡ length old = ap (λ (x : List ℕ). length x) c.pending-scanned.ensures in
    let size : length new ≡ length old + length t.bytes = ap (λ (x : List ℕ). length x) t.text ∙ length-append old t.bytes in
    let last : last_part all ≡ old = i.last ∙ sym e.count.rest in
    let none : HasNoNewline old = subst HasNoNewline (sym e.count.rest) (HasNoNewline-last_part pending) in
    record {
      read = i.read ++ t.bytes;
      counted = i.counted ++ terminated_lines pending;
      consumed = more_read model (g.R.Source.model c.pieces.input) (g.R.Source.model c.fill.new.input) i.read t.bytes i.consumed t.consumed;
      size = omega (arith, i.size, length-append i.read t.bytes, t.size, f.left, e.left);
      ended = f.ended;
      within = omega (arith, size, n);
      part = subst HasNoNewline (sym (ap (λ k. take k new) n ∙ ap (take (length old)) t.text ∙ take_at old t.bytes (length old) refl)) none;
      room = omega (arith, i.room, size, t.size, e.count.size, e.left, f.left);
      lines = ap terminated_lines (sym (append_assoc first i.read t.bytes))
          ∙ terminated_lines-append all t.bytes
          ∙ ap (λ (p : List ℕ). terminated_lines all ++ terminated_lines (p ++ t.bytes)) last
          ∙ ap (λ (p : List ℕ). terminated_lines all ++ terminated_lines p) (sym t.text)
          ∙ ap (λ (ls : List (List ℕ)). ls ++ terminated_lines new) i.lines;
      last = ap last_part (sym (append_assoc first i.read t.bytes))
          ∙ last_part-append all t.bytes
          ∙ ap (λ (p : List ℕ). last_part (p ++ t.bytes)) last
          ∙ ap last_part (sym t.text);
      count = λ finding tests.
          counted_on c.args.most (is_wanted c.args.options.now finding.has_match) c.pieces.count c.count_pending-count.result
          (i.counted ++ terminated_lines pending) i.counted (terminated_lines pending) refl (i.count finding tests)
          (e.count.counted finding (tests_same c.args.search.now c.pieces.search i.same finding.has_match tests));
      failed = f.failed ∙ i.failed;
      same = kept g (goal.at.pieces-preserved g c).After-add_steps;
      budget = c.add_steps.ensures.budget ∙ e.budget ∙ i.budget;
      work =
          let total = length (first ++ i.read) in
          let mid = c.count_pending-count.new.search.matcher in
          let new-total : length (first ++ (i.read ++ t.bytes)) ≡ total + length t.bytes =
          omega (arith, length-append first i.read, length-append first (i.read ++ t.bytes), length-append i.read t.bytes) in
          let low : length old ≤ total = omega (arith, i.fewer, ap (λ (x : List ℕ). length x) e.count.rest, lines_within pending) in
          let left : length (first ++ (i.read ++ t.bytes)) - length new ≡ total + length t.bytes - (length old + length t.bytes) = omega (arith, new-total, size) in
          works_fewer _ _ c.args.search.now.matcher c.add_steps.new.self.matcher
          (omega (arith, ap (searched_work (line_weight c.args.search.now)) left, new-total, size, n, length-append i.read t.bytes))
          (read_done (line_weight c.args.search.now) total (length i.read) c.args.search.now.matcher mid c.add_steps.new.self.matcher (length old) (length t.bytes) low
          (omega (arith, some_read c.in-Ok.field-0 c.in-Ok.field-0-test.1, t.size))
          (steps g (goal.at.pieces-preserved g c).After-count_pending-count) c.add_steps.ensures.work);
      fewer = omega (
        arith,
        i.fewer,
        size,
        length-append first i.read,
        length-append first (i.read ++ t.bytes),
        length-append i.read t.bytes,
        ap (λ (x : List ℕ). length x) e.count.rest,
        lines_within pending,
      );
      keeps = g.met.R.Source.keeps_trans c.args.input.now c.pieces.input c.fill.new.input i.keeps f.keeps;
    }

pub returns-then-is_enough-clause-count : goal.returns-then-is_enough-clause-count
returns-then-is_enough-clause-count g c =
    let i = c.pieces.invariant in
    let e = c.count_pending-count.ensures in
    let options = c.args.options.now in
    let most = c.args.most in
    let first = pending_bytes c.args.buffer.now in
    let all = first ++ i.read in
    let count = c.pieces.count + c.count_pending-count.result in
    let enough = sym c.is_enough.ensures ∙ c.if-is_enough.true in
    read_part c.args.buffer.now.left (g.R.Source.model c.args.input.now) (g.R.Source.model c.pieces.input) i.read
    (λ text ended. (finding : Finding) → Tests finding.has_match c.args.search.now →
    IsCount most count (wanted_of options finding (read_lines ended (first ++ text)))
    × (Whole ≡ ended_by most (wanted_of options finding (read_lines ended (first ++ text))) ended))
    i.consumed (omega (arith, i.size))
    (λ more ended finding tests.
    let wanted = is_wanted options finding.has_match in
    let rest = read_more ended all more in
    let is = ap (read_lines ended) (sym (append_assoc first i.read more)) ∙ rest.1 in
    let so_far = counted g (goal.at.returns-then-is_enough-clause-count g c).After-count_pending-count finding tests in
    let done : IsCount most count (wanted_of options finding (read_lines ended (first ++ (i.read ++ more)))) =
    subst (IsCount most count) (sym (ap (count_by wanted) is ∙ count_append wanted (terminated_lines all) rest.0))
    (count_enough most count (count_by wanted (terminated_lines all)) (count_by wanted rest.0) enough so_far) in
    (done, ended_enough most _ ended (enough_more most count _ enough done.0)))

pub returns-in-Err-clause-count : goal.returns-in-Err-clause-count
returns-in-Err-clause-count g c =
    let i = c.pieces.invariant in
    let e = c.count_pending-count.ensures in
    let options = c.args.options.now in
    let most = c.args.most in
    let first = pending_bytes c.args.buffer.now in
    let all = first ++ i.read in
    let count = c.pieces.count + c.count_pending-count.result in
    let ended = c.in_ok-ended-in-Err.ended in
    let few = sym c.is_enough.ensures ∙ c.if-is_enough.false in
    read_cut c.in-Err.fault ended c.args.buffer.now.left c.count_pending-count.new.buffer.left (g.R.Source.model c.args.input.now)
    (g.R.Source.model c.pieces.input) (g.R.Source.model c.fill.new.input) i.read
    (λ text cut. (finding : Finding) → Tests finding.has_match c.args.search.now →
    IsCount most count (wanted_of options finding (read_lines cut (first ++ text)))
    × (ended ≡ ended_by most (wanted_of options finding (read_lines cut (first ++ text))) cut))
    c.in_ok-ended-in-Err.ensures.ended c.in-Err.ensures.text.1 i.consumed (omega (arith, i.size, e.left))
    (λ cut part is finding tests.
    let wanted = is_wanted options finding.has_match in
    let so_far = counted g (goal.at.returns-in-Err-clause-count g c).After-count_pending-count finding tests in
    let done = subst (λ (ls : List (List ℕ)). IsCount most count (count_by wanted ls)) (sym (read_ended cut all part)) so_far in
    (done, is ∙ ended_few most _ cut (few_enough most count _ few done)))

pub returns-clause-count : goal.returns-clause-count
returns-clause-count g c =
    let i = c.pieces.invariant in
    let e = c.count_pending-count.ensures in
    let t = c.in-Ok-eq0.ensures.text in
    let options = c.args.options.now in
    let most = c.args.most in
    let first = pending_bytes c.args.buffer.now in
    let all = first ++ i.read in
    let old = pending_bytes c.count_pending-count.new.buffer in
    let zero = c.in-Ok-eq0.field-0-test in
    let end = (goal.at.returns-clause-count g c).In-Ok-eq0 in
    let last : last_part all ≡ old = i.last ∙ sym e.count.rest in
    let model = g.R.Source.model c.args.input.now in
    let count = c.pieces.count + c.count_pending-count.result in
    read_to ends c.args.buffer.now.left model (g.R.Source.model c.fill.new.input) i.read
    (λ text ended. (finding : Finding) → Tests finding.has_match c.args.search.now →
    IsCount most (count + c.last_count-count.result) (wanted_of options finding (read_lines ended (first ++ text)))
    × (Whole ≡ ended_by most (wanted_of options finding (read_lines ended (first ++ text))) ended))
    (read_all g end) (t.end zero) (omega (arith, i.size))
    (λ finding tests.
    let wanted = is_wanted options finding.has_match in
    let so_far = counted g (goal.at.returns-clause-count g c).After-count_pending-count finding tests in
    let now = tests_same c.args.search.now c.add_steps.new.self (kept g (goal.at.returns-clause-count g c).After-add_steps) finding.has_match tests in
    let rest : c.last_count-count.result ≡ count_by wanted (last_line (last_part all)) =
    c.last_count-count.ensures.count finding now ∙ ap (λ (x : List ℕ). count_by wanted (last_line x)) (c.pending.ensures ∙ same g end ∙ sym last) in (
      counted_on most wanted count c.last_count-count.result (lines all) (terminated_lines all) (last_line (last_part all)) (lines-split all) so_far
          (is_count most c.last_count-count.result _ rest),
      ended_whole most _,
    ))

pub returns-then-is_enough-clause-work : goal.returns-then-is_enough-clause-work
returns-then-is_enough-clause-work g c =
    let i = c.pieces.invariant in
    let first = pending_bytes c.args.buffer.now in
    let s0 = c.args.search.now.matcher in
    let mid = c.count_pending-count.new.search.matcher in
    record {
      text = i.read;
      read = i.consumed;
      size = omega (arith, i.size);
      bound = input_done (line_weight c.args.search.now) s0 mid (first ++ i.read) (length i.read) (length (pending_bytes c.count_pending-count.new.buffer)) 0
          (omega (arith, length-append first i.read)) (omega arith)
          (works_fewer _ _ s0 mid (omega arith) (steps g (goal.at.returns-then-is_enough-clause-work g c).After-count_pending-count));
    }

pub returns-in_err-ended-in-Err-clause-work : goal.returns-in_err-ended-in-Err-clause-work
returns-in_err-ended-in-Err-clause-work g c =
    let later = g.R.Source.model c.fill.new.input in
    let more = refused_read c.in-Err.fault c.count_pending-count.new.buffer.left (g.R.Source.model c.pieces.input) later c.in-Err.ensures.text.1 in
    unread_work g (goal.at.returns-in_err-ended-in-Err-clause-work g c).After-count_pending-count c.add_steps.new.self later more.0 more.1 more.2
    c.add_steps.ensures.work

pub returns-in-Err-clause-work : goal.returns-in-Err-clause-work
returns-in-Err-clause-work g c =
    let later = g.R.Source.model c.fill.new.input in
    let more = refused_read c.in-Err.fault c.count_pending-count.new.buffer.left (g.R.Source.model c.pieces.input) later c.in-Err.ensures.text.1 in
    unread_work g (goal.at.returns-in-Err-clause-work g c).After-count_pending-count c.add_steps.new.self later more.0 more.1 more.2 c.add_steps.ensures.work

pub returns-clause-work : goal.returns-clause-work
returns-clause-work g c =
    let i = c.pieces.invariant in
    let e = c.count_pending-count.ensures in
    let end = (goal.at.returns-clause-work g c).In-Ok-eq0 in
    let w = line_weight c.args.search.now in
    let s0 = c.args.search.now.matcher in
    let first = pending_bytes c.args.buffer.now in
    let all = first ++ i.read in
    let rest : c.pending.result.now ≡ last_part all = c.pending.ensures ∙ same g end ∙ e.count.rest ∙ sym i.last in
    let read = c.add_steps.new.self.matcher in
    let v = line_weight c.add_steps.new.self in
    let last = c.last_count-count.new.search.matcher in
    let works = works_more _ _ s0 read last (works_more _ _ s0 c.count_pending-count.new.search.matcher read
    (steps g (goal.at.returns-clause-work g c).After-count_pending-count) c.add_steps.ensures.work) c.last_count-count.ensures.work in
    record {
      text = i.read;
      read = read_all g end;
      size = omega (arith, i.size);
      bound = input_done w s0 last all (length i.read) (length (pending_bytes c.count_pending-count.new.buffer)) (1 + line_work v (length c.pending.result.now))
          (omega (arith, length-append first i.read))
          (omega (
            arith,
            ap (λ (x : List ℕ). line_work v (length x)) rest,
            ap (λ (k : ℕ). line_work k (length (last_part all)))
                (same_weight c.args.search.now c.add_steps.new.self (kept g (goal.at.returns-clause-work g c).After-add_steps)),
          ))
          (works_fewer _ _ s0 last (omega arith) works);
    }
