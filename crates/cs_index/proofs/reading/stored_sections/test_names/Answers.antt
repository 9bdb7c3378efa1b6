use Rattle.std.specs.Prelude.{bytes_eq}
use Rattle.std.proofs.Common.{◌≡◌, ◌+◌, ◌-◌, ◌*◌, ◌∙◌, ◌&&◌, ◌||◌, ◌∷◌, ◌++◌, [], ap, sym, subst, refl, true, eqb, arith, ℕ, List, length, take, drop}
use Rattle.std.proofs.lemmas.Bool.{true≢false}
use Rattle.std.proofs.lemmas.List.{take_rest}
use Rattle.cs_tree.specs.Store.{part_of}
use Rattle.cs_index.specs.Opening.{is_section, texts_of}
use Rattle.cs_index.specs.SectionPieces.{IsNoSection, IsTextRun, left_from}
use Rattle.cs_index.specs.ValidSections.{has_starts}
use Rattle.cs_index.proofs.decoding.DecodableBytesOpen.{rise_from}
use Rattle.cs_index.proofs.stored.SectionPieces.{AreNamesBefore, names_end, names_more, names_not, none_before, part_long, run_long, run_texts, run_valid, window_begins, window_last, window_run}
use Rattle.cs_index.proofs.reading.stored_sections.test_names.Goals as goal

pub pieces-init : goal.pieces-init
pieces-init g c =
    let s = c.args.starts.now in
    let w = c.new-window.result in
    let rise = rise_from s.paths s.names s.postings s.name_index s.list_index s.trailer c.requires.order in
    let empty = ap length c.new-window.ensures.empty in
    let short = c.requires.short in
    record {
      window = record { within = omega (arith, empty, rise.bc, c.new-window.ensures.start); short = omega (arith, short, rise.cd, rise.de, rise.ea) };
      used = omega arith;
      piece = λ bytes m. c.new-window.ensures.piece bytes;
      few = omega (arith, c.new-window.ensures.start);
      begun = omega (arith, c.new-window.ensures.start);
      before = λ bytes m.
          let section : List ℕ = part_of bytes s.names (s.postings - s.names) in
          let index : List ℕ = part_of bytes s.name_index (s.list_index - s.name_index) in
          let begin : s.names ≡ w.start + 0 = omega (arith, c.new-window.ensures.start) in
          let size : s.postings - s.names ≡ s.postings - (w.start + 0) = omega (arith, c.new-window.ensures.start) in
          subst (λ (o : ℕ). AreNamesBefore section index (left_from bytes s.postings w 0) 0 o true)
          (let z : 0 ≡ w.start + 0 - s.names = omega (arith, begin) in z)
          (subst (λ (l : List ℕ). AreNamesBefore section index l 0 0 true) (λ i. part_of bytes (begin i) (size i))
          (none_before section index));
      rest = λ e. absurd (true≢false e);
      last = λ bytes m within e. absurd (true≢false e);
      keeps = refl;
      size = refl;
      failed = refl;
    }

pub returns-in_default-clause-names : goal.returns-in_default-clause-names
returns-in_default-clause-names g c bytes m within =
    let i = c.pieces.invariant in
    let new = c.read_on.new.self in
    let piece : List ℕ = new.piece.items in
    let stop : ℕ = c.args.starts.now.postings in
    let more : List ℕ = part_of bytes (new.start + length piece) (stop - new.start - length piece) in
    let begins = window_begins bytes stop c.pieces.window new c.pieces.used c.in_ok-more.ensures.start
    c.read_on.ensures.window (c.in_ok-more.ensures.piece bytes (i.keeps ∙ m) (i.piece bytes m)) in
    names_not _ _ (left_from bytes stop c.pieces.window c.pieces.used) _ _ _ (i.before bytes m)
    (subst IsNoSection (ap (λ p. p ++ more) c.deref.ensures.value ∙ sym begins) (c.in_default.ensures.none more))

pub has_offsets-have_offsets-requires-clause-names : goal.has_offsets-have_offsets-requires-clause-names
has_offsets-have_offsets-requires-clause-names g c =
    let piece : List ℕ = c.read_on.new.self.piece.items in
    let run = c.in-Some.run' in
    let is : IsTextRun piece run = subst (λ (p : List ℕ). IsTextRun p run) c.deref.ensures.value c.in-Some.ensures.run in
    ap (λ p. is_section [] (take run.len p)) c.deref-in-pieces-2.ensures.value ∙ run_valid piece run is

pub has_offsets-have_offsets-requires-clause-count : goal.has_offsets-have_offsets-requires-clause-count
has_offsets-have_offsets-requires-clause-count g c =
    let piece : List ℕ = c.read_on.new.self.piece.items in
    let run = c.in-Some.run' in
    let is : IsTextRun piece run = subst (λ (p : List ℕ). IsTextRun p run) c.deref.ensures.value c.in-Some.ensures.run in
    sym is.count ∙ ap (λ (ts : List (List ℕ)). length ts)
    (sym (ap (λ p. texts_of (take run.len p)) c.deref-in-pieces-2.ensures.value ∙ run_texts piece run is))

pub pieces-preserved : goal.pieces-preserved
pieces-preserved g c =
    let i = c.pieces.invariant in
    let s = c.args.starts.now in
    let old = c.pieces.window in
    let new = c.read_on.new.self in
    let piece : List ℕ = new.piece.items in
    let run = c.in-Some.run' in
    let is : IsTextRun piece run = subst (λ (p : List ℕ). IsTextRun p run) c.deref.ensures.value c.in-Some.ensures.run in
    let begin = c.in_ok-more.ensures.start in
    let few = i.few in
    let begun = i.begun in
    let counts = is.few in
    let long = run_long piece run is in
    let order = rise_from s.paths s.names s.postings s.name_index s.list_index s.trailer c.requires.order in
    let offset : ℕ = old.start + c.pieces.used - s.names in
    let same : new.start - s.names ≡ offset = omega (arith, begin) in
    record {
      window = c.read_on.ensures.window;
      used = is.within;
      piece = λ bytes m. c.in_ok-more.ensures.piece bytes (i.keeps ∙ m) (i.piece bytes m);
      few = omega (arith, begin, few, counts);
      begun = omega (arith, begin, begun);
      before = λ bytes m.
          let section : List ℕ = part_of bytes s.names (s.postings - s.names) in
          let index : List ℕ = part_of bytes s.name_index (s.list_index - s.name_index) in
          let rest : List ℕ = left_from bytes s.postings new run.len in
          let strings = window_run bytes s.postings old new c.pieces.used run begin c.read_on.ensures.window
          (c.in_ok-more.ensures.piece bytes (i.keeps ∙ m) (i.piece bytes m)) is in
          let numbers : List ℕ = part_of index (4 * c.pieces.count) (4 * (length is.texts + 1)) in
          let read : c.deref-in-pieces.result.now ≡ numbers =
          c.deref-in-pieces.ensures.value ∙ c.in_ok-numbers.ensures.numbers bytes (c.read_on.ensures.store.0 ∙ i.keeps ∙ m)
          ∙ ap (λ n. part_of index (4 * c.pieces.count) (4 * (n + 1))) (sym is.count) in
          let have : c.has_offsets-have_offsets.result ≡ has_starts numbers 0 offset is.texts =
          c.has_offsets-have_offsets.ensures ∙ (λ j. has_starts (read j) 0 (same j)
          ((ap (λ p. texts_of (take run.len p)) c.deref-in-pieces-2.ensures.value ∙ run_texts piece run is) j)) in
          subst (AreNamesBefore section index rest (c.pieces.count + run.count) (new.start + run.len - s.names))
          (ap (λ b. c.pieces.have_offsets && b) (sym have))
          (names_more section index (left_from bytes s.postings old c.pieces.used) rest numbers
          c.pieces.count (c.pieces.count + run.count) offset (new.start + run.len - s.names) c.pieces.have_offsets
          is.texts (i.before bytes m) strings refl
          (ap (λ n. c.pieces.count + n) (sym is.count)) (omega (arith, begin, begun, long)));
      rest = λ e. is.rest;
      last = λ bytes m within e.
          window_last bytes s.postings new run.len c.read_on.ensures.window is.within
          (c.in_ok-more.ensures.end bytes (i.keeps ∙ m) (i.piece bytes m) (let a = order.cd in let b = order.de in
          let d = order.ea in omega (arith, within, a, b, d)) e);
      keeps = c.read_numbers.ensures.store.0 ∙ c.read_on.ensures.store.0 ∙ i.keeps;
      size = c.read_numbers.ensures.store.1 ∙ c.read_on.ensures.store.1 ∙ i.size;
      failed = c.in_ok-numbers.ensures.store.2 ∙ c.in_ok-more.ensures.store.2 ∙ i.failed;
    }

pub returns-clause-names : goal.returns-clause-names
returns-clause-names g c bytes m within =
    let i = c.pieces.invariant in
    let s = c.args.starts.now in
    let w = c.pieces.window in
    let rest : List ℕ = drop c.pieces.used w.piece.items in
    let section : List ℕ = part_of bytes s.names (s.postings - s.names) in
    let index : List ℕ = part_of bytes s.name_index (s.list_index - s.name_index) in
    let order = rise_from s.paths s.names s.postings s.name_index s.list_index s.trailer c.requires.order in
    let long : length index ≡ s.list_index - s.name_index = part_long bytes s.name_index s.list_index order.de
    (let d = order.ea in omega (arith, within, d)) in
    let before = subst (λ (l : List ℕ). AreNamesBefore section index l c.pieces.count
    (w.start + c.pieces.used - s.names) c.pieces.have_offsets) (i.last bytes m within c.pieces-test.false)
    (i.before bytes m) in
    let ending = ap (λ (p : List ℕ). bytes_eq p (0 ∷ []) || bytes_eq p []) (sym (take_rest w.piece.items c.pieces.used)
    ∙ ap (λ (p : List ℕ). take (length p - c.pieces.used) (drop c.pieces.used p)) (sym c.deref-2.ensures.value))
    ∙ sym c.is_ending.ensures ∙ c.if-not-is_ending.false in
    names_end section index rest (w.start + c.pieces.used - s.names) c.pieces.have_offsets
    (record { count = c.pieces.count; have_offsets = c.pieces.have_offsets && eqb (s.list_index - s.name_index) (4 * (c.pieces.count + 1)) })
    before (i.rest c.pieces-test.false) ending (ap (λ n. c.pieces.have_offsets && eqb n (4 * (c.pieces.count + 1))) (sym long))
