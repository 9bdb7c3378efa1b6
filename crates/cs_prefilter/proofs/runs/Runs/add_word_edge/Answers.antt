use Rattle.std.proofs.Common.{◌≡◌, ◌-◌, ◌<◌, [], true, get_or, refl, sym, ap, subst, ◌∙◌, arith, length-drop}
use Rattle.std.specs.Prelude.{vec_len}
use Rattle.std.proofs.lemmas.List.{get_or_read}
use Rattle.cs_prefilter.specs.Words.{AreAll}
use Rattle.cs_syntax.specs.Matching.{word_edge, is_at_word_boundary, MatchesSpan}
use Rattle.cs_prefilter.proofs.RunLemmas.{follow_still, follow_same_run, follow_none, last_is_word, next_edge}
use Rattle.cs_prefilter.proofs.SpanLemmas.{on_ok_both}
use Rattle.cs_prefilter.proofs.runs.Runs.add_word_edge.Goals as goal

pub returns-then-self-len : goal.returns-then-self-len
returns-then-self-len c = follow_still _ _ _ (λ line i j h. h.0) refl refl (λ line i j h e. e.before refl)
    (λ line i j h e is.
    let at : e.ends.start ≡ i = omega (arith, e.ends.long, length-drop c.args.self.now.start c.args.self.now.sets.items, c.if-self-len.true, c.len.ensures) in
    subst (λ k. is_at_word_boundary line k ≡ true) (sym at) h.1)
    (λ line i j h e has. has)

pub returns-then-not-are_all : goal.returns-then-not-are_all
returns-then-not-are_all c = follow_none _ (λ line i j h. h.0) _

pub returns : goal.returns
returns c =
    let old = c.args.self.now in
    let some : old.start < vec_len old.sets = omega (arith, c.if-self-len.false, c.len.ensures, old.within) in
    let read = get_or_read old.sets.items (c.len-2.result - 1) c.index.result.now (omega (arith, c.len-2.ensures, some)) c.index.ensures [] in
    let all : AreAll true (get_or old.sets.items (vec_len old.sets - 1) []) =
    subst (AreAll true) (read ∙ ap (λ n. get_or old.sets.items (n - 1) []) c.len-2.ensures) (c.are_all.ensures c.if-not-are_all.false) in
    on_ok_both c.keep_before.result (λ run best.
    follow_same_run (λ line i j. MatchesSpan line word_edge i j) old c.keep_before.new.self (λ line i j h. h.0) run (λ line i j h e has.
    let last = last_is_word line old i e some all in
    best line i e (next_edge line i c.other_bytes.result e.is_line c.other_bytes.ensures last.0 e.ends.within last.1 h.1) has))
    c.keep_before.ensures.run c.keep_before.ensures.best
