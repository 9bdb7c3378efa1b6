use Rattle.std.proofs.Common.{◌≡◌, ◌∙◌, ◌&&◌, ap, not, subst, sym}
use Rattle.cs_trigram.specs.Trigram.{Ascends, has}
use Rattle.cs_state.specs.FileKinds.{kept_of}
use Rattle.cs_known.specs.Skipped.{is_candidate, prints_nothing}
use Rattle.cs_known.proofs.NameLemmas.{candidate_is, candidates_ascend}
use Rattle.cs_known.proofs.types.KnownFiles.prints_nothing.Goals as goal

pub returns-then-not-self : goal.returns-then-not-self
returns-then-not-self g c options binaries query parts name given candidates at below =
    let id = c.args.self.now.id in
    let candidate : c.is_candidate.result ≡ is_candidate query parts name =
    c.is_candidate.ensures (subst Ascends (sym candidates) (candidates_ascend parts query)) ∙ ap (λ xs. has xs id) candidates
    ∙ candidate_is parts query id name at below in
    (λ i. not (sym (c.if-not-self.true) i) && not (candidate i))
    ∙ ap (λ u. not u && not (is_candidate query parts name)) given.unmatched
    ∙ sym (ap (λ k. prints_nothing options binaries query parts name (kept_of k)) c.in-Text.is)
