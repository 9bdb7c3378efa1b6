-- The trigrams that the query of a sequence mentions.
use Rattle.std.proofs.Common.{false, ◌≡◌, ℕ, Bool, true, List, ◌++◌, reverse, refl, sym, subst, ◌∙◌, ap, append_assoc}
use Rattle.std.proofs.lemmas.List.{reverse-append, reverse-reverse}
use Rattle.cs_tree.specs.Cover.{is_among}
use Rattle.cs_syntax.specs.Matching.{Tree, Trees, cat, more}
use Rattle.cs_trigram.specs.Query.{mentions}
use Rattle.cs_trigram.specs.MayMatch.{MayMatch, MayMatchSequence, HasMembers, HaveMembers}
use Rattle.cs_trigram.specs.EndStrings.{forward, backward, HasEndString, AreEndStrings}
use Rattle.cs_trigram.specs.SequenceQuery.{IsAcross}
use Rattle.cs_trigram.specs.Analysis.{IsLongestLeadingRun, AreTrigramsOf, MentionsOnly}
use Rattle.cs_trigram.specs.declared.queries.Query.{Query}
use Rattle.cs_trigram.specs.declared.end_strings.EndString.{EndString}
use Rattle.cs_trigram.proofs.MayMatchLemmas.{run_within, rest_within, first_within, OccursIn}
use Rattle.cs_trigram.proofs.MentionLemmas.{trigrams_within}
use Rattle.cs_trigram.proofs.CrossProductLemmas.{occurs_across}

-- trigrams of the strings of the leading run
pub trigrams_of_run : (q : Query) (ts : Trees) (leading : List (List ℕ)) → IsLongestLeadingRun ts leading →
    MentionsOnly q (λ w. is_among leading w ≡ true) →
    AreTrigramsOf (mentions q) (HaveMembers ts) (MayMatchSequence false ts)
trigrams_of_run q ts leading run only =
    trigrams_within (mentions q) (Unit {0}) (HaveMembers ts) (λ w. is_among leading w ≡ true) (MayMatchSequence false ts) only (λ h. tt)
    (λ h w m. run_within ts run.run run.after w run.is h (run.exact.are.1.right w m))

module _ (test : ℕ → Bool) (t : Tree) (ts : Trees) where
  pub trigrams_of_rest : AreTrigramsOf test (HaveMembers ts) (MayMatchSequence false ts) →
      AreTrigramsOf test (HaveMembers (more t ts)) (MayMatchSequence false (more t ts))
  trigrams_of_rest are =
      trigrams_within test (HaveMembers ts) (HaveMembers (more t ts)) (MayMatchSequence false ts)
      (MayMatchSequence false (more t ts)) are (λ h. h.1) (λ h w m. rest_within t ts w h.0 m)

  pub trigrams_of_first : AreTrigramsOf test (HasMembers t) (MayMatch false t) → AreTrigramsOf test (HaveMembers (more t ts))
      (MayMatchSequence false (more t ts))
  trigrams_of_first are =
      trigrams_within test (HasMembers t) (HaveMembers (more t ts)) (MayMatch false t) (MayMatchSequence false (more t ts)) are
      (λ h. h.0) (λ h w m. first_within t ts w h.1 m)

occurs_wider : (x r u v s : List ℕ) → OccursIn x (u ++ v) → OccursIn x ((r ++ u) ++ (v ++ s))
occurs_wider x r u v s o = (
  r ++ o.0,
  o.1 ++ s,
  append_assoc r u (v ++ s)
      ∙ ap (λ (y : List ℕ). r ++ y) (sym (append_assoc u v s) ∙ ap (λ (y : List ℕ). y ++ s) o.2
      ∙ append_assoc o.0 (x ++ o.1) s ∙ ap (λ (y : List ℕ). o.0 ++ y) (append_assoc x o.1 s))
      ∙ sym (append_assoc r o.0 (x ++ (o.1 ++ s))),
)

-- trigrams across the end of the first part
pub trigrams_across : (q : Query) (suffixes prefixes : List EndString) (t : Tree) (ts : Trees) →
    AreEndStrings backward suffixes t → AreEndStrings forward prefixes (cat ts) →
    MentionsOnly q (IsAcross suffixes prefixes) → AreTrigramsOf (mentions q) (HaveMembers (more t ts)) (MayMatchSequence false (more t ts))
trigrams_across q suffixes prefixes t ts last first only =
    trigrams_within (mentions q) (Unit {0}) (HaveMembers (more t ts)) (IsAcross suffixes prefixes)
    (MayMatchSequence false (more t ts)) only (λ h. tt)
    (λ h text across.
    let a = last.each h.0 across.0 across.2 in
    let b = first.each h.1 across.1 across.3 in
    let before = reverse a.1.0 in
    let u = before ++ reverse a.0 in
    let v = b.0 ++ b.1.0 in (
      u ++ v,
      (u, v, subst (MayMatch false t) (reverse-append a.0 a.1.0) a.1.1, b.1.1, refl),
      occurs_wider text before (reverse a.0) b.0 b.1.0
          (occurs_across across.0 across.1 text (reverse a.0) b.0 across.4
          (subst (HasEndString across.0) (sym (reverse-reverse a.0)) a.2) b.2),
    ))
