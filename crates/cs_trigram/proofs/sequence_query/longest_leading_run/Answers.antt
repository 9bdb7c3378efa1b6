use Rattle.std.proofs.Common.{◌≡◌, ◌+◌, ◌-◌, ◌<◌, ℕ, get_or, length, take, refl, sym, ap, ◌∙◌, subst, List, arith}
use Rattle.std.proofs.Math.Seq.{take-length}
use Rattle.std.proofs.lemmas.List.{map-id}
use Rattle.cs_syntax.specs.TreeList.{append}
use Rattle.cs_syntax.specs.Matching.{Tree, Trees, cat, none, more}
use Rattle.cs_trigram.specs.ExactSet.{IsExactSetOf, AreExactSetsReversed}
use Rattle.cs_trigram.specs.Analysis.{AreExactStrings, IsBlocked}
use Rattle.cs_trigram.specs.declared.exact_set.ExactSet.{ExactSet}
use Rattle.cs_trigram.proofs.ExactSetLemmas.{exact_set_first}
use Rattle.cs_trigram.proofs.LeadingRunLemmas.{run_strings}
use Rattle.cs_syntax.proofs.TreeListLemmas.{append_assoc_trees}
use Rattle.cs_trigram.proofs.NodeListLemmas.{none_of, some_of}
use Rattle.cs_trigram.proofs.sequence_query.longest_leading_run.Goals as goal

-- the part before an index
part_before : (counts : List ExactSet) (index : ℕ) (c : ExactSet) (ts : Trees) → 0 < index → index - 1 < length counts →
    c ≡ get_or counts (index - 1) c →
    AreExactSetsReversed (take index counts) ts → (t : Tree) × (rest : Trees) × (ts ≡ more t rest) × IsExactSetOf c t ×
    AreExactSetsReversed (take (index - 1) counts) rest
part_before counts index c ts some lt is h =
    let same : index ≡ index - 1 + 1 = omega arith in
    exact_set_first counts (index - 1) c ts lt is (subst (λ n. AreExactSetsReversed (take n counts) ts) same h)

pub parts-init : goal.parts-init
parts-init c =
    let following = c.args.following.now in (
      omega arith,
      λ t ts strings counts. (
        more t none,
        ts,
        refl,
        subst (λ (ws : List (List ℕ)). AreExactStrings ws (cat (more t none)))
            (sym (c.in_ok-leading.ensures ∙ map-id c.args.strings.now)) (run_strings c.args.strings.now t strings),
        subst (λ (cs : List ExactSet). AreExactSetsReversed cs ts) (sym (take-length following)) counts,
      ),
    )

pub returns-in_default : goal.returns-in_default
returns-in_default c = λ t ts strings counts.
    let index = c.parts.index in
    let part = c.index-following-index.result in
    let h = c.parts.invariant.1 t ts strings counts in
    let next = part_before c.args.following.now index part h.1 (omega arith) (omega (arith, c.parts.invariant.0))
    c.index-following-index.is h.4 in
    let run = subst (λ (ws : List (List ℕ)). AreExactStrings ws (cat h.0)) (sym c.deref.ensures.value) h.3 in
    let stop = none_of c.in_ok-longer.field-0 _ _ (c.in_ok-longer.ensures h.0 next.0 run next.3) c.in_default.not-Some in
    record { run = h.0; after = h.1; is = h.2; exact = h.3; blocked = subst (IsBlocked h.0) (sym next.2) stop }

pub parts-preserved : goal.parts-preserved
parts-preserved c = (
  omega (arith, c.parts.invariant.0),
  λ t ts strings counts.
      let index = c.parts.index in
      let part = c.index-following-index.result in
      let h = c.parts.invariant.1 t ts strings counts in
      let next = part_before c.args.following.now index part h.1 (omega arith) (omega (arith, c.parts.invariant.0))
      c.index-following-index.is h.4 in
      let run = subst (λ (ws : List (List ℕ)). AreExactStrings ws (cat h.0)) (sym c.deref.ensures.value) h.3 in
      let longer = some_of c.in_ok-longer.field-0 c.in-Some.longer _ _ (c.in_ok-longer.ensures h.0 next.0 run next.3) c.in-Some.is in (
        append h.0 (more next.0 none),
        next.1,
        h.2 ∙ ap (append h.0) next.2 ∙ sym (append_assoc_trees h.0 (more next.0 none) next.1),
        longer,
        next.4,
      ),
)
