use Rattle.std.proofs.Common.{◌≡◌, ℕ, ◌+◌, ◌&&◌, List, [], ◌∷◌, ◌++◌, take, ap, sym, ◌∙◌, arith, take_all, length-take}
use Rattle.std.specs.List.{list_all, sum_by}
use Rattle.std.proofs.lemmas.List.Sums.{sum_by_push}
use Rattle.std.proofs.Math.Bool.{and-true}
use Rattle.std.proofs.lemmas.List.Folds.{list_all-append}
use Rattle.cs_trigram.specs.Trigram.{trigram_sequence}
use Rattle.cs_trigram.specs.Query.{mentions, query_size}
use Rattle.cs_trigram.specs.Analysis.{all_match, some_mentions}
use Rattle.cs_trigram.specs.declared.queries.Query.{Query}
use Rattle.cs_trigram.specs.declared.queries.Query.TheVariants.{Tri}
use Rattle.cs_trigram.proofs.QueryLemmas.{matches_set-And, matches_set-Tri, mentions-And, all_match_push, mentions_push}
use Rattle.cs_trigram.proofs.MentionLemmas.{no_trigrams, trigrams_of_both, mentions_one, trigram_at}
use Rattle.cs_trigram.proofs.SizeLemmas.{size-Tri, size-And}
use Rattle.cs_trigram.proofs.SplitTrigramLemmas.{sequence-short, sequence-more}
use Rattle.cs_trigram.proofs.SubstringTrigramLemmas.{all_trigrams_tri}
use Rattle.cs_trigram.proofs.queries.all_trigrams.Goals as goal

pub loop-offset-init : goal.loop-offset-init
loop-offset-init c = (
  omega arith,
  λ set. ap (λ (qs : List Query). all_match qs set) c.in_ok-members.ensures.items
      ∙ ap (list_all set) (sym (sequence-short (take (0 + 2) c.args.text.now) (omega (arith, length-take (0 + 2) c.args.text.now)))),
  no_trigrams _ (Unit {0}) (λ part. part ≡ c.args.text.now)
      (λ g. ap (λ (qs : List Query). some_mentions qs g) c.in_ok-members.ensures.items),
  ap (sum_by query_size) c.in_ok-members.ensures.items,
  omega arith,
)

pub returns-clause-required : goal.returns-clause-required
returns-clause-required c = λ set.
    matches_set-And set c.loop-offset.members ∙ c.loop-offset.invariant.1 set
    ∙ ap (λ (xs : List ℕ). list_all set (trigram_sequence xs))
    (take_all (c.loop-offset.offset + 2) c.args.text.now (omega arith)) ∙ sym (all_trigrams_tri set c.args.text.now)

pub returns-clause-mentioned : goal.returns-clause-mentioned
returns-clause-mentioned c = λ g h. c.loop-offset.invariant.2 g (sym (mentions-And g c.loop-offset.members) ∙ h)

pub returns-clause-small : goal.returns-clause-small
returns-clause-small c = omega (arith, size-And c.loop-offset.members, c.loop-offset.invariant.3, c.loop-offset.invariant.4)

pub loop-offset-preserved : goal.loop-offset-preserved
loop-offset-preserved c =
    let text = c.args.text.now in
    let members = c.loop-offset.members.items in
    let number = c.trigram-number.result in
    let offset = c.loop-offset.offset in
    let before = trigram_sequence (take (offset + 2) text) in
    let next : trigram_sequence (take (offset + 1 + 2) text) ≡ before ++ number ∷ [] =
    sequence-more offset text (omega arith) ∙ ap (λ n. before ++ n ∷ []) (sym c.trigram-number.ensures.number) in (
      omega arith,
      λ set.
          ap (λ (qs : List Query). all_match qs set) c.in_ok-push.ensures.items ∙ all_match_push set members (Tri number)
          ∙ (λ i. c.loop-offset.invariant.1 set i && matches_set-Tri set number i)
          ∙ sym (ap (list_all set) next ∙ list_all-append set before (number ∷ [])
          ∙ ap (λ b. list_all set before && b) (and-true (set number))),
      trigrams_of_both (some_mentions members) (mentions (Tri number)) (some_mentions c.push.new.self.items) (Unit {0})
          (λ part. part ≡ text)
          (λ g. ap (λ (qs : List Query). some_mentions qs g) c.in_ok-push.ensures.items
          ∙ mentions_push g members (Tri number)) c.loop-offset.invariant.2
          (mentions_one number text c.trigram-number.ensures.below (trigram_at text (offset + 1 + 2) number before next)),
      omega (
        arith,
        ap (sum_by query_size) c.in_ok-push.ensures.items,
        sum_by_push query_size members (Tri number),
        size-Tri number,
        c.loop-offset.invariant.3,
      ),
      omega arith,
    )
