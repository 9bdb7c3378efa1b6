use Rattle.std.proofs.Common.{◌≡◌, true, ◌+◌, ◌-◌, ◌||◌, ℕ, List, ◌≤◌, drop, length, sym, ◌∙◌, ap, arith}
use Rattle.cs_tree.specs.Cover.{is_among}
use Rattle.cs_trigram.specs.Analysis.{has_trigrams, some_matches, some_mentions, has_any}
use Rattle.std.specs.List.{sum_by}
use Rattle.std.proofs.lemmas.List.Sums.{sum_by-cons, sum_by_push}
use Rattle.cs_trigram.specs.Query.{mentions, query_size}
use Rattle.cs_trigram.specs.declared.queries.Query.{Query}
use Rattle.cs_trigram.proofs.MentionLemmas.{trigrams_of_both, trigrams_within, occurs_itself}
use Rattle.cs_trigram.proofs.QueryLemmas.{matches_set-All, mentions_push, short_there, text_step}
use Rattle.cs_trigram.proofs.SizeLemmas.{size-All}
use Rattle.cs_trigram.proofs.EnumerationLemmas.{string_at}
use Rattle.cs_trigram.proofs.NodeListLemmas.{item_from}
use Rattle.cs_trigram.proofs.queries.any_string.Goals as goal

pub returns-then-bytes-lt3-clause-required : goal.returns-then-bytes-lt3-clause-required
returns-then-bytes-lt3-clause-required c = λ set.
    let strings = c.args.strings.now in
    let i = c.loop-string.string-index in
    let w = c.string-item.result in
    let some = some_matches c.loop-string.members.items set in
    let short : length w ≤ 2 = omega (arith, ap length c.bytes.ensures) in
    matches_set-All set ∙ sym (short_there set (drop (i + 1) strings) w some short)
    ∙ ap (λ (ws : List (List ℕ)). some || has_any set ws) (sym (item_from strings i w c.loop-string-test.true c.string-item.is))
    ∙ c.loop-string.invariant.0 set

-- the nodes for a string
abbrev nodes : List ℕ → ℕ
nodes string = length string - 1

pub returns-clause-small : goal.returns-clause-small
returns-clause-small c = omega (arith, c.any_of.ensures.small, c.loop-string.invariant.2)

pub returns-then-bytes-lt3-clause-small : goal.returns-then-bytes-lt3-clause-small
returns-then-bytes-lt3-clause-small c = omega (arith, size-All)

pub returns-clause-mentioned : goal.returns-clause-mentioned
returns-clause-mentioned c = λ g h. c.loop-string.invariant.1 g (sym (c.any_of.ensures.mentioned g) ∙ h)

pub loop-string-preserved : goal.loop-string-preserved
loop-string-preserved c =
    let members = c.loop-string.members.items in
    let query = c.in_ok-all_trigrams.field-0 in
    let strings = c.args.strings.now in
    let w = c.string-item.result in
    let rest = drop (c.loop-string.string-index + 1) strings in
    let among : is_among strings w ≡ true = string_at strings c.loop-string.string-index w c.loop-string-test.true c.string-item.is in
    let is : (g : ℕ) → some_mentions c.push.new.self.items g ≡ (some_mentions members g || mentions query g) =
    λ g. ap (λ (qs : List Query). some_mentions qs g) c.in_ok-push.ensures.items ∙ mentions_push g members query in (
      λ set.
          ap (λ (qs : List Query). some_matches qs set || has_any set rest) c.in_ok-push.ensures.items
          ∙ text_step set members query w rest (c.in_ok-all_trigrams.ensures.required set
          ∙ ap (has_trigrams set) c.bytes-in-loop-string.ensures)
          ∙ ap (λ (ws : List (List ℕ)). some_matches members set || has_any set ws)
          (sym (item_from strings c.loop-string.string-index w c.loop-string-test.true c.string-item.is))
          ∙ c.loop-string.invariant.0 set,
      trigrams_of_both (some_mentions members) (mentions query) (some_mentions c.push.new.self.items) (Unit {0})
          (λ string. is_among strings string ≡ true) is c.loop-string.invariant.1
          (trigrams_within (mentions query) (Unit {0}) (Unit {0}) (λ part. part ≡ c.bytes-in-loop-string.result.now)
          (λ string. is_among strings string ≡ true) c.in_ok-all_trigrams.ensures.mentioned (λ b. b)
          (λ b part e. (w, among, occurs_itself part w (e ∙ c.bytes-in-loop-string.ensures)))),
      omega (
        arith,
        ap (sum_by query_size) c.in_ok-push.ensures.items,
        sum_by_push query_size members query,
        c.in_ok-all_trigrams.ensures.small,
        ap length c.bytes.ensures,
        ap length c.bytes-in-loop-string.ensures,
        ap (sum_by nodes) (item_from strings c.loop-string.string-index w c.loop-string-test.true c.string-item.is),
        sum_by-cons nodes w rest,
        c.loop-string.invariant.2,
      ),
    )
