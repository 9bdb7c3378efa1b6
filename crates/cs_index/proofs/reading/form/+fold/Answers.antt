use Rattle.std.proofs.Common.{◌≡◌, ◌+◌, ◌∙◌, ◌∷◌, ◌++◌, [], ap, sym, ℕ, List, true, false, Result, Ok, Err, take, length, map}
use Rattle.std.specs.Prelude.{IfOk, OnOk}
use Rattle.std.proofs.lemmas.List.{take_more}
use Rattle.std.proofs.lemmas.Result.{IfOk-weaker, on_ok_weaker}
use Rattle.cs_trigram.specs.Query.{matches_set}
use Rattle.cs_trigram.specs.declared.queries.Query.{Query}
use Rattle.cs_trigram.proofs.QueryLemmas.{matches_set-All, matches_set-Nothing}
use Rattle.cs_index.specs.declared.reading.form.FormNode.{FormNode}
use Rattle.cs_index.specs.Form.{queries_match}
use Rattle.cs_index.proofs.candidates.QueryMembers.{matches_set-And, matches_set-Or}
use Rattle.cs_index.proofs.candidates.FormValues.{everything_matches, gathers_all, gathers_number, gathers_step, gathers_wanted, joined-first, length_map, members_grown, nothing_matches}
use Rattle.cs_index.proofs.reading.form.+fold.Goals as goal

join_ok : {T E : Type 0} (r : Result T E) (P : T → Type 0) (Q : Type 0) (R : T → Type 0) → ((x : T) → P x → Q → R x) →
    IfOk r P → OnOk r Q → IfOk r R
join_ok (Ok x) P Q R f p q = f x p q
join_ok (Err e) P Q R f p q = tt

on_ok_three : {T E : Type 0} (r : Result T E) (A B C D : Type 0) → (A → B → C → D) → OnOk r A → OnOk r B → OnOk r C → OnOk r D
on_ok_three (Ok x) A B C D f a b c = f a b c
on_ok_three (Err e) A B C D f a b c = tt

pub gather-returns-in-And : goal.gather-returns-in-And
gather-returns-in-And t c =
    on_ok_weaker c.gather_each.result (gathers_wanted _ _ _ _ _ _ _ (λ set.
    (λ i. queries_match (c.if-node.true i) set (c.deref.ensures.value i)) ∙ sym (matches_set-And set c.in-And.members)
    ∙ ap (λ (q : Query). matches_set q set) (sym c.in-And.is))) c.gather_each.ensures

pub gather-returns-in-Or : goal.gather-returns-in-Or
gather-returns-in-Or t c =
    on_ok_weaker c.gather_each-in-Or.result (gathers_wanted _ _ _ _ _ _ _ (λ set.
    (λ i. queries_match (c.if-not-node.true i) set (c.deref-in-Or.ensures.value i))
    ∙ sym (matches_set-Or set c.in-Or.members) ∙ ap (λ (q : Query). matches_set q set) (sym c.in-Or.is)))
    c.gather_each-in-Or.ensures

pub gather-returns-in_ok-number-in_default : goal.gather-returns-in_ok-number-in_default
gather-returns-in_ok-number-in_default t c =
    on_ok_three c.add_member.result _ _ _ _ (gathers_number c.args.trigrams.now c.args.folding.now.nodes.items
    c.number_of.new.folding.nodes.items c.args.node.now c.add_member.new.node c.args.query.now
    c.in_ok-number-in_default.number
    c.in_ok-number-in_default.ensures.grows c.in_ok-number-in_default.ensures.number) c.add_member.ensures.kind
    c.add_member.ensures.exist c.add_member.ensures.matches

pub gather_each-loop-query-preserved : goal.gather_each-loop-query-preserved
gather_each-loop-query-preserved t c =
    let queries : List Query = c.args.queries.now in
    let at : ℕ = c.loop-query.query-index in
    let q : Query = c.query-item.result in
    let taken : take (at + 1) queries ≡ take at queries ++ q ∷ [] = take_more queries at q c.loop-query-test.true
    ∙ ap (λ (k : Query). take at queries ++ k ∷ []) (sym c.query-item.is) in
    gathers_wanted _ _ _ _ _ _ _ (λ set. ap (queries_match c.args.node.now.is_and set) (sym taken))
    (gathers_step c.args.trigrams.now c.args.folding.now.nodes.items c.loop-query.folding.nodes.items
    c.gather.new.folding.nodes.items c.args.node.now c.loop-query.node c.gather.new.node (take at queries) q
    c.requires.exist c.loop-query.invariant c.in_ok-gather.ensures)

pub joined_number-returns-clause-number : goal.joined_number-returns-clause-number
joined_number-returns-clause-number t c =
    let trigrams : List ℕ = c.args.trigrams.now in
    let nodes : List FormNode = c.gather_each.new.folding.nodes.items in
    let node : FormNode = c.gather_each.new.node in
    let gathered = c.in_ok-gather_each.ensures in
    join_ok c.intern.result _ _ _ (λ n number grows set within.
    number (map set trigrams) (length_map set trigrams)
    ∙ members_grown (length trigrams) nodes c.intern.new.folding.nodes.items grows (map set trigrams)
    (length_map set trigrams) node.is_and node.members.items gathered.exist
    ∙ gathers_all trigrams c.args.folding.now.nodes.items nodes
    (record { is_and = c.args.is_and; members = c.new.result }) node
    (λ s. queries_match c.args.is_and s c.args.queries.now) gathered c.new.ensures.items set within
    ∙ joined-first c.args.is_and (queries_match c.args.is_and set c.args.queries.now)) c.intern.ensures.number c.intern.ensures.grows

pub number_of-returns-in-Nothing-clause-number : goal.number_of-returns-in-Nothing-clause-number
number_of-returns-in-Nothing-clause-number t c = λ set within. nothing_matches _ c.args.folding.now.nodes.items
    ∙ sym (matches_set-Nothing set) ∙ ap (λ (q : Query). matches_set q set) (sym c.in-Nothing.is)

pub number_of-returns-in-All-clause-number : goal.number_of-returns-in-All-clause-number
number_of-returns-in-All-clause-number t c = λ set within. everything_matches _ c.args.folding.now.nodes.items
    ∙ sym (matches_set-All set) ∙ ap (λ (q : Query). matches_set q set) (sym c.in-All.is)

pub number_of-returns-in-And-clause-number : goal.number_of-returns-in-And-clause-number
number_of-returns-in-And-clause-number t c =
    IfOk-weaker c.joined_number.result _ _ (λ n h set within.
    h set within ∙ ap (queries_match true set) c.deref.ensures.value ∙ sym (matches_set-And set c.in-And.members)
    ∙ ap (λ (q : Query). matches_set q set) (sym c.in-And.is)) c.joined_number.ensures.number

pub number_of-returns-in-Or-clause-number : goal.number_of-returns-in-Or-clause-number
number_of-returns-in-Or-clause-number t c =
    IfOk-weaker c.joined_number-in-Or.result _ _ (λ n h set within.
    h set within ∙ ap (queries_match false set) c.deref-in-Or.ensures.value ∙ sym (matches_set-Or set c.in-Or.members)
    ∙ ap (λ (q : Query). matches_set q set) (sym c.in-Or.is)) c.joined_number-in-Or.ensures.number
