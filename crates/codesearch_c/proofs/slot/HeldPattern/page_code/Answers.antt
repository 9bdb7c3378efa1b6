use mir.Val.{to_z, of_z}
use Rattle.std.proofs.Common.{◌≡◌, ◌+◌, ◌<◌, ◌≤◌, ◌++◌, ℕ, ℤ, Bool, true, List, length, take, drop, Result, IfOk, refl, sym, ap, ap₂, subst, ◌∙◌, inl, inr, arith, w32, length-take, ltb}
use Rattle.std.proofs.lemmas.Bool.{cases_lt, lt-ltb, le-ltb}
use Rattle.std.proofs.lemmas.Int.{to_z-of_z}
use Rattle.std.proofs.lemmas.List.{drop_all, take_all, take-take}
use Rattle.cs_trigram.specs.declared.queries.Query.{Query}
use Rattle.cs_index.specs.Answerable.{is_answerable}
use Rattle.cs_index.specs.CandidatePages.{candidates_from}
use Rattle.cs_index.specs.Postings.{IsListFault}
use Rattle.cs_index.specs.OpenedParts.{Parts}
use Rattle.cs_index.specs.declared.fault.IndexFault.{IndexFault}
use Rattle.codesearch_c.specs.Codes.{list_code}
use Rattle.codesearch_c.specs.Compiled.{Compiled}
use Rattle.codesearch_c.specs.Copies.{IsPage}
use Rattle.codesearch_c.specs.Patterns.{IsPageCode, given, missed}
use Rattle.codesearch_c.proofs.slot.HeldPattern.page_code.Goals as goal

-- a page of the first items, more than there is room for, is one of all
page_of_first : (most : ℕ) (items old new : List ℕ) (count : ℕ) (code : ℤ) → length old < most →
    IsPage (take most items) old new count code → IsPage items old new count code
page_of_first most items old new count code more page =
    let size = length-take most items in
    record {
      counted = omega (arith, page.counted, size, more);
      copied = page.copied ∙ ap₂ (λ (xs ys : List ℕ). xs ++ ys) (take-take (length old) most items (omega (arith, more))) rest;
      answered = page.answered ∙ ap list_code fits;
    }
  where
    rest : drop (length (take most items)) old ≡ drop (length items) old
    rest = elim (cases_lt most (length items)) [
      | inl long ↦ drop_all (length (take most items)) old (omega (arith, length-take most items, long, more))
          ∙ sym (drop_all (length items) old (omega (arith, long, more)))
      | inr all ↦ ap (λ (xs : List ℕ). drop (length xs) old) (take_all most items all)
    ]

    fits : ltb (length old) (length (take most items)) ≡ ltb (length old) (length items)
    fits = elim (cases_lt (length old) (length items)) [
      | inl short ↦ lt-ltb (length old) (length (take most items)) (omega (arith, length-take most items, short, more))
          ∙ sym (lt-ltb (length old) (length items) short)
      | inr all ↦ le-ltb (length old) (length (take most items)) (omega (arith, length-take most items, all))
          ∙ sym (le-ltb (length old) (length items) all)
    ]

pub returns-in-Ok-candidates_from : goal.returns-in-Ok-candidates_from
returns-in-Ok-candidates_from c =
    let query = ap (λ (p : Compiled). p.query) c.self.view_is in
    let parts = c.in-Ok.opened in
    let e = c.in-Ok-candidates_from.ensures in
    let copy = c.copy_first in
    let most = length c.args.ids.now + 1 in
    let ids = c.deref.ensures.value ∙ e.ids ∙ ap (λ (q : Query). take most (candidates_from parts q c.args.from)) query in
    let whole = subst (λ (q : Query). is_answerable parts q ≡ true) query e.whole in
    let code = to_z w32 (of_z w32 copy.result) in
    let shown = subst (λ (n : ℤ). IsPage c.deref.result.now c.args.ids.now copy.new.buffer copy.new.count n)
    (sym (to_z-of_z w32 copy.result (record { sfits = copy.type_inv }))) copy.ensures in
    subst (λ (r : Result Parts IndexFault). IfOk r
    (λ parts. IsPageCode parts c.args.self.now.query c.args.from c.args.ids.now copy.new.buffer c.args.count.now
    copy.new.count code)) c.in-Ok.ensures
    (given (page_of_first most (candidates_from parts c.args.self.now.query c.args.from) c.args.ids.now copy.new.buffer copy.new.count code (omega arith)
    (subst (λ (items : List ℕ). IsPage items c.args.ids.now copy.new.buffer copy.new.count code) ids shown)) whole)

pub returns-in-Err-candidates_from : goal.returns-in-Err-candidates_from
returns-in-Err-candidates_from c =
    let query = ap (λ (p : Compiled). p.query) c.self.view_is in
    let damage = subst (λ (q : Query). IsListFault (is_answerable c.in-Ok.opened q) c.in-Err-candidates_from.fault) query
    c.in-Err-candidates_from.ensures.fault in
    subst (λ (r : Result Parts IndexFault). IfOk r
    (λ parts. IsPageCode parts c.args.self.now.query c.args.from c.args.ids.now c.args.ids.now c.args.count.now
    c.args.count.now (to_z w32 (of_z w32 c.index_code.result)))) c.in-Ok.ensures
    (missed c.in-Err-candidates_from.fault damage
    (to_z-of_z w32 c.index_code.result (record { sfits = c.index_code.type_inv }) ∙ c.index_code.ensures) refl refl)
