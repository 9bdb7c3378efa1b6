use Rattle.std.proofs.Common.{◌≡◌, ◌∙◌, ◌∷◌, ap, sym, true, false, List, ℕ}
use Rattle.cs_tree.specs.NameOrder.{bytes_cmp}
use Rattle.cs_tree.specs.NamesAscending.{are_ascending}
use Rattle.std.specs.Ordering.{is_ge}
use Rattle.cs_index.specs.Opening.{texts_of}
use Rattle.cs_index.proofs.decoding.StringScan.{texts_after, formed_after, none_formed, below_texts, falls, climbs}
use Rattle.cs_index.proofs.reading.bytes.ascend.Goals as goal

pub texts-init : goal.texts-init
texts-init c = record { formed = c.requires; left = below_texts c.args.section.now }

pub returns-then-is_ge : goal.returns-then-is_ge
returns-then-is_ge c =
    let text : List ℕ = c.in-Some.text.now in
    let next : List ℕ = c.in-Some.next.now in
    let texts = texts_after c.texts.rest.now text next c.in-Some.ensures.text c.in-Some.ensures.above c.in-Some.ensures.some in
    let high : is_ge (bytes_cmp c.texts.last.now text) ≡ true = ap is_ge (sym c.cmp.ensures) ∙ sym c.is_ge.ensures ∙ c.if-is_ge.true in
    sym (c.texts.invariant.left ∙ ap (λ (ts : List (List ℕ)). are_ascending (c.texts.last.now ∷ ts)) texts
    ∙ falls c.texts.last.now text (texts_of next) high)

pub texts-preserved : goal.texts-preserved
texts-preserved c =
    let text : List ℕ = c.in-Some.text.now in
    let next : List ℕ = c.in-Some.next.now in
    let texts = texts_after c.texts.rest.now text next c.in-Some.ensures.text c.in-Some.ensures.above c.in-Some.ensures.some in
    let low : is_ge (bytes_cmp c.texts.last.now text) ≡ false = ap is_ge (sym c.cmp.ensures) ∙ sym c.is_ge.ensures ∙ c.if-is_ge.false in
    record {
      formed = (formed_after c.texts.rest.now text next c.in-Some.ensures.text c.in-Some.ensures.above
          c.in-Some.ensures.some c.texts.invariant.formed).1;
      left = c.texts.invariant.left ∙ ap (λ (ts : List (List ℕ)). are_ascending (c.texts.last.now ∷ ts)) texts
          ∙ climbs c.texts.last.now text (texts_of next) low;
    }

pub returns : goal.returns
returns c =
    sym (c.texts.invariant.left ∙ ap (λ (ts : List (List ℕ)). are_ascending (c.texts.last.now ∷ ts))
    (none_formed c.texts.rest.now c.in_default.ensures.none c.texts.invariant.formed))
