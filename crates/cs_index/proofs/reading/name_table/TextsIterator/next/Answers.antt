use Rattle.std.proofs.Common.{◌≡◌, ◌∙◌, ◌∷◌, [], ap, sym, List, ℕ, length, arith}
use Rattle.cs_index.specs.Opening.{texts_of}
use Rattle.cs_index.proofs.decoding.StringScan.{texts_after, formed_after, none_formed}
use Rattle.cs_index.proofs.decoding.StringSections.{borrowed_some}
use Rattle.cs_index.proofs.reading.name_table.TextsIterator.next.Goals as goal

pub returns-in_err-text-clause-steps : goal.returns-in_err-text-clause-steps
returns-in_err-text-clause-steps c =
    let none : c.args.self.now ≡ [] = sym c.self.view_is
    ∙ none_formed c.self.inside.section.now c.in_err-text.ensures.none c.self.invariant in
    rw c.from_residual.ensures (none, none)

pub invariant_of-self : goal.invariant_of-self
invariant_of-self c =
    (formed_after c.self.inside.section.now c.in_ok-text.text.now c.in_ok-text.rest.now c.in_ok-text.ensures.text
    c.in_ok-text.ensures.above c.in_ok-text.ensures.some c.self.invariant).1

pub returns-clause-steps : goal.returns-clause-steps
returns-clause-steps c =
    let text : List ℕ = c.in_ok-text.text.now in
    let rest : List ℕ = c.in_ok-text.rest.now in
    let good = (formed_after c.self.inside.section.now text rest c.in_ok-text.ensures.text c.in_ok-text.ensures.above
    c.in_ok-text.ensures.some c.self.invariant).0 in
    let texts : c.args.self.now ≡ text ∷ texts_of rest = sym c.self.view_is ∙ texts_after c.self.inside.section.now text
    rest c.in_ok-text.ensures.text c.in_ok-text.ensures.above c.in_ok-text.ensures.some in
    let borrowed = borrowed_some _ c.from_utf8.result c.ok.result text c.ok.ensures.value c.from_utf8.ensures.cases good in
    rw borrowed.1 (texts ∙ ap (λ t. t ∷ texts_of rest) (sym borrowed.2))

pub returns-clause-goes : goal.returns-clause-goes
returns-clause-goes c =
    let text : List ℕ = c.in_ok-text.text.now in
    let rest : List ℕ = c.in_ok-text.rest.now in
    let good = (formed_after c.self.inside.section.now text rest c.in_ok-text.ensures.text c.in_ok-text.ensures.above
    c.in_ok-text.ensures.some c.self.invariant).0 in
    let texts : c.args.self.now ≡ text ∷ texts_of rest = sym c.self.view_is ∙ texts_after c.self.inside.section.now text
    rest c.in_ok-text.ensures.text c.in_ok-text.ensures.above c.in_ok-text.ensures.some in
    let less = ap (λ (ts : List (List ℕ)). length ts) texts in
    let borrowed = borrowed_some _ c.from_utf8.result c.ok.result text c.ok.ensures.value c.from_utf8.ensures.cases good in
    rw borrowed.1 (record { on = λ _. (tt, tt, omega (arith, less)); keeps = tt; rests = λ _. tt })
