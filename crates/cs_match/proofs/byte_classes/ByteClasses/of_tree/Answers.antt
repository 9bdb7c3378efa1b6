use Rattle.std.proofs.Common.{◌≡◌, ◌∙◌, ◌&&◌, ℕ, Bool, List, true, suc, refl, inl, inr, rules, sym, subst, true≢false}
use Rattle.std.proofs.lemmas.Bool.{both_ways, cases_lt}
use Rattle.cs_syntax.specs.Cuts.{AreCuts}
use Rattle.cs_syntax.specs.Matching.{is_word}
use Rattle.cs_syntax.specs.Node.{tree_of}
use Rattle.cs_syntax.proofs.CutLemmas.{divided}
use Rattle.cs_match.specs.ByteClasses.{AddsMarks, StepAlike}
use Rattle.cs_match.proofs.ByteClassLemmas.{classes_by, marks_of}
use Rattle.cs_match.proofs.byte_classes.ByteClasses.of_tree.Goals as goal
use Rattle.cs_match.proofs.byte_classes.ByteClasses.of_tree.Goals.{then-bits, else-bits}

pub mark_digits-requires-clause-cuts : goal.mark_digits-requires-clause-cuts
mark_digits-requires-clause-cuts c =
    subst AreCuts (sym c.as_slice.ensures) (divided (tree_of c.args.root.now) c.args.cuts.now c.requires.cuts).0

pub returns : goal.returns
returns c =
    let sets = c.mark_sets.new.begins in
    let is_word_here : ℕ → Bool = λ b. is_word b && c.args.bits.word in
    let words = marks_of is_word_here c.of.result _ _ (c.of.ensures is_word_here (search rules)) c.mark_set.ensures in
    let steps : AddsMarks (λ b c2. c.args.bits.char ≡ true → StepAlike c.args.cuts.now b c2) sets c.if-bits.begins =
    elim c.if-bits.branch [
      | then-bits w ↦
          let digits = w.mark_digits.ensures in
          let leads = w.mark_leads.ensures in
          subst (λ (new : List ℕ). AddsMarks (λ b c2. c.args.bits.char ≡ true → StepAlike c.args.cuts.now b c2) sets new) (sym w.begins-is)
          (record {
            bytes = leads.bytes ∙ digits.bytes;
            kept = λ b e. digits.kept b (leads.kept b e);
            alike = λ b lt e on. elim (cases_lt (suc b) 192) [
              | inl low ↦ subst (λ (cuts : List ℕ). StepAlike cuts b (suc b)) w.as_slice.ensures
                  (digits.alike b lt (leads.kept (suc b) e) low)
              | inr high ↦ leads.alike b lt e high
            ];
          })
      | else-bits w ↦
          subst (λ (new : List ℕ). AddsMarks (λ b c2. c.args.bits.char ≡ true → StepAlike c.args.cuts.now b c2) sets new) (sym w.begins-is)
          (record { bytes = refl; kept = λ b e. e; alike = λ b lt e on. absurd (true≢false (sym on ∙ w.if-bits.false)) })
    ] in
    classes_by (tree_of c.args.root.now) c.args.bits c.args.cuts.now _ c.mark_set.new.begins sets c.if-bits.begins
    c.number_classes.result c.requires.bits c.requires.cuts (λ e. both_ways true e refl) (λ e. both_ways true e refl)
    words c.mark_sets.ensures steps c.number_classes.ensures
