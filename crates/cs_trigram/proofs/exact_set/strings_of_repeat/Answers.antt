use Rattle.std.proofs.Common.{true, ◌+◌, ◌-◌, List, [], ◌∷◌, ℕ, inl, inr, refl, sym, subst, arith}
use Rattle.std.specs.Prelude.{Some}
use Rattle.cs_syntax.specs.Matching.{rep, cat, alt, empty, more, none}
use Rattle.cs_trigram.specs.MayMatch.{MayMatch}
use Rattle.cs_trigram.specs.ExactSet.{IsExactSetOf}
use Rattle.cs_trigram.specs.Analysis.{EnumeratesTree}
use Rattle.cs_trigram.specs.declared.exact_set.ExactSet.{ExactSet}
use Rattle.cs_trigram.proofs.LeadingRunLemmas.{only_empty_string}
use Rattle.cs_trigram.proofs.ExactSetLemmas.{exact_set_one, optional_iteration, required_iteration, pair, rep_finite}
use Rattle.cs_trigram.proofs.RepeatLemmas.{no_iteration}
use Rattle.cs_trigram.proofs.exact_set.strings_of_repeat.Goals as goal
use Rattle.cs_trigram.proofs.exact_set.strings_of_repeat.Goals.{then-iteration-most+in_ok-empty_string-2+in_ok-strings-2+in-Strings-1, then-iteration-most+in_ok-empty_string-2+in_ok-strings-2+in-Many-1, else-iteration-most}

empty_branch : EnumeratesTree ([] ∷ []) (alt (more empty none))
empty_branch = only_empty_string (alt (more empty none)) refl (λ w h. elim h [ inl e ↦ e | inr n ↦ absurd n ]) (inl refl)

pub loop-iteration-init : goal.loop-iteration-init
loop-iteration-init c = λ t once finite.
    let optional = c.in-Some.most - c.args.least in
    let r = rep t (0 - optional) (Some 0) in
    c.of-strings.ensures r (subst (λ ws. EnumeratesTree ws r) (sym c.in_ok-empty_string.ensures)
    (only_empty_string r (rep_finite t (0 - optional) 0 finite (omega arith))
    (λ w h. no_iteration (MayMatch true t) w (h.0, omega arith, h.2, h.3)) (0, omega arith, omega arith, refl)))

pub loop-iteration-preserved : goal.loop-iteration-preserved
loop-iteration-preserved c = λ t once finite.
    let i = c.loop-iteration.iteration in
    let optional = c.in-Some.most - c.args.least in
    let r = rep t (i - optional) (Some i) in
    let iteration = c.in_ok-strings.ensures t (more r none) once
    (exact_set_one c.loop-iteration.strings r (c.loop-iteration.invariant t once finite)) in
    let bare : List (List ℕ) → Type 0 = λ ws. EnumeratesTree ws (alt (more empty none)) in
    elim c.if-iteration-most.branch [
      | then-iteration-most+in_ok-empty_string-2+in_ok-strings-2+in-Strings-1 w ↦
          subst (λ (x : ExactSet). IsExactSetOf x (rep t (i + 1 - optional) (Some (i + 1)))) (sym w.strings-is)
          (optional_iteration _ t i optional finite (omega arith)
          (w.in_ok-strings-2.ensures (cat (pair t r)) (more empty none) iteration
          (w.of.ensures (alt (more empty none)) (subst bare (sym w.in_ok-empty_string-2.ensures) empty_branch))))
      | then-iteration-most+in_ok-empty_string-2+in_ok-strings-2+in-Many-1 w ↦
          subst (λ (x : ExactSet). IsExactSetOf x (rep t (i + 1 - optional) (Some (i + 1)))) (sym w.strings-is)
          (optional_iteration _ t i optional finite (omega arith)
          (w.in_ok-strings-2.ensures (cat (pair t r)) (more empty none) iteration
          (w.of.ensures (alt (more empty none)) (subst bare (sym w.in_ok-empty_string-2.ensures) empty_branch))))
      | else-iteration-most w ↦ subst (λ (x : ExactSet). IsExactSetOf x (rep t (i + 1 - optional) (Some (i + 1))))
          (sym w.strings-is) (required_iteration _ t i optional finite (omega arith) iteration)
    ]
