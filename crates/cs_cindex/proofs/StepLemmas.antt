-- The step of one job, from the clauses of its parts.
use Rattle.std.proofs.Common.{◌≡◌, ℕ, ◌&&◌, Bool, true, false, List, [], ◌∷◌, refl, sym, ap, subst, ◌∙◌, inl, inr, Option, Some, None}
use Rattle.cs_tree.specs.Transfers.{is_io_failure}
use Rattle.cs_cindex.proofs.Common.{true≢false, count_if, CountsOne, Grows, GrowsFlushed, Snapshot, IoFault, IndexJob, Done, Refused, CindexFault, has_no_path, Indexes, JobKind, lists, clears, walks, job_kind, MayEnd, IsNext, JobTree, JobPrintsBy, WalkPrints, list_lines, is_failed_write, base, early_walk_fault, early_fault_of, IsLateFault, EarlyOr, Outputs, State, IsStep, IsWholeStep, prefix_all}
use Rattle.cs_tree.specs.declared.fault.IoFault.TheVariants as io
use Rattle.cs_args.specs.Faults.{write_refusal}
use Rattle.cs_cindex.proofs.JobOutputLemmas.{prints_refused}
use Rattle.cs_cindex.proofs.OutcomeLemmas.{walk_indexes}
use Rattle.cs_cindex.proofs.RefusedJobLemmas.{walks_kind}

-- ---- the index after a job that does not walk

refused_indexes : (job : IndexJob) (tree : Option Snapshot) (fault : CindexFault) (old : Option (List ℕ)) →
    Indexes (job ∷ []) (tree ∷ []) (Refused fault ∷ []) old old
refused_indexes job tree fault old = record { index = λ earlier p. sym p.is_index; fitting = (tt, tt); short = λ h. h }

-- ---- counted failures

counts_out : (b : Bool) (o o' e e' : ℕ) → o' ≡ count_if b o → e' ≡ e → CountsOne b o o' e e'
counts_out true o o' e e' h k = inl (h, k)
counts_out false o o' e e' h k = (h, k)

counts_err : (b : Bool) (o o' e e' : ℕ) → o' ≡ o → e' ≡ count_if b e → CountsOne b o o' e e'
counts_err true o o' e e' h k = inr (h, k)
counts_err false o o' e e' h k = (h, k)

never_done : (fault : CindexFault) → Refused fault ≡ Done → ⊥
never_done fault e = cc

-- ---- a job, before the outputs are flushed

module _ (job : IndexJob) (tree : JobTree) (old : State) (later : Outputs) where
  module _ (w : (job.list ≡ false) × ((job.reset && has_no_path job) ≡ false)) (from : Option (List ℕ))
      (is : base job old.index ≡ from) (out : Grows old.outputs.out.model later.out.model [])
      (o : later.out.failed ≡ old.outputs.out.failed) where
    pub walk_done : (bytes : List ℕ) → early_walk_fault job from ≡ None → IsNext job tree.snapshot from (Some bytes) →
        WalkPrints job tree from old.outputs.err later.err → later.err.failed ≡ old.outputs.err.failed →
        IsStep job tree Done old (record { index = Some bytes; outputs = later })
    walk_done bytes none next err e =
        let kind = walks_kind job w in
        let early = ap (early_walk_fault job) is ∙ none in
        let next' = subst (λ b. IsNext job tree.snapshot b (Some bytes)) (sym is) next in
        record {
          index = walk_indexes job tree.snapshot old.index bytes kind early next';
          cause = ap (λ k. early_fault_of k job old.index) kind ∙ early;
          keeps = (
            (λ f. absurd (true≢false (sym f ∙ w.0))),
            (λ f r n. absurd (true≢false (sym (ap (λ b. b && has_no_path job) r ∙ n) ∙ w.1))),
          );
          walked = λ _ _. next';
          out = subst (λ k. Grows old.outputs.out.model later.out.model (list_lines k old.index)) (sym kind) out;
          err = subst (λ k. JobPrintsBy k Done job tree old.index old.outputs.err later.err) (sym kind)
              (subst (λ b. WalkPrints job tree b old.outputs.err later.err) (sym is) err);
          writes = (o, e);
        }

-- ---- the flushes

late_output : (kind : JobKind) (job : IndexJob) (tree : Option Snapshot) (old : Option (List ℕ)) (fault : IoFault) →
    IsLateFault kind job tree old (write_refusal fault)
late_output lists job tree old io.Failed = tt
late_output lists job tree old io.Memory = tt
late_output clears job tree old io.Failed = tt
late_output clears job tree old io.Memory = tt
late_output walks job tree old io.Failed = tt
late_output walks job tree old io.Memory = tt

is_write : (fault : IoFault) → is_io_failure fault ≡ is_failed_write (write_refusal fault)
is_write io.Failed = refl
is_write io.Memory = refl

module _ (job : IndexJob) (tree : JobTree) (old : State) (index : Option (List ℕ)) (mid later : Outputs)
    (done : IsStep job tree Done old (record { index = index; outputs = mid })) where
  -- a flush failed: the output before it, with the failure counted
  module _ (fault : CindexFault) (why : IoFault) (is : fault ≡ write_refusal why) where
    abbrev printed : Outputs
    printed = record {
      out = record { model = mid.out.model; failed = later.out.failed };
      err = record { model = mid.err.model; failed = later.err.failed };
    }

    unflushed : CountsOne (is_failed_write (write_refusal why)) old.outputs.out.failed later.out.failed
        old.outputs.err.failed later.err.failed → MayEnd [] mid.out.model later.out.model →
        Grows mid.err.model later.err.model [] → IsWholeStep job tree (Refused fault) old
        (record { index = old.index; outputs = later })
    unflushed counts out err = rw is (record {
      printed = printed;
      step = record {
        index = refused_indexes job tree.snapshot (write_refusal why) old.index;
        cause = subst (λ early. EarlyOr early (IsLateFault (job_kind job) job tree.snapshot old.index
            (write_refusal why)) (write_refusal why)) (sym done.cause)
            (late_output (job_kind job) job tree.snapshot old.index why);
        keeps = refl;
        walked = λ h. absurd (never_done (write_refusal why) h);
        out = prefix_all (list_lines (job_kind job) old.index) old.outputs.out.model mid.out.model done.out;
        err = prints_refused (job_kind job) job tree old.index old.outputs.err mid.err later.err.failed
            (write_refusal why) done.cause done.err;
        writes = counts;
      };
      flushes = (out, err);
      out_failed = refl;
      err_failed = refl;
    })

    pub out_unflushed : later.out.failed ≡ count_if (is_io_failure why) mid.out.failed → later.err.failed
        ≡ mid.err.failed → Grows mid.out.model later.out.model [] → Grows mid.err.model later.err.model [] →
        IsWholeStep job tree (Refused fault) old (record { index = old.index; outputs = later })
    out_unflushed o e out err = unflushed (counts_out (is_failed_write (write_refusal why)) old.outputs.out.failed
        later.out.failed old.outputs.err.failed later.err.failed
        (o ∙ ap (λ b. count_if b mid.out.failed) (is_write why) ∙ ap (count_if (is_failed_write (write_refusal why)))
        done.writes.0) (e ∙ done.writes.1))
        (inl (prefix_all [] mid.out.model later.out.model out)) err

    pub err_unflushed : later.out.failed ≡ mid.out.failed → later.err.failed ≡ count_if (is_io_failure why)
        mid.err.failed → GrowsFlushed mid.out.model later.out.model [] → Grows mid.err.model later.err.model [] →
        IsWholeStep job tree (Refused fault) old (record { index = old.index; outputs = later })
    err_unflushed o e out err = unflushed (counts_err (is_failed_write (write_refusal why)) old.outputs.out.failed
        later.out.failed old.outputs.err.failed later.err.failed
        (o ∙ done.writes.0) (e ∙ ap (λ b. count_if b mid.err.failed) (is_write why)
        ∙ ap (count_if (is_failed_write (write_refusal why))) done.writes.1))
        (inr out) err
