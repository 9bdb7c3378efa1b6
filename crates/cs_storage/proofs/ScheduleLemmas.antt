-- No job is lost.
use Rattle.std.proofs.Common.{◌≡◌, ℕ, List, Option, sym, subst, refl}
use Rattle.std.specs.Prelude.{IfSome}
use Rattle.cs_storage.specs.Schedules.{SharedFile, TakesStep, begins, finishes, ends, TakesSteps, here, then, IsChain, NoJobIsLost}

-- the finished jobs are a chain, and FILE is what the holder saw
record Holds (first : Option (List ℕ)) (w : SharedFile) : Type 0 where
  chain : IsChain first w.done w.file
  held : IfSome w.holder (λ seen. w.file ≡ seen)

step_holds : (first : Option (List ℕ)) (w v : SharedFile) → Holds first w → TakesStep w v → Holds first v
step_holds first w _ h (begins seen free same) = record { chain = h.chain; held = same }
step_holds first w _ h (finishes seen left holds) =
    let same = subst (λ holder. IfSome holder (λ seen. w.file ≡ seen)) holds h.held in
    record { chain = (refl, subst (IsChain first w.done) same h.chain); held = tt }
step_holds first w _ h ends = record { chain = h.chain; held = tt }

steps_hold : (first : Option (List ℕ)) (w v : SharedFile) → Holds first w → TakesSteps w v → Holds first v
steps_hold first w _ h here = h
steps_hold first w _ h (then v u before step) = step_holds first v u (steps_hold first w v h before) step

pub no_job_is_lost : NoJobIsLost
no_job_is_lost w v free none steps =
    let chain = subst (λ done. IsChain w.file done w.file) (sym none) refl in
    let held = subst (λ holder. IfSome holder (λ seen. w.file ≡ seen)) (sym free) tt in
    (steps_hold w.file w v (record { chain = chain; held = held }) steps).chain
