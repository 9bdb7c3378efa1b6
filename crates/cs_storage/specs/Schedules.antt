-- Several runs that change one index file, in any order of their steps.
use Rattle.std.specs.Prelude.{◌≡◌, ℕ, List, [], ◌∷◌, Option, Some, None}

-- a finished job: what it saw at FILE, and what it left there
pub record DoneJob : Type 0 where
  pub seen : Option (List ℕ)
  pub left : Option (List ℕ)

pub record SharedFile : Type 0 where
  pub file : Option (List ℕ)
  -- what the run that holds FILE~ saw at FILE, if a run holds it
  pub holder : Option (Option (List ℕ))
  -- the finished jobs, newest first
  pub done : List DoneJob

-- One step of some run. A run that does not hold FILE~ changes nothing.
pub data TakesStep (w : SharedFile) : SharedFile → Type 0 where
  -- a run takes FILE~, and FILE is what it saw earlier
  begins : (seen : Option (List ℕ)) → w.holder ≡ None → w.file ≡ seen → TakesStep w (record w { holder = Some seen })
  -- it changes FILE, and gives FILE~ back
  finishes : (seen left : Option (List ℕ)) → w.holder ≡ Some seen
      → TakesStep w (record { file = left; holder = None; done = record { seen = seen; left = left } ∷ w.done })
  -- it gives FILE~ back unused, or dies, and the next run takes FILE~ away
  ends : TakesStep w (record w { holder = None })

-- steps in a row
pub data TakesSteps (w : SharedFile) : SharedFile → Type 0 where
  here : TakesSteps w w
  then : (v u : SharedFile) → TakesSteps w v → TakesStep v u → TakesSteps w u

-- each job saw what the one before it left, and the last one left what is there
abbrev pub IsChain : Option (List ℕ) → List DoneJob → Option (List ℕ) → Type 0
IsChain first [] last = last ≡ first
IsChain first (job ∷ jobs) last = (last ≡ job.left) × IsChain first jobs job.seen

-- Whatever the order of the steps, each job continues what the finished job before it left: none is lost.
abbrev pub NoJobIsLost : Type 0
NoJobIsLost = (w v : SharedFile) → w.holder ≡ None → w.done ≡ [] → TakesSteps w v → IsChain w.file v.done v.file
