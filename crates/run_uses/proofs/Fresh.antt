-- A tile call on a run that was just begun, with its own plan and tables. Assumes nothing.
use Rattle.std.proofs.Common.{◌≡◌, ℕ, false, List, length, Some, None, Option, sym, refl, ap, ◌∙◌, arith}
use Rattle.checks.specs.declared.Fault.{Fault}
use Rattle.checks.specs.Verdicts.{unless_refused}
use Rattle.arithmetic.specs.Meanings.{Meaning}
use Rattle.plans.specs.Tilings.{Tiling}
use Rattle.plans.specs.Words.{bit}
use Rattle.plans.proofs.Wordbits.{bit_zero}
use Rattle.runs.specs.declared.run.Run.{Run}
use Rattle.runs.specs.Calls.{sizes_of, beginning_fault, tile_fault, call_fault, points_of, advanced}
use Rattle.runs.specs.Held.{sizes_held, progress_held}
use Rattle.runs.proofs.Accepted.{begun_lengths}
use Rattle.runs.proofs.Steps.{own_call}

-- it turns on its number alone, where no tile is done
pub fresh_call : {C V : Type 0} (m : Meaning C V) (l : Tiling) (cs : List C) (bs x : List V) (u : ℕ) (r : Run)
    → None ≡ beginning_fault m l.pattern cs bs x → sizes_held r ≡ sizes_of l → progress_held r ≡ record { done = 0; points = 0 }
    → call_fault (sizes_held r) r.done l (length cs) (length bs) (length x) u ≡ tile_fault l (λ _. false) u
fresh_call m l cs bs x u r begun sized fresh =
    own_call (sizes_held r) r.done l (length cs) (length bs) (length x) u sized (begun_lengths m l.pattern cs bs x (sym begun))
    ∙ ap (λ p. tile_fault l (bit p.done) u) fresh ∙ ap (λ done. tile_fault l done u) (λ i t. bit_zero t i)

-- a refused call leaves the run without points
pub fresh_points : (l : Tiling) (u : ℕ) (fault : Option Fault) → (unless_refused fault (advanced l u (record { done = 0; points = 0 })) (record { done = 0; points = 0 })).points ≡ unless_refused fault (points_of l u) 0
fresh_points l u None = omega arith
fresh_points l u (Some f) = refl
