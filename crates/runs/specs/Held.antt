-- What a clause reads of a run. Assumes nothing.
use Rattle.std.specs.Prelude.{ℕ, cond, List, codes}
use Rattle.plans.specs.Tilings.{Tiling}
use Rattle.arithmetic.specs.Sweeps.{Equations}
use Rattle.plans.specs.Held.{tiling_held}
use Rattle.runs.specs.declared.system.TiledSystem.{TiledSystem}
use Rattle.runs.specs.declared.run.Run.{Run}
use Rattle.runs.specs.declared.run.closing.Closing.{Closing}
use Rattle.runs.specs.declared.run.closing.End.{End}
use Rattle.runs.specs.declared.run.closing.End.TheVariants.{Whole, CutShort}
use Rattle.runs.specs.Calls.{Sizes, Progress, all_done}

-- the sizes that a run holds
abbrev pub sizes_held : Run → Sizes
sizes_held r = record { rows = r.rows; entries = r.entries; sweeps = r.sweeps; tiles = r.tiles }

-- what a run has come to
abbrev pub progress_held : Run → Progress
progress_held r = record { done = r.done; points = r.points }

-- the equations that a tiling's matrix makes with coefficients and a right-hand side
abbrev pub equations_with : {C V : Type 0} → Tiling → List C → List V → Equations C V
equations_with l cs bs = record { pattern = l.pattern; coefficients = cs; rhs = bs }

-- the equations of a tiled system
abbrev pub equations_held : {K C V : Type 0} → TiledSystem K C V → Equations C V
equations_held s = equations_with (tiling_held s.plan.now) s.coefficients.now s.right_hand_side.now

-- what closing answers: whole exactly where all tiles are done
abbrev pub closing_of : ℕ → Progress → Closing
closing_of tiles p = record { done = p.done; points = p.points; end = cond (all_done tiles p.done) Whole CutShort }

-- how a run ended, in words
abbrev pub end_word : End → List ℕ
end_word Whole = codes "whole"
end_word CutShort = codes "cut short"
