-- The tables that a plan holds, and those that opening is handed. Assumes nothing.
use Rattle.std.specs.Prelude.{ℕ, List}
use Rattle.plans.specs.declared.lent.Tiling.{Tiling as LentTiling}
use Rattle.plans.specs.declared.lent.Layout.{Layout}
use Rattle.plans.specs.declared.plan.Plan.{Plan}
use Rattle.plans.specs.Tilings.{Tiling}
use Rattle.plans.specs.Opening.{Tables}
use Rattle.plans.specs.Lent.{tiling_lent, tiling_of}

-- a tiling with tables of any origin
abbrev pub tables_from : Tiling → List ℕ → List ℕ → List ℕ → Tables
tables_from l schedule starts words = record { tiling = l; schedule = schedule; starts = starts; words = words }

-- the tables that are lent
abbrev pub tables_lent : LentTiling → Layout → Tables
tables_lent t y = tables_from (tiling_lent t) y.schedule.now y.starts.now y.words.now

-- the tiling that a plan holds
abbrev pub tiling_held : Plan → Tiling
tiling_held x = tiling_of x.table

-- the tables that a plan holds
abbrev pub tables_held : Plan → Tables
tables_held x = tables_lent x.table.tiling x.layout
