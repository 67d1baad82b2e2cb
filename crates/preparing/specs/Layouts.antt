-- The tables that are laid out for a tiling. Assumes nothing.
use Rattle.std.specs.Prelude.{◌≡◌, vec_items}
use Rattle.plans.specs.Tilings.{Tiling, schedule_of, schedule_starts_of}
use Rattle.plans.specs.Words.{wait_words_of}
use Rattle.plans.specs.Opening.{Tables}
use Rattle.preparing.specs.declared.layouts.Layout.{Layout}
use Rattle.preparing.specs.declared.numbered.Remapped.{Remapped}
use Rattle.preparing.specs.Renumbered.{tiling_in}

-- schedule, starts and wait words of a tiling
abbrev pub LaysOut : Tiling → Layout → Type 0
LaysOut l x = (vec_items x.schedule ≡ schedule_of l) × (vec_items x.starts ≡ schedule_starts_of l) × (vec_items x.words ≡ wait_words_of l)

-- the tables that opening is handed
abbrev pub tables_in : Remapped → Layout → Tables
tables_in x y = record { tiling = tiling_in x; schedule = vec_items y.schedule; starts = vec_items y.starts; words = vec_items y.words }
