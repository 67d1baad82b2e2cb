-- A run retold: what each call answers, the values after it, and what closing answers. Assumes nothing.
use Rattle.std.specs.Prelude.{ℕ, List, [], ◌∷◌, ◌++◌, Some, None, codes, decimal, Option}
use Rattle.std.specs.List.{flat_map}
use Rattle.checks.specs.declared.Fault.{Fault}
use Rattle.checks.specs.Faults.{line_of}
use Rattle.checks.specs.Verdicts.{unless_refused}
use Rattle.arithmetic.specs.Meanings.{Meaning}
use Rattle.arithmetic.specs.Sweeps.{Equations}
use Rattle.plans.specs.Tilings.{Tiling}
use Rattle.plans.specs.Words.{bit}
use Rattle.listing.specs.Digits.{hexadecimal, short_hexadecimal}
use Rattle.listing.specs.Refusals.{newline}
use Rattle.runs.specs.declared.run.closing.Closing.{Closing}
use Rattle.runs.specs.declared.run.closing.End.{End}
use Rattle.runs.specs.declared.run.closing.End.TheVariants.{Whole, CutShort}
use Rattle.runs.specs.Calls.{Progress, tile_fault, points_of, tile_swept, advanced}
use Rattle.runs.specs.Held.{closing_of}

-- a call of tile u: its points, or its fault
abbrev pub call_line : ℕ → ℕ → Option Fault → List ℕ
call_line u points None = codes "call " ++ (decimal u ++ (codes " points " ++ (decimal points ++ newline)))
call_line u points (Some f) = codes "call " ++ (decimal u ++ (codes " " ++ (line_of f ++ newline)))

-- a value's bits behind a space
abbrev pub value_text : {V : Type 0} → ℕ → (V → ℕ) → V → List ℕ
value_text digits bits x = codes " " ++ hexadecimal digits (bits x)

-- the bits of all values
abbrev pub values_line : {V : Type 0} → ℕ → (V → ℕ) → List V → List ℕ
values_line digits bits values = (codes "values" ++ flat_map (value_text digits bits) values) ++ newline

-- how a run ended
abbrev pub end_line : End → List ℕ
end_line Whole = codes " whole" ++ newline
end_line CutShort = codes " cut short" ++ newline

-- what closing answered
abbrev pub closing_line : Closing → List ℕ
closing_line c = codes "closed done " ++ (short_hexadecimal 16 c.done ++ (codes " points " ++ (decimal c.points ++ end_line c.end)))

-- where a run stands: its done tiles and updated points, and the values
pub record Standing (V : Type 0) : Type 0 where
  pub progress : Progress
  pub held : List V

-- where it stands after a call of tile u
abbrev pub called : {C V : Type 0} → Meaning C V → Equations C V → Tiling → Standing V → ℕ → Standing V
called m s l x u =
    let refused = tile_fault l (bit x.progress.done) u in
    record { progress = unless_refused refused (advanced l u x.progress) x.progress; held = unless_refused refused (tile_swept m s l u x.held) x.held }

-- the calls of a list, in turn, and closing
abbrev pub trace : {C V : Type 0} → Meaning C V → Equations C V → Tiling → ℕ → (V → ℕ) → Standing V → List ℕ → List ℕ
trace m s l digits bits x [] = closing_line (closing_of l.count x.progress)
trace m s l digits bits x (u ∷ us) =
    (call_line u (points_of l u) (tile_fault l (bit x.progress.done) u) ++ values_line digits bits (called m s l x u).held) ++ trace m s l digits bits (called m s l x u) us
