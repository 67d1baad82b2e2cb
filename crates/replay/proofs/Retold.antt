-- One call more of a run that is retold. Assumes nothing.
use Rattle.std.proofs.Common.{◌≡◌, ℕ, ◌+◌, ◌<◌, ◌≤◌, List, ◌∷◌, ◌++◌, length, get_or, drop, IfOk, None, Ok, Err, Option, Result, sym, ap, ◌∙◌, ap₂, append_assoc}
use Rattle.std.specs.Result.{result_err, result_unwrap_or}
use Rattle.std.proofs.lemmas.List.{drop_more, drop_all}
use Rattle.checks.specs.declared.Fault.{Fault}
use Rattle.checks.specs.Verdicts.{unless_refused}
use Rattle.arithmetic.specs.Meanings.{Meaning}
use Rattle.arithmetic.specs.Sweeps.{Equations}
use Rattle.plans.specs.Tilings.{Tiling}
use Rattle.plans.specs.Words.{bit}
use Rattle.runs.specs.Calls.{Progress, tile_fault, points_of, tile_swept, advanced}
use Rattle.runs.specs.Held.{closing_of}
use Rattle.replay.specs.Traces.{Standing, call_line, values_line, closing_line, called, trace}

-- an answer's line, by the verdict alone
line_same : (u n : ℕ) (answer : Result ℕ Fault) (verdict : Option Fault) → IfOk answer (λ k. k ≡ n) → result_err answer ≡ verdict → call_line u (result_unwrap_or answer 0) (result_err answer) ≡ call_line u n verdict
line_same u n (Ok k) verdict e v = ap (λ a. call_line u a None) e ∙ ap (call_line u n) v
line_same u n (Err f) verdict e v = ap (call_line u n) v

module _ {C V : Type 0} (m : Meaning C V) (s : Equations C V) (l : Tiling) (digits : ℕ) (bits : V → ℕ) (calls : List ℕ) (i : ℕ) (x : Standing V) {all : List ℕ} (before : List ℕ)
    (inv : before ++ trace m s l digits bits x (drop i calls) ≡ all) where
  pub trace_more : (u : ℕ) (answer : Result ℕ Fault) (y : Standing V) (after : List ℕ) → i < length calls → u ≡ get_or calls i 0
      → result_err answer ≡ tile_fault l (bit x.progress.done) u → IfOk answer (λ n. n ≡ points_of l u)
      → y.progress ≡ unless_refused (result_err answer) (advanced l u x.progress) x.progress → y.held ≡ unless_refused (result_err answer) (tile_swept m s l u x.held) x.held
      → after ≡ (before ++ call_line u (result_unwrap_or answer 0) (result_err answer)) ++ values_line digits bits y.held
      → after ++ trace m s l digits bits y (drop (i + 1) calls) ≡ all
  trace_more u answer y after h here answered counted progress values written =
      let verdict = tile_fault l (bit x.progress.done) u in
      let same : y ≡ called m s l x u =
      ap₂ (λ (p : Progress) (v : List V). record { progress = p; held = v }) (progress ∙ ap (λ o. unless_refused o (advanced l u x.progress) x.progress) answered)
      (values ∙ ap (λ o. unless_refused o (tile_swept m s l u x.held) x.held) answered) in
      let line = line_same u (points_of l u) answer verdict counted answered in
      let front : drop i calls ≡ u ∷ drop (i + 1) calls = drop_more calls i 0 h ∙ ap (λ k. k ∷ drop (i + 1) calls) (sym here) in
      ap₂ (λ a z. a ++ trace m s l digits bits z (drop (i + 1) calls)) (written ∙ ap₂ (λ k (z : Standing V). (before ++ k) ++ values_line digits bits z.held) line same) same
      ∙ simp append_assoc (sym (simp append_assoc at (sym inv ∙ ap (λ us. before ++ trace m s l digits bits x us) front)))

  pub trace_all : (after : List ℕ) → length calls ≤ i → after ≡ before ++ closing_line (closing_of l.count x.progress) → after ≡ all
  trace_all after h e = e ∙ ap (λ us. before ++ trace m s l digits bits x us) (sym (drop_all i calls h)) ∙ inv
