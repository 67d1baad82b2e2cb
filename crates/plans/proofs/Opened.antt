-- What opening's later checks say, once the first have passed. Assumes nothing.
use Rattle.std.proofs.Common.{◌≡◌, ℕ, ◌+◌, ◌*◌, ◌<◌, ◌≤◌, true, not, List, [], ◌∷◌, length, None, Option, sym, ap, ◌∙◌, arith}
use Rattle.std.specs.List.{AllByRecursion as All}
use Rattle.std.specs.Option.{option_or}
use Rattle.std.proofs.lemmas.List.{ext_get_or}
use Rattle.std.proofs.lemmas.List.FromFn.{length-map-range_with_len}
use Rattle.std.proofs.lemmas.Bool.{not-false, not_from_false, eqb-true}
use Rattle.checks.specs.declared.Check.{Check}
use Rattle.checks.specs.declared.Check.TheVariants.{Lawful, ScheduleStart, Schedule, WaitWord}
use Rattle.checks.specs.declared.Layer.TheVariants.{Plan}
use Rattle.checks.specs.declared.Fault.{Fault}
use Rattle.checks.specs.Lists.{at}
use Rattle.checks.specs.Verdicts.{lowest, first_fault}
use Rattle.checks.proofs.Firsts.{lowest_passed}
use Rattle.points.specs.Schedules.{begins}
use Rattle.points.proofs.Uptos.{every_from}
use Rattle.plans.specs.Tilings.{Tiling, points_of, tile_of, overtaken_at, lawful, schedule_of, schedule_starts_of, waits}
use Rattle.plans.specs.Words.{word, wait_words_of}
use Rattle.plans.specs.Opening.{laying_out_fault, lawful_fault, starts_fault, schedule_fault, words_fault, opening_fault, differs}
use Rattle.plans.specs.Held.{tables_from}
use Rattle.checks.proofs.Refusals.{all_passed}
use Rattle.plans.proofs.Places.{schedule_length}

-- a table that differs nowhere is as defined
same_table : (check : Check) (xs ys : List ℕ) → length xs ≡ length ys → lowest Plan check (differs xs ys) (length xs) ≡ None → xs ≡ ys
same_table check xs ys n e = ext_get_or 0 xs ys n (λ i h. eqb-true _ _ (not-false _ (lowest_passed Plan check (differs xs ys) (length xs) e i h)))

module _ (l : Tiling) (schedule starts words : List ℕ) where
  -- the checks that laying out does not make
  abbrev pub later_fault : Option Fault
  later_fault = first_fault (lawful_fault l ∷ starts_fault l starts ∷ schedule_fault l schedule ∷ words_fault l words ∷ [])

  -- the verdict of the later checks, of the same tiling, is opening's
  pub opening_is : (m : Tiling) (v : Option Fault) → v ≡ first_fault (lawful_fault m ∷ starts_fault m starts ∷ schedule_fault m schedule ∷ words_fault m words ∷ []) → m ≡ l
      → None ≡ laying_out_fault l (length schedule) (length starts) (length words) → v ≡ opening_fault (tables_from l schedule starts words)
  opening_is m v f e p = f ∙ ap (λ k. first_fault (lawful_fault k ∷ starts_fault k starts ∷ schedule_fault k schedule ∷ words_fault k words ∷ [])) e ∙ ap (λ o. option_or o later_fault) p

  module _ (passed : later_fault ≡ None) where
    none : All (λ v. v ≡ None) (lawful_fault l ∷ starts_fault l starts ∷ schedule_fault l schedule ∷ words_fault l words ∷ [])
    none = all_passed (lawful_fault l ∷ starts_fault l starts ∷ schedule_fault l schedule ∷ words_fault l words ∷ []) passed

    pub is_lawful : length l.tiles ≡ points_of l → lawful l ≡ true
    is_lawful n = every_from (λ q. not (overtaken_at l q)) (points_of l) (λ q h. not_from_false _ (lowest_passed Plan Lawful (overtaken_at l) (length l.tiles) none.0 q (omega arith)))

    pub is_started : length starts ≡ l.count * l.sweeps + 1 → starts ≡ schedule_starts_of l
    is_started n = same_table ScheduleStart starts (schedule_starts_of l) (n ∙ sym (length-map-range_with_len (begins l.pattern.rows l.sweeps (tile_of l)) 0 (l.count * l.sweeps + 1))) none.1.0

    pub is_waiting : length words ≡ l.count → words ≡ wait_words_of l
    is_waiting n = same_table WaitWord words (wait_words_of l) (n ∙ sym (length-map-range_with_len (λ u. word (waits l u) l.count) 0 l.count)) none.1.1.1.0

    pub is_scheduled : 1 ≤ l.pattern.rows → 1 ≤ l.sweeps → length l.tiles ≡ points_of l → ((p : ℕ) → p < length l.tiles → at l.tiles p < l.count) → length schedule ≡ length l.tiles → schedule ≡ schedule_of l
    is_scheduled rows sweeps long below n = same_table Schedule schedule (schedule_of l) (n ∙ sym (schedule_length l rows sweeps long below)) none.1.1.0
