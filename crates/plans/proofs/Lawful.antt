-- Lawful tilings, and that what is laid out opens. Assumes nothing.
use Rattle.std.proofs.Common.{◌≡◌, ℕ, ◌+◌, ◌*◌, ◌/◌, false, not, List, [], ◌∷◌, length, Some, None, Option, refl, ap, ◌∙◌, subst, arith}
use Rattle.std.specs.Option.{option_or}
use Rattle.checks.specs.declared.Fault.{Fault}
use Rattle.std.proofs.lemmas.List.FromFn.{length-map-range_with_len}
use Rattle.std.proofs.lemmas.Nat.{div-mul-add, mod-mul-add, mul-add-lt}
use Rattle.std.proofs.lemmas.Bool.{not-true, not_from_true, eq-eqb}
use Rattle.checks.specs.declared.Check.{Check}
use Rattle.checks.specs.declared.Check.TheVariants.{Lawful as LawfulCheck, ScheduleStart, Schedule, WaitWord}
use Rattle.checks.specs.declared.Layer.TheVariants.{Plan}
use Rattle.checks.specs.Lists.{at}
use Rattle.checks.specs.Verdicts.{lowest, first_fault}
use Rattle.checks.proofs.Firsts.{lowest_none}
use Rattle.points.specs.Points.{overtaken}
use Rattle.points.specs.Schedules.{begins}
use Rattle.points.proofs.Uptos.{every_at}
use Rattle.points.proofs.Runs.{waited_for_by_higher}
use Rattle.points.proofs.Waits.{waits_told, lawful_told}
use Rattle.plans.specs.Tilings.{Tiling, points_of, tile_of, precedes, overtaken_at, schedule_of, schedule_starts_of, waits}
use Rattle.plans.specs.Words.{word, wait_words_of}
use Rattle.plans.specs.Opening.{laying_out_fault, lawful_fault, starts_fault, schedule_fault, words_fault, opening_fault, differs, laid_out}
use Rattle.plans.specs.Laws.{LawfulRises, WaitsForLower, LaidOutOpens}
use Rattle.checks.proofs.Refusals.{all_none}
use Rattle.plans.proofs.Checked.{passes, none_from_passes}
use Rattle.plans.proofs.Places.{small, schedule_length}

pub lawful_rises : LawfulRises
lawful_rises l a b c e obeys =
    let p = passes l a b c e in
    let R = l.pattern.rows in
    (lawful_told (precedes l) R l.sweeps l.count (tile_of l) (small l p.rows.0 p.sweeps.0 p.long p.below)).0
    (λ d j hd hj.
    let q = every_at (λ q. not (overtaken_at l q)) (points_of l) obeys (d * R + j) (omega (arith, mul-add-lt d R j l.sweeps hd hj)) in
    subst (λ x. overtaken (precedes l) R l.sweeps (tile_of l) x j ≡ false) (div-mul-add d R j hj)
    (subst (λ x. overtaken (precedes l) R l.sweeps (tile_of l) ((d * R + j) / R) x ≡ false) (mod-mul-add d R j hj) (not-true _ q)))

pub waits_for_lower : WaitsForLower
waits_for_lower l a b c e obeys u t hu ht w =
    waited_for_by_higher (precedes l) l.pattern.rows l.sweeps l.count (tile_of l) (lawful_rises l a b c e obeys) u t ((waits_told (precedes l) l.pattern.rows l.sweeps l.count (tile_of l)).sound u t hu ht w)

-- a table does not differ from itself
same_none : (check : Check) (xs : List ℕ) → lowest Plan check (differs xs xs) (length xs) ≡ None
same_none check xs = lowest_none Plan check (differs xs xs) (length xs) (λ i h. not_from_true _ (eq-eqb (at xs i) (at xs i) refl))

pub laid_out_passes : (l : Tiling) (a b c : ℕ) → laying_out_fault l a b c ≡ None → laying_out_fault l (length (schedule_of l)) (length (schedule_starts_of l)) (length (wait_words_of l)) ≡ None
laid_out_passes l a b c e =
    let p = passes l a b c e in
    none_from_passes l _ _ _ (record {
      rows = p.rows;
      entries = p.entries;
      sweeps = p.sweeps;
      tiles = p.tiles;
      scheduled = schedule_length l p.rows.0 p.sweeps.0 p.long p.below ∙ p.long;
      started = length-map-range_with_len (begins l.pattern.rows l.sweeps (tile_of l)) 0 (l.count * l.sweeps + 1);
      waiting = length-map-range_with_len (λ u. word (waits l u) l.count) 0 l.count;
      row_starts = p.row_starts;
      columns = p.columns;
      long = p.long;
      accepted = p.accepted;
      below = p.below;
    })

pub laid_out_opens : LaidOutOpens
laid_out_opens l a b c e = (
  only,
  λ obeys. only ∙ lowest_none Plan LawfulCheck (overtaken_at l) (length l.tiles) (λ q h. not-true _ (every_at (λ q. not (overtaken_at l q)) (points_of l) obeys q (omega (arith, (passes l a b c e).long)))),
)
  where
    later : first_fault (starts_fault l (schedule_starts_of l) ∷ schedule_fault l (schedule_of l) ∷ words_fault l (wait_words_of l) ∷ []) ≡ None
    later = all_none (starts_fault l (schedule_starts_of l) ∷ schedule_fault l (schedule_of l) ∷ words_fault l (wait_words_of l) ∷ []) (same_none ScheduleStart (schedule_starts_of l), (same_none Schedule (schedule_of l), (same_none WaitWord (wait_words_of l), tt)))

    or_none : (v : Option Fault) → option_or v None ≡ v
    or_none None = refl
    or_none (Some f) = refl

    only : opening_fault (laid_out l) ≡ lawful_fault l
    only =
        ap (λ v. option_or v (option_or (lawful_fault l) (first_fault (starts_fault l (schedule_starts_of l) ∷ schedule_fault l (schedule_of l) ∷ words_fault l (wait_words_of l) ∷ [])))) (laid_out_passes l a b c e)
        ∙ ap (λ v. option_or (lawful_fault l) v) later ∙ or_none (lawful_fault l)
