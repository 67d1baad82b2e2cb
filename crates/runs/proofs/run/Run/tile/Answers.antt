use Rattle.std.proofs.Common.{Some, None, refl, sym, rules, arith}
use Rattle.plans.specs.Held.{tiling_held}
use Rattle.runs.specs.Held.{sizes_held}
use Rattle.runs.proofs.Counts.{call_fits}
use Rattle.runs.proofs.Steps.{fault_is, reached_more}
use Rattle.runs.proofs.run.Run.tile.Goals as goal

pub overflow_cast-count : goal.overflow_cast-count
overflow_cast-count g c =
    let run = c.args.self.now in
    let table = c.args.system.now.plan.now.table in
    let fits = call_fits (sizes_held run) run.done run.points (tiling_held c.args.system.now.plan.now) _ _ _ c.args.number table.sized.1 table.counted.1 table.counted.3 run.few (sym c.in_ok-check_call.ensures) in
    omega (arith, c.tile_points-count.ensures, fits.0)

pub overflow_add-self : goal.overflow_add-self
overflow_add-self g c =
    let run = c.args.self.now in
    let table = c.args.system.now.plan.now.table in
    let fits = call_fits (sizes_held run) run.done run.points (tiling_held c.args.system.now.plan.now) _ _ _ c.args.number table.sized.1 table.counted.1 table.counted.3 run.few (sym c.in_ok-check_call.ensures) in
    omega (arith, c.tile_points-count.ensures, fits.1)

pub invariant_of-self-clause-few : goal.invariant_of-self-clause-few
invariant_of-self-clause-few g c =
    let run = c.args.self.now in
    let table = c.args.system.now.plan.now.table in
    let fits = call_fits (sizes_held run) run.done run.points (tiling_held c.args.system.now.plan.now) _ _ _ c.args.number table.sized.1 table.counted.1 table.counted.3 run.few (sym c.in_ok-check_call.ensures) in
    rw (c.insert.ensures, c.tile_points-count.ensures) fits.2

pub returns-clause-refusals : goal.returns-clause-refusals
returns-clause-refusals g c start calls before =
    let s = c.args.system.now in
    fault_is (g.K.Arithmetic.means s.arithmetic.now) (tiling_held s.plan.now) s.coefficients.now s.right_hand_side.now start calls c.args.number c.args.self.now c.args.vector.now None before c.in_ok-check_call.ensures

pub returns-in_err-check_call-clause-refusals : goal.returns-in_err-check_call-clause-refusals
returns-in_err-check_call-clause-refusals g c start calls before =
    let s = c.args.system.now in
    fault_is (g.K.Arithmetic.means s.arithmetic.now) (tiling_held s.plan.now) s.coefficients.now s.right_hand_side.now start calls c.args.number c.args.self.now c.args.vector.now _ before (search rules)

pub returns-clause-history : goal.returns-clause-history
returns-clause-history g c start calls before =
    let s = c.args.system.now in
    reached_more (g.K.Arithmetic.means s.arithmetic.now) (tiling_held s.plan.now) s.coefficients.now s.right_hand_side.now start calls c.args.number c.args.self.now _ c.args.vector.now c.sweep_tile.new.vector None
    before c.in_ok-check_call.ensures refl c.sweep_tile.auto.vector (search rules) c.sweep_tile.ensures

pub returns-in_err-check_call-clause-history : goal.returns-in_err-check_call-clause-history
returns-in_err-check_call-clause-history g c start calls before =
    let s = c.args.system.now in
    reached_more (g.K.Arithmetic.means s.arithmetic.now) (tiling_held s.plan.now) s.coefficients.now s.right_hand_side.now start calls c.args.number c.args.self.now c.args.self.now c.args.vector.now c.args.vector.now (Some _)
    before c.in_err-check_call.ensures refl refl refl refl
