-- The cost of a schedule. Assumes nothing.
use native.Mathlib.Omega.{arith}
use Rattle.cells.specs.promises.Views.{schedule_at}
use Rattle.links.proofs.LinkLaws.{rows-length, rows-by-schedule}
use Rattle.choice.specs.Cost.{running_cost, starting_cost, cost}
use Rattle.choice.proofs.UnitLaws.{row_here}
use Rattle.choice.proofs.CostLaws.{own-run-small}
use Rattle.choice.proofs.costs.cost.Goals as goal

pub hour_cost-requires : goal.hour_cost-requires
hour_cost-requires c = row_here _ _ c.requires.schedule_cells _ c.requires.s_lt_n

pub returns-then-running : goal.returns-then-running
unfolding cost running_cost
returns-then-running c = simp (c.if-running.true, c.hour_cost.ensures)

pub slice_bounds-run_cost-count : goal.slice_bounds-run_cost-count
slice_bounds-run_cost-count c = omega (arith, rows-length c.requires.rows_linked)

pub slice_bounds-run_cost-start : goal.slice_bounds-run_cost-start
slice_bounds-run_cost-start c = omega (arith, rows-length c.requires.rows_linked)

pub run_cost-requires : goal.run_cost-requires
run_cost-requires c =
    let pre = c.requires in
    record { schedule_cells = pre.schedule_cells; linked = rows-by-schedule pre.rows_linked; s_lt_n = pre.s_lt_n; hour_le_last_hour = pre.hour_le_last_hour }

pub overflow_mul-result : goal.overflow_mul-result
overflow_mul-result c = omega (arith, (row_here _ _ c.requires.schedule_cells _ c.requires.s_lt_n).ranged.startup, c.cell.ensures)

pub overflow_add-result : goal.overflow_add-result
overflow_add-result c =
    let row = schedule_at c.args.cells.now c.args.s in
    omega (
      arith,
      (row_here _ _ c.requires.schedule_cells _ c.requires.s_lt_n).ranged.startup,
      c.cell.ensures,
      own-run-small row.unit c.args.hour row c.args.n c.args.cells.now c.requires.schedule_cells,
      c.run_cost.ensures,
    )

pub returns : goal.returns
unfolding cost starting_cost
returns c = simp (c.if-running.false, c.run_cost.ensures, c.cell.ensures)
