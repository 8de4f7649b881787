-- Rows, one a turn. Assumes nothing.
use native.Mathlib.Omega.{arith}
use borrow.Author.Rules.{rules}
use lib.ListN.{length-drop}
use Rattle.base.proofs.Lists.{rest-lent}
use Rattle.tables.proofs.RowLaws.{rows_none, rows-turn, rows-over, rows-room}
use Rattle.tables.proofs.rows.lay_rows.Goals as goal

pub loop-k-init : goal.loop-k-init
loop-k-init c = (c.width-columns.ensures, rows_none _ _ _ _ c.requires)

pub lay_row-row-requires : goal.lay_row-row-requires
lay_row-row-requires c =
    let room = rows-room _ _ _ _ _ _ _ _ _ c.loop-k.invariant.1 (omega arith) in
    rw (rest-lent, length-drop) (omega (arith, room))

pub overflow_add-at : goal.overflow_add-at
overflow_add-at c =
    let loop = c.loop-k in
    omega (arith, rows-room _ _ _ _ _ _ _ _ _ loop.invariant.1 (omega arith), loop.invariant.0, loop.invariant.1.same_length)

pub loop-k-preserved : goal.loop-k-preserved
loop-k-preserved c =
    let loop = c.loop-k in (
      loop.invariant.0,
      rows-turn _ _ _ _ _ loop.rest.now _ _ _ _ _ _ c.lay_row-row.result loop.invariant.0 (search rules) loop.invariant.1 (omega arith)
          c.lay_row-row.ensures,
    )

pub returns : goal.returns
returns c = rows-over _ _ _ _ _ _ _ _ _ c.loop-k.invariant.1 (omega arith)
