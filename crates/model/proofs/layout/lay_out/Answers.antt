-- `model::layout::lay_out` meets its contract. Assumes nothing.
use Rattle.std.proofs.Common.{rules, arith, ◌≡◌, sym, length, take}
use lib.Seq.{length-take-le}
use Rattle.locks.specs.Rows.{rows_of}
use Rattle.rules.specs.State.{view}
use Rattle.model.proofs.Putting.{numbered}
use Rattle.model.proofs.Unused.{sound-laid, sound-live, sound-rows, sound-used}
use Rattle.model.proofs.layout.lay_out.Goals as goal

pub shared_ref_as_front-put_processes : goal.shared_ref_as_front-put_processes
shared_ref_as_front-put_processes c = sound-live c.args.s c.requires

pub shared_ref_as_front-put_rows : goal.shared_ref_as_front-put_rows
shared_ref_as_front-put_rows c = sound-used c.args.s c.requires

pub put_rows-requires : goal.put_rows-requires
unfolding rows_of
put_rows-requires c =
    let s = c.args.s in
    let b = sound-used s c.requires in
    let n : length s.table.rows ≡ 32 = search rules in
    let k : length (take s.table.used s.table.rows) ≡ s.table.used = length-take-le s.table.used s.table.rows (omega arith) in
    (omega arith, sound-rows s c.requires, c.zeros-arrays.ensures.cells)

pub returns : goal.returns
unfolding view rows_of
returns c =
    let s = c.args.s in
    let a = sound-live s c.requires in
    let b = sound-used s c.requires in
    let p : length s.procs ≡ 16 = search rules in
    let q : length s.table.rows ≡ 32 = search rules in
    let n : length (take s.live s.procs) ≡ s.live = length-take-le s.live s.procs (omega arith) in
    let k : length (take s.table.used s.table.rows) ≡ s.table.used = length-take-le s.table.used s.table.rows (omega arith) in
    (record { procs = rw k (numbered (take s.live s.procs) c.put_processes.ensures (omega arith) (sym n)); rows = c.put_rows.ensures; used = omega arith }, sound-laid s c.requires p q)
