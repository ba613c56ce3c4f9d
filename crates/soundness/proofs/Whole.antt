-- A sound state by its parts. Assumes nothing.
use Rattle.std.proofs.Common.{◌≡◌, ℕ, Bool, true, ◌&&◌, List, take, drop, leb, false}
use mathlib.Core.Bool.{and-false, and_assoc}
use Rattle.std.proofs.lemmas.List.{take-map}
use Rattle.rules.specs.State.{pids, view}
use Rattle.rules.specs.Sound.{pids_fit, zero_process, sound_process, sound_machine, sound}
use Rattle.rules.specs.declared.state.State.{State}
use Rattle.locks.specs.Lists.{all, between, is_zero, member}
use Rattle.locks.specs.Rows.{rows_of, zero_row, sound_row, apart}
use Rattle.locks.specs.Words.{fit_row}
use Rattle.locks.specs.declared.rows.Row.{Row}
use Rattle.locks.proofs.Tests.{and_split, and-join}

pub sound-fit : (ns : List ℕ) (r : Row) → sound_row ns r ≡ true → fit_row r ≡ true
unfolding sound_row fit_row
sound-fit ns r h =
    let s = and_split (between 1 16 r.len && member r.owner ns) (all is_zero (drop r.len r.bytes)) h in
    and-join (between 1 16 r.len) (all is_zero (drop r.len r.bytes)) (and_split (between 1 16 r.len) (member r.owner ns) s.0).0 s.1

regroup : (c z y p a b d : Bool) → (c && z && y && (p && a && b && d)) ≡ (c && (p && (z && y) && (a && b && d)))
regroup c z y true a b d = simp and_assoc
regroup c z y false a b d = rw (and-false, and-false)

-- in the order of the code
pub told : (s : State) → sound s ≡ (
    (between 1 16 s.live && leb s.table.used 32)
    && (pids_fit (take s.live (pids s.procs)) s.next
    && (all zero_process (drop s.live s.procs) && all zero_row (drop s.table.used s.table.rows))
    && (all (sound_row (take s.live (pids s.procs))) (take s.table.used s.table.rows) && apart (take s.table.used s.table.rows)
    && all (sound_process (take s.table.used s.table.rows)) (take s.live s.procs)))
    )
unfolding sound sound_machine view rows_of
told s = rw take-map (regroup (between 1 16 s.live && leb s.table.used 32) (all zero_process (drop s.live s.procs)) (all zero_row (drop s.table.used s.table.rows)) (pids_fit (pids (take s.live s.procs)) s.next) _ _ _)
