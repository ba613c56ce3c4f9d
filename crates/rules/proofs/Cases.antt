-- The worked cases hold, by computation, one `refl` for each. Assumes nothing.
use mathlib.Core.Bool.{Bool, true}
use mathlib.Core.Path.{◌≡◌, refl}
use mathlib.Core.List.{List, map, map-append}
use lib.Count.{count_trailing_zeros}
use Rattle.locks.specs.Lists.{padded, agree}
use Rattle.locks.specs.Rows.{no_row, rows_of, laid_rows, same_sequence, conflict, waits, twin, has_twin, waits_of, waiting_of, without_twin, without_owner, without_waiting, zero_row, sound_row, apart}
use Rattle.locks.proofs.Named.{Each, each_same}
use Rattle.chains.specs.Chains.{links, chained, leads_back}
use Rattle.rules.specs.State.{new_process, no_process, view, laid, fresh, lives, first_of, process_of, in_place, put, each, granted, rows_left}
use Rattle.rules.specs.Signals.{gone, ends, roused, trapped, reacts, arrives, takes, taken}
use Rattle.rules.specs.Clock.{slept, rings, alarms, ticked}
use Rattle.rules.specs.Calls.{modelled, listed, class_among, class_of, id_of, with_id, get_id, new_ids, set_id, in_priority, set_prior, set_signal, outlived, send_kill, child_reaction, child_reactions, child, born, do_fshell, do_exit, do_sleep, row_of, appended, queued, lock_row, do_lock, unlock_row, do_unlock, own_call, do_call, of_class, called}
use Rattle.rules.specs.Sound.{zero_process, ascend, pids_fit, sleep_fits, wake_fits, quiet, addressed, traps_fit, reactions_fit, sound_process, lock_fits, sound_machine, sound}
use Rattle.rules.specs.Step.{reported, of_caller, outcome, woken_mask, ended_mask, settled, step_of}
use Rattle.rules.specs.Script.{Case, comes, should}
use Rattle.rules.specs.Odd.{sounds, broken}
use Rattle.rules.specs.Cases.{stories, further, ticking, refusing, table, WorkedCases, RefusalNumbers, classes, should_be, runs, ClassCases}

-- `unfolding opened` opens every rule, so that an event computes
unfoldable pub opened : Bool
unfolding
    padded agree no_row rows_of laid_rows same_sequence conflict waits twin has_twin waits_of waiting_of without_twin without_owner without_waiting zero_row sound_row apart links chained leads_back
    new_process no_process view laid fresh lives first_of process_of in_place put each granted rows_left
    gone ends roused trapped reacts arrives takes taken count_trailing_zeros slept rings alarms ticked
    modelled listed class_among class_of id_of with_id get_id new_ids set_id in_priority set_prior set_signal outlived send_kill child_reaction child_reactions child born do_fshell do_exit do_sleep row_of appended queued lock_row do_lock unlock_row do_unlock own_call do_call of_class called
    zero_process ascend pids_fit sleep_fits wake_fits quiet addressed traps_fit reactions_fit sound_process lock_fits sound_machine sound
    reported of_caller outcome woken_mask ended_mask settled step_of
opened = true

stories-hold : Each comes should stories
unfolding opened stories
stories-hold = (refl, (refl, (refl, (refl, (refl, (refl, (refl, (refl, (refl, (refl, (refl, (refl, (refl, (refl, (refl, (refl, (refl, (refl, (refl, (refl, (refl, (refl, (refl, (refl, (refl, (refl, (refl, tt)))))))))))))))))))))))))))

further-hold : Each comes should further
unfolding opened further
further-hold = (refl, (refl, (refl, (refl, (refl, (refl, (refl, (refl, (refl, (refl, (refl, (refl, (refl, (refl, (refl, (refl, (refl, (refl, (refl, (refl, (refl, (refl, (refl, (refl, (refl, (refl, (refl, (refl, (refl, (refl, (refl, (refl, (refl, (refl, (refl, (refl, tt))))))))))))))))))))))))))))))))))))

sounds-hold : Each comes should (map ticking sounds)
unfolding opened sounds
sounds-hold = (refl, (refl, (refl, (refl, (refl, (refl, (refl, (refl, (refl, (refl, (refl, (refl, (refl, (refl, (refl, (refl, (refl, (refl, (refl, (refl, (refl, (refl, (refl, (refl, (refl, (refl, (refl, (refl, (refl, (refl, (refl, (refl, (refl, (refl, (refl, (refl, (refl, (refl, tt))))))))))))))))))))))))))))))))))))))

broken-hold : Each comes should (map refusing broken)
unfolding opened broken
broken-hold = (refl, (refl, (refl, (refl, (refl, (refl, (refl, (refl, (refl, (refl, (refl, (refl, (refl, (refl, (refl, (refl, (refl, (refl, (refl, (refl, (refl, (refl, (refl, (refl, (refl, (refl, (refl, (refl, (refl, (refl, (refl, (refl, (refl, (refl, (refl, (refl, (refl, (refl, (refl, (refl, (refl, (refl, (refl, (refl, (refl, (refl, (refl, (refl, (refl, (refl, (refl, (refl, (refl, (refl, (refl, (refl, (refl, (refl, (refl, (refl, (refl, (refl, (refl, (refl, (refl, (refl, (refl, (refl, (refl, (refl, (refl, (refl, (refl, (refl, (refl, (refl, (refl, (refl, (refl, (refl, (refl, (refl, (refl, (refl, (refl, (refl, (refl, (refl, (refl, (refl, (refl, (refl, (refl, (refl, (refl, (refl, (refl, (refl, (refl, tt)))))))))))))))))))))))))))))))))))))))))))))))))))))))))))))))))))))))))))))))))))))))))))))))))))

pub worked-cases : WorkedCases
unfolding table
worked-cases =
    let held : (cs : List Case) → Each comes should cs → map comes cs ≡ map should cs = each_same comes should in
    rw (map-append, map-append, map-append, map-append, map-append, map-append, held stories stories-hold, held further further-hold, held _ sounds-hold, held _ broken-hold) refl

pub refusal-numbers : RefusalNumbers
refusal-numbers = refl

runs-hold : Each classes should_be runs
unfolding class_of class_among modelled listed runs
runs-hold = (refl, (refl, (refl, (refl, (refl, (refl, (refl, (refl, (refl, (refl, (refl, (refl, (refl, (refl, (refl, (refl, (refl, (refl, (refl, (refl, (refl, (refl, (refl, (refl, (refl, (refl, (refl, (refl, (refl, (refl, (refl, (refl, (refl, (refl, (refl, (refl, (refl, (refl, tt))))))))))))))))))))))))))))))))))))))

pub class_cases : ClassCases
class_cases = each_same _ _ runs runs-hold
