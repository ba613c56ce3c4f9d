-- The worked cases hold: those of events by the rules' own theorem, the others by computation, one `refl` for each. Assumes nothing.
use mathlib.Core.Path.{◌≡◌, refl, sym, ap, ◌∙◌}
use mathlib.Core.List.{map, map-append, map-map}
use Rattle.locks.proofs.Named.{Each, each_same}
use Rattle.rules.specs.Script as script
use Rattle.rules.specs.Cases as rules
use Rattle.rules.proofs.Cases as rules-hold
use Rattle.rules.proofs.Cases.{opened}
use Rattle.papers.specs.Bytes.{number16, number32}
use Rattle.papers.specs.Layout.{field}
use Rattle.papers.specs.Fields.{tested, paper_field, paper_of, sheet_field, sheet_of}
use Rattle.papers.specs.Entries.{entry_at}
use Rattle.papers.specs.Events.{sequence_of, event_at}
use Rattle.papers.specs.Answers.{answer_bytes, sheet_header}
use Rattle.marker.specs.Key.{key_places, key_of, keyed}
use Rattle.marker.specs.Mark.{marked}
use Rattle.marker.specs.Cases.{played, answers, comes, should, files, table, WorkedCases}

played-hold : map comes (map played rules.table) ≡ map should (map played rules.table)
played-hold =
    map-map comes played rules.table ∙ sym (map-map answers script.comes rules.table) ∙ ap (map answers) rules-hold.worked-cases
    ∙ map-map answers script.should rules.table ∙ sym (map-map should played rules.table)

files-hold : Each comes should files
unfolding opened number16 number32 field tested paper_field paper_of sheet_field sheet_of entry_at sequence_of event_at answer_bytes sheet_header key_places key_of keyed marked files
files-hold = (refl, (refl, (refl, (refl, (refl, (refl, (refl, (refl, (refl, (refl, (refl, (refl, (refl, (refl, (refl, (refl, (refl, (refl, (refl, (refl, (refl, (refl, (refl, (refl, (refl, (refl, (refl, tt)))))))))))))))))))))))))))

pub worked-cases : WorkedCases
unfolding table
worked-cases = rw (map-append, map-append, played-hold, each_same comes should files files-hold) refl
