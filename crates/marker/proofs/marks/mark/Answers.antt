-- `marker::marks::mark` meets its contract. Assumes nothing.
use Rattle.std.proofs.Common.{◌≡◌, rules, sym}
use Rattle.papers.specs.Layout.{event_count, answer_count}
use Rattle.papers.proofs.Files.{paper-count, sheet-count}
use Rattle.marker.specs.Key.{key_places}
use Rattle.marker.specs.Mark.{marked}
use Rattle.marker.proofs.Places.{right-least}
use Rattle.marker.proofs.marks.mark.Goals as goal

pub returns : goal.returns
unfolding marked key_places
returns c =
    let n : c.in_ok-total.total ≡ event_count c.args.p.now = paper-count c.args.p.now _ (sym c.in_ok-total.ensures) in
    let m : c.in_ok-answers.answers ≡ answer_count c.args.s.now = sheet-count c.args.s.now _ (sym c.in_ok-answers.ensures) in
    search (rules, right-least)
