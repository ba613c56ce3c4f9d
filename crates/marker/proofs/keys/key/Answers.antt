-- `marker::keys::key` meets its contract. Assumes nothing.
use Rattle.std.proofs.Common.{◌≡◌, rules, sym}
use Rattle.papers.specs.Layout.{event_count}
use Rattle.papers.proofs.Files.{paper-count}
use Rattle.marker.specs.Key.{key_places, key_of, keyed}
use Rattle.marker.proofs.keys.key.Goals as goal

pub returns : goal.returns
unfolding keyed key_of key_places
returns c =
    let n : c.in_ok-n.n ≡ event_count c.args.p.now = paper-count c.args.p.now _ (sym c.in_ok-n.ensures) in
    search rules
