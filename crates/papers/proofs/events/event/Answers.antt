-- `papers::events::event` meets its contract. Assumes nothing.
use Rattle.papers.specs.Events.{event_at}
use Rattle.papers.proofs.events.event.Goals as goal

pub returns : goal.returns
unfolding event_at
returns c = rw (c.sequence.ensures, c.entry_at-e.ensures)
