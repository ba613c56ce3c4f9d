-- `model::readout::state_in` meets its contract. Assumes nothing.
use Rattle.model.proofs.Readings.{narrow, owner-narrow, state-read}
use Rattle.model.proofs.readout.state_in.Goals as goal

pub processes_in-requires : goal.processes_in-requires
processes_in-requires c = (c.requires.laid.live, narrow c.requires)

pub rows_in-requires : goal.rows_in-requires
rows_in-requires c = (c.requires.laid.used, owner-narrow c.requires)

pub returns : goal.returns
returns c = state-read c.args.arrays.now.numbers c.args.arrays.now.cells c.processes_in.ensures c.rows_in.ensures
