-- `chains::search::leads_back` meets its contract: the search begins with nobody opened. Assumes nothing.
use Rattle.chains.proofs.Shown.{found-exact}
use Rattle.chains.proofs.search.leads_back.Goals as goal

pub returns : goal.returns
returns c = found-exact c.owner_to_row.ensures
