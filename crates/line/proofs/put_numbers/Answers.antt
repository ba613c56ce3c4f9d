-- `line::put_numbers` meets its contract. Assumes nothing.
use Rattle.line.proofs.Puts.{then}
use Rattle.line.specs.Line.{numbers_of}
use Rattle.line.proofs.put_numbers.Goals as goal

pub returns-clause-put : goal.returns-clause-put
unfolding numbers_of
returns-clause-put c =
    then (then (then c.put_named-a.ensures.put c.put_named-b.ensures.put) c.put_named-c.ensures.put) c.put_named.ensures.put
