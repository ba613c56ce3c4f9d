-- `line::put_offset` meets its contract. Assumes nothing.
use Rattle.line.specs.Line.{offset_text}
use Rattle.line.proofs.put_offset.Goals as goal

pub returns-in-Badpaper-clause-put : goal.returns-in-Badpaper-clause-put
unfolding offset_text
returns-in-Badpaper-clause-put c = rw c.in-Badpaper.is c.put_named.ensures.put

pub returns-in-Badsheet-clause-put : goal.returns-in-Badsheet-clause-put
unfolding offset_text
returns-in-Badsheet-clause-put c = rw c.in-Badsheet.is c.put_named-in-Badsheet.ensures.put

pub returns-in-Blank-clause-put : goal.returns-in-Blank-clause-put
unfolding offset_text
returns-in-Blank-clause-put c = rw c.in-Blank.is c.put.ensures

pub returns-in-Noroom-clause-put : goal.returns-in-Noroom-clause-put
unfolding offset_text
returns-in-Noroom-clause-put c = rw c.in-Noroom.is c.put-in-Noroom.ensures
