-- `line::put_named` meets its contract. Assumes nothing.
use Rattle.std.proofs.Common.{arith}
use Rattle.line.proofs.Puts.{then}
use Rattle.line.proofs.Digits.{at_most_five, digits_long}
use Rattle.line.proofs.put_named.Goals as goal

pub put_number-requires : goal.put_number-requires
put_number-requires c =
    let k = at_most_five c.args.n in
    let e = c.put-start.ensures.ends in
    omega arith

pub returns-clause-upper_bound : goal.returns-clause-upper_bound
returns-clause-upper_bound c =
    let k = at_most_five c.args.n in
    let l = digits_long c.args.n in
    let e = c.put-start.ensures.ends in
    let f = c.put_number.ensures.ends in
    omega arith

pub returns-clause-put : goal.returns-clause-put
returns-clause-put c = then c.put-start.ensures c.put_number.ensures
