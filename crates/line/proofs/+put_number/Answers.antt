-- `line::put_number` meets its contract. Assumes nothing.
use Rattle.std.proofs.Common.{◌/◌, arith}
use Rattle.line.proofs.Puts.{then}
use Rattle.line.proofs.Digits.{digit_more, one, more, digits_long}
use Rattle.line.proofs.+put_number.Goals as goal

pub returns-then-n-lt10 : goal.returns-then-n-lt10
returns-then-n-lt10 t c = rw (one c.args.n c.if-n-lt10.true) c.put.ensures

pub put-requires-2 : goal.put-requires-2
put-requires-2 t c =
    let m = digit_more c.args.n (omega arith) (omega arith) in
    let l = digits_long (c.args.n / 10) in
    let e = c.put_number-end.ensures.ends in
    omega arith

pub returns : goal.returns
returns t c = rw (more c.args.n (omega arith) (omega arith)) (then c.put_number-end.ensures c.put-2.ensures)
