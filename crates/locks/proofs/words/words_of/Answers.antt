-- `locks::words::words_of` meets its contract. Assumes nothing.
use borrow.Author.Rules.{rules}
use Rattle.locks.proofs.Bytes.{worded}
use Rattle.locks.proofs.words.words_of.Goals as goal

pub returns : goal.returns
returns c = worded c.args.b c.from_le_bytes-n.result (search rules) (λ i. search rules) c.from_le_bytes-n.ensures
