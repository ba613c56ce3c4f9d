-- `writer::records::paper_header` meets its contract. Assumes nothing.
use Rattle.std.proofs.Common.{◌≡◌, ◌*◌, length, take, map}
use Rattle.papers.specs.Bytes.{bytes16, joined}
use Rattle.writer.proofs.records.paper_header.Given as goal

abbrev pub invariant-loop-k : goal.invariant-loop-k
invariant-loop-k l = (length l.bytes ≡ 12) × (take (2 * l.k) l.bytes ≡ joined (map bytes16 (take l.k l.x-items)))
