use Rattle.places.proofs.Finding.{Seeks}
use Rattle.places.proofs.fields.find.Given as goal

abbrev pub invariant-loop-i : goal.invariant-loop-i
invariant-loop-i l = Seeks l.m l.pid l.i
