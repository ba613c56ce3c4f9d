-- An answer as the code lends it. Assumes nothing.
use Rattle.std.specs.Prelude.{ℕ, ◌+◌, ◌*◌, List, [], ◌∷◌}
use Rattle.rules.specs.declared.state.Answer.{Answer}

-- four numbers: the sixteen bytes of the answer, the first of each four the highest
abbrev pub four_of : Answer → List ℕ
four_of a = (a.kind * 16777216 + a.number * 65536 + a.woken) ∷ (a.ended * 65536) ∷ a.d3 ∷ a.a0 ∷ []
