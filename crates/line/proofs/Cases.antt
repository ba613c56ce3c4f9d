-- The cases of lines hold, by computation, one `refl` for each. Assumes nothing.
use mathlib.Core.Path.{refl}
use Rattle.locks.proofs.Named.{Each, each_same}
use Rattle.line.specs.Line.{decimal, numbers_of, ascii, offset_text, refused_line, line_of}
use Rattle.line.specs.Cases.{table, LineCases}

lines-hold : Each (λ c. line_of c.0) (λ c. ascii c.1) table
unfolding decimal numbers_of offset_text refused_line line_of table
lines-hold = (refl, (refl, (refl, (refl, (refl, (refl, (refl, (refl, (refl, (refl, (refl, (refl, (refl, (refl, (refl, tt)))))))))))))))

pub line-cases : LineCases
line-cases = each_same _ _ table lines-hold
