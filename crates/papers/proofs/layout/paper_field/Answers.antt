-- `papers::layout::paper_field` meets its contract. Assumes nothing.
use Rattle.std.proofs.Common.{rules, sym, arith}
use Rattle.papers.specs.Fields.{paper_field}
use Rattle.papers.proofs.Fields.{first-parts}
use Rattle.papers.proofs.Files.{header-keeps}
use Rattle.papers.proofs.layout.paper_field.Goals as goal

pub returns-then-p-lt12 : goal.returns-then-p-lt12
unfolding paper_field
returns-then-p-lt12 c = search rules

pub returns-in_err-header : goal.returns-in_err-header
unfolding paper_field
returns-in_err-header c = search (rules, first-parts)

pub names-requires : goal.names-requires
names-requires c =
    let h = header-keeps c.args.p.now (sym c.in_ok-header.ensures) in
    omega (arith, h.events, c.number.ensures)

pub returns : goal.returns
unfolding paper_field
returns c = search (rules, first-parts)
