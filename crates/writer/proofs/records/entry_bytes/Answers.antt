-- `writer::records::entry_bytes` meets its contract. Assumes nothing.
use Rattle.std.proofs.Common.{◌∙◌, arith}
use Rattle.papers.proofs.Numbers.{written16, written32}
use Rattle.forms.specs.Form.{entry_bytes}
use Rattle.writer.proofs.records.entry_bytes.Goals as goal

pub returns : goal.returns
unfolding entry_bytes
returns c =
    let e = c.args.e in
    rw (
      c.copy_from_slice-7.ensures.after,
      c.copy_from_slice-6.ensures.after,
      c.copy_from_slice-5.ensures.after,
      c.copy_from_slice-4.ensures.after,
      c.copy_from_slice-3.ensures.after,
      c.copy_from_slice-2.ensures.after,
      c.copy_from_slice.ensures.after,
      c.to_be_bytes.ensures ∙ written16 e.caller (omega arith),
      c.to_be_bytes-2.ensures ∙ written16 e.d0 (omega arith),
      c.to_be_bytes-3.ensures ∙ written16 e.d1 (omega arith),
      c.to_be_bytes-4.ensures ∙ written16 e.d2 (omega arith),
      c.to_be_bytes-5.ensures ∙ written32 e.d3 (omega arith),
      c.to_be_bytes-6.ensures ∙ written32 e.a0 (omega arith),
      c.to_be_bytes-7.ensures ∙ written16 e.sequence (omega arith),
    )
