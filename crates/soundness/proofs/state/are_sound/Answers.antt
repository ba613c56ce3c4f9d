-- `soundness::state::are_sound` meets its contract. Assumes nothing.
use Rattle.std.proofs.Common.{rules, ◌∙◌}
use borrow.Author.Tests.{tests}
use Rattle.std.proofs.lemmas.Iterator.{YieldsList-from_slice}
use Rattle.std.proofs.lemmas.Iterator.Search.{all_from_yields_List}
use Rattle.rules.specs.declared.state.Process.{Process}
use Rattle.soundness.specs.Waiting.{count_of, owners_in, sound_waiting}
use Rattle.soundness.proofs.Waiting.{sound-told}
use Rattle.soundness.proofs.state.are_sound.Goals as goal

pub returns : goal.returns
returns c =
    let ps = c.args.procs.now in
    let w = c.in-Some.ensures in
    all_from_yields_List (λ (p : Process). sound_waiting (count_of p.pid (owners_in c.in-Some.waiters)) p) _ _ _ c.all.ensures.ran (YieldsList-from_slice ps cc) (λ x b q k. search (rules, tests))
    ∙ sound-told w ps ∙ rw w.fit
