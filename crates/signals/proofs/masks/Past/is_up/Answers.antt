use Rattle.signals.proofs.Comparing.{up-here}
use Rattle.signals.proofs.masks.Past.is_up.Goals as goal

pub returns-then-self-ne-AWAKE : goal.returns-then-self-ne-AWAKE
returns-then-self-ne-AWAKE c = up-here c.requires.0 c.args.k c.args.self.sleep c.requires.1 c.of.ensures c.if-self-ne-AWAKE.true
