use mathlib.Core.Path.{subst}
use Rattle.image_spec.specs.Answers.{Answer, Reports, report}
use Rattle.image_spec.specs.Reading.{read_call}
use Rattle.axcut.proofs.axcut_read.Goals as goal

pub returns : goal.returns
unfolding read_call
returns c = subst (λ (a : Answer). Reports (report a) c.tell.result c.tell.new.length c.tell.new.max_id) c.read.ensures c.tell.ensures
