use Rattle.svc_desk.proofs.Stacked.{kept_under, saved_under}
use Rattle.svc_desk.proofs.desk.DeskFiles.save.Goals as goal

pub returns-in-Ok-clause-saved : goal.returns-in-Ok-clause-saved
returns-in-Ok-clause-saved c =
    let made = c.in-Ok.ensures {u = tt} in
    saved_under c.args.name.now c.as_bytes.result.now c.args.bytes.now _ _ _ _ _ _ c.as_bytes.ensures.value made.sizes made.contents

pub returns-in-Ok-clause-others : goal.returns-in-Ok-clause-others
returns-in-Ok-clause-others c =
    let made = c.in-Ok.ensures {u = tt} in
    kept_under c.args.name.now c.as_bytes.result.now c.args.bytes.now _ _ _ _ _ _ c.as_bytes.ensures.value made.sizes made.contents
