use Rattle.std.proofs.Common.{rules}
use Rattle.std.proofs.lemmas.List.{get_or_default}
use Rattle.svc_image.proofs.parts.words_fit.Goals as goal

pub returns : goal.returns
returns c = λ k d low. rw (get_or_default c.args.words.now k d 0 low) (search (rules, c.type_inv.words k))
