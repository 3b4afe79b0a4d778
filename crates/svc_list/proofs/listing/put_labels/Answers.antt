use Rattle.std.proofs.Common.{◌∙◌}
use Rattle.svc_list.proofs.Printing.{label_put, no_label_put}
use Rattle.svc_list.proofs.listing.put_labels.Goals as goal

pub returns-in_ok-put_label : goal.returns-in_ok-put_label
returns-in_ok-put_label c = λ n is at same. label_put is n c.args.address c.args.out.now.items c.put_label.new.out.items at (same ∙ c.if-labelled.true) c.in_ok-put_label.ensures

pub returns-else-labelled : goal.returns-else-labelled
returns-else-labelled c = λ n is at same. no_label_put is n c.args.out.now.items (same ∙ c.if-labelled.false)
