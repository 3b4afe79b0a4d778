use Rattle.svc_names.specs.Given.{listed}
use Rattle.svc_list.proofs.Printing.{split_put}
use Rattle.svc_list.proofs.listing.put_split.Goals as goal

pub returns : goal.returns
returns c =
    split_put (listed c.args.names) c.args.read_only c.args.words.now _ _ _ _ _ _ c.split_at-parts.ensures.front c.split_at-parts.ensures.back c.in_ok-put_data.ensures c.in_ok-put_line.ensures c.in_ok-put_data-2.ensures
