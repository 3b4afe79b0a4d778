use Rattle.std.proofs.Common.{rules}
use Rattle.svc_answer.proofs.Reading.{whole_front}
use Rattle.svc_answer.proofs.front.front_of.Goals as goal

pub returns-in-Ok-clause-whole : goal.returns-in-Ok-clause-whole
returns-in-Ok-clause-whole g c = search (rules, whole_front c.args.most (g.R.Read.remaining c.args.reader) c.read_to_end.new.buf.items)
