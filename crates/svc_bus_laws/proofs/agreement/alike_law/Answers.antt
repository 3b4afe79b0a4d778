use Rattle.svc_bus_laws.proofs.Alike.{alike_reads, alike_writes, alike_replacements, alike_squashes, alike_commits, alike_beginnings, alike_maps}
use Rattle.svc_bus_laws.proofs.agreement.alike_law.Goals as goal

pub returns : goal.returns
returns c = record {
  read = λ s t p a alike. alike_reads s t alike p a;
  write = λ s t p a w alike. alike_writes s t alike p a w;
  replace = λ s t u a alike. alike_replacements s t alike u a;
  squash = λ s t n alike. alike_squashes s t alike n;
  commit = alike_commits;
  begin = λ s t u alike. alike_beginnings s t alike u;
  one_map = alike_maps;
}
