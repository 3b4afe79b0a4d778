use Rattle.std.proofs.Common.{◌≡◌, ◌++◌, drop}
use Rattle.svc_export.specs.Chrome.{replacements}
use Rattle.svc_export.proofs.chrome.put_replacements.Given as goal

abbrev pub invariant-loop-index : goal.invariant-loop-index
invariant-loop-index l = l.text.items ++ replacements l.index (drop l.index l.entries) ≡ l.fn.text.items ++ replacements 0 l.entries
