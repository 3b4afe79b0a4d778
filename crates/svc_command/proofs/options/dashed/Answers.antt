use Rattle.std.specs.Prelude.{IfSome, MatchOption, codes}
use Rattle.std.proofs.Common.{Option, Some, None}
use Rattle.std.proofs.lemmas.Str.Pattern.{split_text_parts}
use Rattle.svc_command.proofs.options.dashed.Goals as goal

if_some : {A : Type 0} (r : Option A) (No : Type 0) (Yes : A → Type 0) → MatchOption r No Yes → IfSome r Yes
if_some None No Yes found = tt
if_some (Some x) No Yes found = found

pub returns : goal.returns
returns c =
    if_some c.split_once.result _ _ (split_text_parts (codes "-") c.args.text.now c.split_once.result c.split_once.ensures.cases)
