use Rattle.svc_script.proofs.LeadingBack.{led_back}
use Rattle.svc_script.proofs.leading.script_leads_back.Goals as goal

pub returns : goal.returns
returns c = λ img is config es legal rows. led_back img is config es legal rows
