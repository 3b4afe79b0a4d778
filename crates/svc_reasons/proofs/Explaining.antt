-- What is told of an entry is what the machine answers behind those before it.
use Rattle.std.proofs.Common.{◌≡◌, ◌+◌, ℕ, List, Option, Some, subst, take}
use Rattle.std.specs.Prelude.{IfSome, is_some, slice_get}
use Rattle.svc_base.specs.declared.config.Config.{Config}
use Rattle.svc_image.specs.Image.{Image}
use Rattle.svc_history_laws.specs.declared.entry.Entry.{Entry}
use Rattle.svc_history.specs.Recorded.{Recorded}
use Rattle.svc_request.specs.declared.request.Compared.{Compared}
use Rattle.svc_script.specs.declared.playing.Answer.{Answer}
use Rattle.svc_script.specs.Answering.{IsAnswerTo}
use Rattle.svc_script.specs.Suppliers.{has_numbers}
use Rattle.svc_reasons.specs.Explained.{AreSound, Explains, compared_entry}
use Rattle.svc_reasons.specs.Reasons.{IsReason}

pub explained : (compared : Compared) (img : Image) (config : Config) (es : List Entry) (index : ℕ) (text : List ℕ) (entry shown : Entry) (r : Recorded) (answer : Option Answer)
    → slice_get es index ≡ Some entry → r.machine.image ≡ img → r.machine.config ≡ config → AreSound compared img config (take index es) r.entries
    → IfSome answer (IsAnswerTo r.machine.image r.machine.config r.entries entry) → is_some answer ≡ has_numbers entry.kind entry
    → shown ≡ compared_entry compared answer entry → IsReason (index + 2) shown answer text → Explains compared img config es index text
explained compared img config es index text entry shown r answer there image config_is sound answered numbers same told = record {
  entry = entry;
  there = there;
  before = r.entries;
  sound = sound;
  answer = answer;
  answered = subst (λ (g : Config). IfSome answer (IsAnswerTo img g r.entries entry)) config_is
      (subst (λ (i : Image). IfSome answer (IsAnswerTo i r.machine.config r.entries entry)) image answered);
  numbers = numbers;
  told = subst (λ (s : Entry). IsReason (index + 2) s answer text) same told;
}
