use Rattle.std.specs.Prelude.{IfSome}
use Rattle.std.proofs.Common.{List, Option, subst}
use denote.Ref.{Bor}
use Rattle.svc_image.specs.Image.{Image}
use Rattle.svc_explore_laws.specs.declared.observation.Observation.{Observation}
use Rattle.svc_explore_laws.specs.Closed.{IsIn}
use Rattle.svc_explore.specs.declared.found.Seen.{Seen}
use Rattle.svc_explore.specs.declared.walk.Exploration.{Exploration}
use Rattle.svc_explore.specs.Found.{are_seen}
use Rattle.svc_explore.specs.Witnesses.{IsFirstMatch}
use Rattle.svc_observations.specs.Sought.{Matches}
use Rattle.svc_answer.specs.Requests.{SavesAnyTrace}
use Rattle.svc_program.proofs.Finding.{answer_of, shown_if}
use Rattle.svc_program.proofs.find.look_for.Goals as goal

pub save_witness-requires : goal.save_witness-requires
save_witness-requires g c =
    let x : Exploration = c.in_ok-exploration.exploration in
    let seen : Option (Bor Seen) = c.find-seen.result in
    record {
      shown = shown_if c.args.image.now c.args.explored x.found.items c.in_ok-exploration.ensures.witnessed.shown seen
          (subst (λ l. IfSome seen (λ s. IsIn s.now l)) c.as_slice.ensures.value c.find-seen.ensures.found);
    }

pub returns-clause-found : goal.returns-clause-found
returns-clause-found g c =
    let x : Exploration = c.in_ok-exploration.exploration in
    let is = c.in_ok-exploration.ensures in
    let seen : Option (Bor Seen) = c.find-seen.result in
    record {
      exploration = x;
      is = is;
      seen = seen;
      answer = answer_of c.args.image.now c.args.explored c.args.sought x (SavesAnyTrace (g.F.Files.held c.save_witness.new.files) c.args.trace) is seen c.in_ok-status.ensures.whole
          (subst (λ l. IfSome seen (λ s. IsFirstMatch c.args.sought s.now l)) c.as_slice.ensures.value c.find-seen.ensures.first)
          c.find-seen.ensures.matches
          (λ none o there. c.find-seen.ensures.none none o (subst (λ l. IsIn o (are_seen l)) (Rattle.std.proofs.Common.sym c.as_slice.ensures.value) there))
          c.in_ok-save_witness.ensures.saved;
      text = c.in_ok-print_finding.ensures.told;
      status = c.in_ok-status.ensures.status;
    }
