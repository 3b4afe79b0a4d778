use Rattle.std.proofs.Common.{ℕ, List, refl, rules, subst, sym}
use Rattle.std.proofs.lemmas.Option.{IfSome_then}
use Rattle.svc_history_laws.specs.declared.entry.Entry.{Entry}
use Rattle.svc_request.specs.declared.request.Request.TheVariants as request
use Rattle.svc_answer.specs.Drawings.{IsDrawing, IsDrawn}
use Rattle.svc_answer.specs.Named.{AreNamesIn}
use Rattle.svc_answer.proofs.Answering.{failed_save}
use Rattle.svc_replay.proofs.draw.draw.Goals as goal

pub returns-in_err-save : goal.returns-in_err-save
returns-in_err-save g c =
    let held = g.F.Files.held c.args.files.now in
    let saved = g.F.Files.held c.save.new.self in
    record {
      done = search rules;
      silent = search rules;
      order = search rules;
      machine = search rules;
      kept = c.save.ensures.others;
      spared = failed_save (request.Draw c.args.traced c.args.picture) held saved c.from_residual-in_err-save.result (search rules) (c.in_ok-image.image, c.in_ok-image.ensures.image);
    }

pub returns : goal.returns
returns g c =
    let p = c.args.picture in
    let held = g.F.Files.held c.args.files.now in
    let img = c.in_ok-image.image in
    let config = c.args.traced.config in
    let given = c.as_ref.result in
    let drawing : IsDrawing p img config c.in_ok-image.entries.items given c.in_ok-text.text.items =
    subst (λ (es : List Entry). IsDrawing p img config es given c.in_ok-text.text.items) c.deref.ensures.value c.in_ok-text.ensures.text in
    let saved : IsDrawing p img config c.in_ok-image.entries.items given c.deref-2.result.now =
    subst (IsDrawing p img config c.in_ok-image.entries.items given) (sym c.deref-2.ensures.value) drawing in
    record {
      done = (
        (
          img,
          c.in_ok-image.ensures.image,
          c.in_ok-image.entries.items,
          c.in_ok-image.ensures.trace,
          (
            subst (λ (es : List Entry). IsDrawn img config es p.view) c.deref.ensures.value c.in_ok-text.ensures.drawn,
            (
              given,
              subst (AreNamesIn held p.names) (sym c.as_ref.ensures.value) c.in_ok-names.ensures,
              IfSome_then (g.F.Files.held c.save.new.self p.file.now) c.in_ok-save.ensures.saved (λ known same. subst (IsDrawing p img config c.in_ok-image.entries.items given) (sym same) saved),
            ),
          ),
        ),
        refl,
        refl,
      );
      silent = tt;
      order = tt;
      machine = tt;
      kept = c.in_ok-save.ensures.others;
      spared = tt;
    }
