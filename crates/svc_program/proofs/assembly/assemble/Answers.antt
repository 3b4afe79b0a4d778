use Rattle.std.specs.Prelude.{IfSome, option_map}
use Rattle.std.proofs.Common.{◌≡◌, ◌∙◌, ℕ, List, Option, Some, inl, inr, refl, rules, subst, sym}
use denote.Ref.{Bor}
use Rattle.svc_image.specs.Format.{file_of}
use Rattle.svc_request.specs.declared.request.Request.TheVariants as request
use Rattle.svc_answer.specs.Assembly.{IsTableOfText, text_held}
use Rattle.svc_answer.proofs.Answering.{all_kept, both_kept, failed_save}
use Rattle.svc_program.proofs.Assembled.{both_saved, image_kept, names_saved, program_of}
use Rattle.svc_program.proofs.assembly.assemble.Goals as goal

pub returns : goal.returns
returns g c =
    let held = g.F.Files.held c.args.files.now in
    let between = g.F.Files.held c.save.new.self in
    let saved = g.F.Files.held c.save_table.new.files in
    let known = text_held held c.args.assembly.now in
    let name = c.args.assembly.now.image.now in
    let names = c.args.assembly.now.names in
    let bytes = c.in_ok-text.text.items in
    let table = c.in_ok-table.table.items in
    let image = c.in_ok-image.image in
    let kept = image_kept names between saved name c.save_table.ensures.kept (λ over. c.requires.apart (inr (inr over))) in
    record {
      done = (
        record {
          image = image;
          sound = c.in_ok-image.ensures.sound;
          program = program_of known bytes image c.in_ok-text.ensures (rw c.deref.ensures.value at c.in_ok-image.ensures.program);
          saved = subst (λ (file : Option (List ℕ)). IfSome file (λ k. k ≡ file_of image)) (sym kept) (subst (λ (file : List ℕ). IfSome (between name) (λ k. k ≡ file)) (c.deref-3.ensures.value ∙ c.in_ok-file.ensures.ok) c.in_ok-save.ensures.saved);
          status = refl;
        },
        names_saved names known saved bytes table c.in_ok-text.ensures (subst (λ (b : List ℕ). IfSome names (λ (n : Bor (List ℕ)). IsTableOfText b table)) c.deref-2.ensures.value c.in_ok-table.ensures)
            (subst (λ (t : List ℕ). IfSome names (λ (n : Bor (List ℕ)). IfSome (saved n.now) (λ k. k ≡ t))) c.deref-4.ensures.value c.in_ok-save_table.ensures.saved),
        refl,
      );
      silent = tt;
      order = tt;
      machine = tt;
      kept = both_saved names held between saved name c.in_ok-save.ensures.others c.save_table.ensures.kept;
      spared = tt;
    }

pub returns-in_err-save : goal.returns-in_err-save
returns-in_err-save g c =
    let held = g.F.Files.held c.args.files.now in
    let saved = g.F.Files.held c.save.new.self in
    let known = text_held held c.args.assembly.now in
    let image = c.in_ok-image.image in
    let names = option_map (λ (n : Bor (List ℕ)). n.now) c.args.assembly.now.names in
    let program = program_of known c.in_ok-text.text.items image c.in_ok-text.ensures (rw c.deref.ensures.value at c.in_ok-image.ensures.program) in
    record {
      done = search rules;
      silent = search rules;
      order = search rules;
      machine = search rules;
      kept = both_saved c.args.assembly.now.names held saved saved c.args.assembly.now.image.now c.save.ensures.others (all_kept names saved);
      spared = failed_save (request.Assemble c.args.assembly.now) held saved c.from_residual-in_err-save.result (search rules) (image, c.in_ok-image.ensures.sound, program);
    }

pub returns-in_err-save_table : goal.returns-in_err-save_table
returns-in_err-save_table g c =
    let held = g.F.Files.held c.args.files.now in
    let between = g.F.Files.held c.save.new.self in
    let saved = g.F.Files.held c.save_table.new.files in
    let known = text_held held c.args.assembly.now in
    let image = c.in_ok-image.image in
    let program = program_of known c.in_ok-text.text.items image c.in_ok-text.ensures (rw c.deref.ensures.value at c.in_ok-image.ensures.program) in
    record {
      done = search rules;
      silent = search rules;
      order = search rules;
      machine = search rules;
      kept = both_saved c.args.assembly.now.names held between saved c.args.assembly.now.image.now c.in_ok-save.ensures.others c.save_table.ensures.kept;
      spared = failed_save (request.Assemble c.args.assembly.now) held saved c.from_residual-in_err-save_table.result (search rules) (image, c.in_ok-image.ensures.sound, program);
    }

pub returns-in_err-file : goal.returns-in_err-file
returns-in_err-file g c =
    let held = g.F.Files.held c.args.files.now in
    let names = option_map (λ (n : Bor (List ℕ)). n.now) c.args.assembly.now.names in
    record {
      done = search rules;
      silent = search rules;
      order = search rules;
      machine = search rules;
      kept = both_kept (Some c.args.assembly.now.image.now) names held;
      spared = search rules;
    }

pub returns-in_err-table : goal.returns-in_err-table
returns-in_err-table g c =
    let held = g.F.Files.held c.args.files.now in
    let names = option_map (λ (n : Bor (List ℕ)). n.now) c.args.assembly.now.names in
    record {
      done = search rules;
      silent = search rules;
      order = search rules;
      machine = search rules;
      kept = both_kept (Some c.args.assembly.now.image.now) names held;
      spared = search rules;
    }
