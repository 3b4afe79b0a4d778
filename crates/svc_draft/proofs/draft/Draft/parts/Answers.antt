use Rattle.std.proofs.Common.{sym, ◌∙◌}
use Rattle.std.proofs.lemmas.List.{length-map}
use Rattle.svc_image.specs.declared.parts.Parts.{Parts}
use Rattle.svc_draft.specs.Drafts.{layout_of}
use Rattle.svc_draft.proofs.Made.{AreParts, has-limits, made-laid}
use Rattle.svc_draft.proofs.draft.Draft.parts.Goals as goal
use Rattle.svc_draft.proofs.draft.Draft.parts.Goals.{After-drop-self-in-Ok-10}

abbrev parts : After-drop-self-in-Ok-10 → Parts
parts c = record { own = c.in-Ok.field-0.own; start = c.start_place-start.result; registers = c.args.self.registers; entries = c.in-Ok.field-0.entries; text = c.args.self.text; words = c.in-Ok.field-0.words }

are : (c : After-drop-self-in-Ok-10) → AreParts (parts c) (layout_of c.args.self)
are c = record {
  same_own = c.in-Ok.ensures.own;
  same_start = c.start_place-start.ensures;
  same_registers = λ i. c.args.self.registers;
  same_entries = c.in-Ok.ensures.entries;
  same_text = λ i. c.args.self.text.items;
  same_words = c.in-Ok.ensures.words;
}

pub returns-in-Ok-clause-limits : goal.returns-in-Ok-clause-limits
returns-in-Ok-clause-limits c =
    has-limits (parts c) (layout_of c.args.self) (are c) (length-map c.args.self.entries.items (λ m. m.limit) ∙ sym (length-map c.args.self.entries.items (λ m. m.place)))

pub returns-in-Ok-clause-made : goal.returns-in-Ok-clause-made
returns-in-Ok-clause-made c = made-laid (parts c) (layout_of c.args.self) (are c)
