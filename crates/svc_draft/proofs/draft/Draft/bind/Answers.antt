use Rattle.std.proofs.Common.{◌≡◌, ◌∙◌, sym, ap, false, List, ℕ, Some}
use Rattle.std.specs.Str.{bytes_eq}
use Rattle.std.specs.Map.{update}
use Rattle.std.specs.HashMap.{get_by}
use Rattle.std.proofs.lemmas.Map.Text.{hash_map_updates_str}
use Rattle.std.proofs.Math.Path.{fun_ext}
use Rattle.svc_layout.specs.declared.source.Binding.{Binding}
use Rattle.svc_draft.specs.Drafts.{source_of, layout_of}
use Rattle.svc_layout.specs.Sources.{Bindings, binding_with}
use Rattle.svc_layout.specs.Labels.{with_binding}
use Rattle.svc_draft.proofs.draft.Draft.bind.Goals as goal

pub returns : goal.returns
unfolding with_binding
returns c =
    let name = c.args.name.now in
    let d = layout_of c.args.self.now in
    let so_far = source_of c.args.self.now.source_read in
    let new : c.binding_with-binding.result ≡ binding_with (so_far.bindings name) c.args.binding = c.binding_with-binding.ensures ∙ ap (λ o. binding_with o c.args.binding) c.binding_of.ensures in
    let found : (q : List ℕ) → get_by (λ key. bytes_eq q key.now) c.insert.new.self ≡ update bytes_eq so_far.bindings name (Some c.binding_with-binding.result) q =
    hash_map_updates_str name c.args.self.now.source_read.bindings c.insert.new.self (Some c.binding_with-binding.result) c.in_ok-insert.ensures.updates in
    let bindings : (λ (q : List ℕ). get_by (λ key. bytes_eq q key.now) c.insert.new.self) ≡ update bytes_eq so_far.bindings name (Some (binding_with (so_far.bindings name) c.args.binding)) =
    fun_ext found ∙ ap (λ (b : Binding). update bytes_eq so_far.bindings name (Some b)) new in
    rw c.if-self.false (ap (λ (bs : Bindings). Some (record d { known = false; source = record so_far { bindings = bs } })) (sym bindings))
